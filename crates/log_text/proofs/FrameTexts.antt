-- The frame of a body is text.
use Rattle.std.proofs.Common.{◌≡◌, ℕ, ◌/◌, ◌%◌, ◌^◌, ◌<◌, List, [], ◌∷◌, ◌++◌, true, bit_xor}
use Rattle.std.proofs.Common.{arith, lit<, refl, Ok, Err, Result}
use Rattle.std.proofs.Math.Nat.{div-lt_iff_lt-mul, mod-lt}
use Rattle.std.proofs.lemmas.Bool.Decides.{nat_tests}
use Rattle.std.proofs.lemmas.List.Elements.{All-append, All-cons, All-nil}
use Rattle.std.proofs.lemmas.Nat.{xor_lt}
use Rattle.std.proofs.lemmas.Str.{IsUtf8-from_ascii}
use Rattle.std.proofs.lemmas.Str.Ascii.{IsAscii-from_all}
use Rattle.std.specs.List.{All, fold, list_all}
use Rattle.std.specs.Result.{IsOk, MatchResult}
use Rattle.std.specs.Str.{IsUtf8}
use Rattle.frame.specs.Bodies.{dollar, is_body, is_body_byte, star}
use Rattle.frame.specs.Frames.{checksum, frame_text, line_feed, upper_digit}

abbrev IsAsciiByte : ℕ → Type 0
IsAsciiByte b = b < 128

each_body_byte : (body : List ℕ) → is_body body ≡ true → list_all is_body_byte body ≡ true
each_body_byte body good = grind (arith, nat_tests)

pub ascii-body : (bytes : List ℕ) → list_all is_body_byte bytes ≡ true → All IsAsciiByte bytes
ascii-body [] each = All-nil IsAsciiByte
ascii-body (b ∷ bs) each =
    let others : list_all is_body_byte bs ≡ true = grind (arith, nat_tests) in
    let first : IsAsciiByte b = grind (arith, nat_tests) in
    All-cons IsAsciiByte b bs first (ascii-body bs others)

-- an exclusive or of these bytes is one of them
fold-ascii : (bytes : List ℕ) (sum : ℕ) → sum < 2 ^ 7 → list_all is_body_byte bytes ≡ true
    → fold bit_xor sum bytes < 2 ^ 7
fold-ascii [] sum small each = small
fold-ascii (b ∷ bs) sum small each =
    let first : is_body_byte b ≡ true = grind (arith, nat_tests) in
    let others : list_all is_body_byte bs ≡ true = grind (arith, nat_tests) in
    let byte : b < 2 ^ 7 = grind (arith, nat_tests) in
    fold-ascii bs (bit_xor sum b) (xor_lt 7 sum b small byte) others

ascii-digit : (n : ℕ) → n < 16 → IsAsciiByte (upper_digit n)
ascii-digit n small = grind (arith, nat_tests)

pub IsUtf8-frame_text : (body : List ℕ) → is_body body ≡ true → IsUtf8 (frame_text body)
IsUtf8-frame_text body good =
    let each : list_all is_body_byte body ≡ true = each_body_byte body good in
    let sum = checksum body in
    let small : sum < 2 ^ 7 = fold-ascii body 0 (lit< tt) each in
    let high : sum / 16 < 16 = (div-lt_iff_lt-mul (lit< tt)).1 (omega arith) in
    let low : sum % 16 < 16 = mod-lt sum (lit< tt) in
    let last : List ℕ = upper_digit (sum % 16) ∷ line_feed ∷ [] in
    let digits : List ℕ = upper_digit (sum / 16) ∷ last in
    let end : All IsAsciiByte last =
    All-cons IsAsciiByte (upper_digit (sum % 16)) (line_feed ∷ []) (ascii-digit (sum % 16) low)
    (All-cons IsAsciiByte line_feed [] (lit< tt) (All-nil IsAsciiByte)) in
    let back : All IsAsciiByte (star ∷ digits) =
    All-cons IsAsciiByte star digits (lit< tt)
    (All-cons IsAsciiByte (upper_digit (sum / 16)) last (ascii-digit (sum / 16) high) end) in
    IsUtf8-from_ascii (frame_text body)
    (IsAscii-from_all (frame_text body)
    (All-cons IsAsciiByte dollar (body ++ star ∷ digits) (lit< tt)
    (All-append IsAsciiByte body (star ∷ digits) (ascii-body body each) back)))

pub ok_from_text : {T E : Type 0} (P : T → Type 0) (Q : E → Type 0) (r : Result T E)
    → MatchResult r P Q → ((e : E) → ¬ Q e) → IsOk r
ok_from_text P Q (Ok text) cases good = refl
ok_from_text P Q (Err e) cases good = absurd (good e cases)
