-- The bodies of commands are bodies of frames, whatever their numbers.
use Rattle.std.proofs.Common.{◌≡◌, ◌∙◌, ℕ, suc, ◌+◌, ◌^◌, ◌≤◌, ◌<◌, List, [], ◌∷◌, ◌++◌, length}
use Rattle.std.proofs.Common.{true, ℤ, pos, negsuc, refl, w32, w64, arith, codes}
use Rattle.std.proofs.Common.{ap, append_assoc, length-append, sym}
use Rattle.std.proofs.lemmas.Bool.Decides.{nat_tests}
use Rattle.std.proofs.lemmas.Fmt.{decimal_is_IsNumeral_wide, length-decimal-le_wide}
use Rattle.std.proofs.lemmas.List.Folds.{list_all-append}
use Rattle.std.proofs.lemmas.Str.Parse.{digit_from_value}
use Rattle.std.specs.Fmt.{decimal, signed_decimal}
use Rattle.std.specs.Int.{w128}
use Rattle.std.specs.List.{list_all}
use Rattle.std.specs.Prelude.{FitsSigned, nat_abs}
use Rattle.std.specs.Str.Parse.{AllDigits}
use Rattle.dp_num.specs.declared.fractions.Fraction.{Fraction}
use Rattle.frame.specs.Bodies.{is_body, is_body_byte}
use Rattle.frame.specs.declared.body.TheConstants.{MOST_BODY_BYTES}
use Rattle.plant_model.specs.Names.{is_name, is_name_byte}
use Rattle.plant_model.specs.declared.limits.TheConstants.{MOST_NAME_BYTES}
use Rattle.plant_model.specs.declared.parts.Thruster.{Thruster}
use Rattle.plant_model.specs.declared.thrust.Thrust.{Thrust}
use Rattle.plant_model.specs.declared.wrench.Wrench.{Wrench}
use Rattle.log_text.specs.Commands.{IsPart, command_body, command_head, part_text, thrust_body}
use Rattle.log_text.specs.Outcomes.{thrust_text, wrench_text}

pub part-append : {m n : ℕ} {xs ys : List ℕ} → IsPart m xs → IsPart n ys → IsPart (m + n) (xs ++ ys)
part-append {m} {n} {xs} {ys} first second =
    let front = first.each in
    let back = second.each in
    record {
      few = omega (arith, length-append xs ys, first.few, second.few);
      each = list_all-append is_body_byte xs ys ∙ rw (front, back) refl;
    }

pub part-known : (bytes : List ℕ) → list_all is_body_byte bytes ≡ true
    → IsPart (length bytes) bytes
part-known bytes each = record { few = omega arith; each = each }

-- a field more, after a comma
pub part-field : {m n : ℕ} {xs ys : List ℕ} → IsPart m xs → IsPart n ys
    → IsPart (m + 1 + n) (xs ++ codes "," ++ ys)
part-field first second = part-append (part-append first (part-known (codes ",") refl)) second

pub is_body-part : (most : ℕ) (bytes : List ℕ) → IsPart most bytes → most ≤ MOST_BODY_BYTES
    → 1 ≤ length bytes → is_body bytes ≡ true
is_body-part most bytes part small some =
    let few : length bytes ≤ MOST_BODY_BYTES = omega (arith, part.few) in
    let each = part.each in
    grind (arith, nat_tests)

-- ---- numbers

each-digits : (digits : List ℕ) → AllDigits 10 digits → list_all is_body_byte digits ≡ true
each-digits [] each = refl
each-digits (b ∷ bs) each =
    let here = digit_from_value b each.0 in
    let low : 48 ≤ b = here.0 in
    let high : b ≤ 57 = here.1 in
    let others : list_all is_body_byte bs ≡ true = each-digits bs each.1 in
    grind (arith, nat_tests)

pub part-decimal : (k n : ℕ) → 0 < k → n < 10 ^ k → n < 10 ^ 64 → IsPart k (decimal n)
part-decimal k n some few wide = record {
  few = length-decimal-le_wide k n some few wide;
  each = each-digits (decimal n) (decimal_is_IsNumeral_wide n wide).0.1;
}

pub part-signed : (k : ℕ) (z : ℤ) → 0 < k → nat_abs z < 10 ^ k → nat_abs z < 10 ^ 64
    → IsPart (1 + k) (signed_decimal z)
part-signed k (pos n) some few wide =
    let digits = part-decimal k n some few wide in
    record { few = omega (arith, digits.few); each = digits.each }
part-signed k (negsuc n) some few wide =
    part-append {m = 1} {n = k} {xs = 45 ∷ []} (record { few = omega arith; each = refl })
    (part-decimal k (suc n) some few wide)

pub part-u32 : (n : ℕ) → n < 2 ^ 32 → IsPart 10 (decimal n)
part-u32 n small = part-decimal 10 n (omega arith) (omega arith) (omega arith)

-- whatever the numbers of the types
pub part-i32 : (z : ℤ) → FitsSigned w32 z → IsPart 11 (signed_decimal z)
part-i32 (pos n) fits =
    part-signed 10 (pos n) (omega arith) (omega (arith, fits.sfits)) (omega (arith, fits.sfits))
part-i32 (negsuc n) fits =
    part-signed 10 (negsuc n) (omega arith) (omega (arith, fits.sfits)) (omega (arith, fits.sfits))

pub part-i64 : (z : ℤ) → FitsSigned w64 z → IsPart 20 (signed_decimal z)
part-i64 (pos n) fits =
    part-signed 19 (pos n) (omega arith) (omega (arith, fits.sfits)) (omega (arith, fits.sfits))
part-i64 (negsuc n) fits =
    part-signed 19 (negsuc n) (omega arith) (omega (arith, fits.sfits)) (omega (arith, fits.sfits))

pub part-i128 : (z : ℤ) → FitsSigned w128 z → IsPart 40 (signed_decimal z)
part-i128 (pos n) fits =
    part-signed 39 (pos n) (omega arith) (omega (arith, fits.sfits)) (omega (arith, fits.sfits))
part-i128 (negsuc n) fits =
    part-signed 39 (negsuc n) (omega arith) (omega (arith, fits.sfits)) (omega (arith, fits.sfits))

-- ---- names

each-name : (name : List ℕ) → list_all is_name_byte name ≡ true
    → list_all is_body_byte name ≡ true
each-name [] each = refl
each-name (b ∷ bs) each =
    let first : is_name_byte b ≡ true = grind (arith, nat_tests) in
    let good : is_body_byte b ≡ true = name_byte b first in
    let others : list_all is_name_byte bs ≡ true = grind (arith, nat_tests) in
    let rest : list_all is_body_byte bs ≡ true = each-name bs others in
    rw (good, rest) refl
  where
    name_byte : (b : ℕ) → is_name_byte b ≡ true → is_body_byte b ≡ true
    name_byte b good = grind (arith, nat_tests)

pub part-name : (name : List ℕ) → is_name name ≡ true → IsPart MOST_NAME_BYTES name
part-name name good =
    let each : list_all is_name_byte name ≡ true = grind (arith, nat_tests) in
    record { few = grind (arith, nat_tests); each = each-name name each }

-- ---- bodies

pub part-wrench : (demand : Wrench) → FitsSigned w32 demand.x → FitsSigned w32 demand.y
    → FitsSigned w32 demand.n → IsPart 35 (wrench_text demand)
part-wrench demand x y n =
    part-field (part-field (part-i32 demand.x x) (part-i32 demand.y y)) (part-i32 demand.n n)

pub part-fraction : (part : Fraction) → FitsSigned w64 part.top → FitsSigned w64 part.bottom
    → IsPart 41 (part_text part)
part-fraction part top bottom =
    part-field (part-i64 part.top top) (part-i64 part.bottom bottom)

pub is_body-command : (moment version : ℕ) (demand : Wrench) (part : Fraction) → moment < 2 ^ 32
    → version < 2 ^ 32 → IsPart 35 (wrench_text demand) → IsPart 41 (part_text part)
    → is_body (command_body moment version demand part) ≡ true
is_body-command moment version demand part m v asked given =
    let first = part-append (part-known (codes "CMD,") refl) (part-u32 moment m) in
    let second = part-field first (part-u32 version v) in
    is_body-part 103 (command_body moment version demand part)
    (part-field (part-field second asked) given) (omega arith) (omega arith)

pub part-thrust : (thrust : Thrust) → FitsSigned w128 thrust.x → FitsSigned w128 thrust.y
    → IsPart 82 (thrust_text thrust)
part-thrust thrust x y =
    part-field (part-append (part-known (codes ",") refl) (part-i128 thrust.x x))
    (part-i128 thrust.y y)

pub is_body-thrust : (q : ℤ) (thruster : Thruster) (thrust : Thrust)
    → is_name thruster.name ≡ true → FitsSigned w64 q → IsPart 82 (thrust_text thrust)
    → is_body (thrust_body q (thruster, thrust)) ≡ true
is_body-thrust q thruster thrust named over given =
    let first = part-append (part-known (codes "THC,") refl) (part-name thruster.name named) in
    is_body-part 119 (thrust_body q (thruster, thrust))
    (part-field (part-append first given) (part-i64 q over)) (omega arith) (omega arith)

two_more : (comma zero asked given : List ℕ)
    → zero ++ (comma ++ asked) ++ (comma ++ given) ≡ zero ++ comma ++ asked ++ comma ++ given
two_more comma zero asked given =
    ap (λ (t : List ℕ). t ++ (comma ++ given)) (sym (append_assoc zero comma asked))
    ∙ sym (append_assoc (zero ++ comma ++ asked) comma given)

-- the body of a command, one part after another
pub command_body-parts : (moment version : ℕ) (demand : Wrench) (part : Fraction)
    (zero one two : List ℕ) → zero ≡ command_head moment version
    → one ≡ zero ++ (codes "," ++ wrench_text demand) → two ≡ one ++ (codes "," ++ part_text part)
    → two ≡ command_body moment version demand part
command_body-parts moment version demand part zero one two h₀ h₁ h₂ =
    h₂
    ∙ ap (λ (t : List ℕ). t ++ (codes "," ++ part_text part)) h₁
    ∙ two_more (codes ",") zero (wrench_text demand) (part_text part)
    ∙ ap (λ (t : List ℕ). t ++ codes "," ++ wrench_text demand ++ codes "," ++ part_text part) h₀
