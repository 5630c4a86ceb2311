-- The items of contents are those of the grammar.
use Rattle.std.proofs.Common.{◌≡◌, ℕ, ◌+◌, ◌-◌, ◌*◌, ◌<◌, ◌≤◌, ◌↔◌, List, [], ◌∷◌, ◌++◌, length}
use Rattle.std.proofs.Common.{take, drop, Bool, true, false, ◌&&◌, ◌==◌, nat_le, cond, get_or}
use Rattle.std.proofs.Common.{Option, Some, None, refl, ap, sym, ◌∙◌, arith, length-append}
use Rattle.std.proofs.lemmas.Bool.{and_parts, leb-true, eqb-true, eq-eqb, le-leb}
use Rattle.std.proofs.lemmas.Bool.Decides.{nat_tests}
use Rattle.std.proofs.lemmas.List.{drop_all, drop_more, take-append-drop, drop-drop, take_at}
use Rattle.std.proofs.lemmas.List.{get_or-append-add}
use Rattle.frame.specs.Bodies.{is_body, dollar, star}
use Rattle.frame.specs.declared.item.TheConstants.{MOST_FRAME_BYTES}
use Rattle.frame.specs.declared.item.Damage.TheVariants.{Shape, TooLong, Checksum}
use Rattle.frame.specs.declared.item.Item.{Item}
use Rattle.frame.specs.declared.item.Item.TheVariants.{Body, Damaged}
use Rattle.frame.specs.Frames.{HasNoShape, HasOtherSum, HasShape, IsFrame, checksum}
use Rattle.frame.specs.Frames.{hexadecimal_value, item_of_content, item_of_shape, shape_of}
use Rattle.frame.specs.Frames.{with_sum}

-- ---- from the bytes to the shape

drop_next : (xs : List ℕ) (i j : ℕ) → i < length xs → j ≡ i + 1
    → drop i xs ≡ get_or xs i 0 ∷ drop j xs
drop_next xs i j within next =
    drop_more xs i 0 within ∙ ap (λ k. get_or xs i 0 ∷ drop k xs) (sym next)

last_three : (xs : List ℕ) (n : ℕ) → length xs ≡ n + 3
    → drop n xs ≡ get_or xs n 0 ∷ get_or xs (n + 1) 0 ∷ get_or xs (n + 2) 0 ∷ []
last_three xs n count =
    drop_next xs n (n + 1) (omega arith) refl
    ∙ ap (λ (rest : List ℕ). get_or xs n 0 ∷ rest)
    (drop_next xs (n + 1) (n + 2) (omega arith) (omega arith))
    ∙ ap (λ (rest : List ℕ). get_or xs n 0 ∷ get_or xs (n + 1) 0 ∷ rest)
    (drop_next xs (n + 2) (n + 3) (omega arith) (omega arith)
    ∙ ap (λ (rest : List ℕ). get_or xs (n + 2) 0 ∷ rest) (drop_all (n + 3) xs (omega arith)))

-- a list of four elements or more is its first, those in the middle, and its last three
ends : (xs : List ℕ) → 4 ≤ length xs
    → xs ≡ get_or xs 0 0 ∷ take (length xs - 4) (drop 1 xs) ++ get_or xs (length xs - 3) 0
    ∷ get_or xs (length xs - 2) 0 ∷ get_or xs (length xs - 1) 0 ∷ []
ends xs long =
    let n = length xs in
    let second : length xs - 3 + 1 ≡ length xs - 2 = omega arith in
    let third : length xs - 3 + 2 ≡ length xs - 1 = omega arith in
    let start : 1 + (length xs - 4) ≡ length xs - 3 = omega arith in
    let back : drop (n - 3) xs ≡ get_or xs (n - 3) 0 ∷ get_or xs (n - 2) 0 ∷ get_or xs (n - 1) 0
    ∷ [] =
    rw (← second, ← third) (last_three xs (n - 3) (omega arith)) in
    drop_next xs 0 1 (omega arith) refl
    ∙ ap (λ (rest : List ℕ). get_or xs 0 0 ∷ rest)
    (sym (take-append-drop (n - 4) (drop 1 xs))
    ∙ ap (λ (rest : List ℕ). take (n - 4) (drop 1 xs) ++ rest)
    (drop-drop (n - 4) 1 xs ∙ ap (λ k. drop k xs) start ∙ back))

-- what a test and two digits must be for this body and this sum
record Parts (test : Bool) (inner : List ℕ) (high low : Option ℕ) (body : List ℕ) (sum : ℕ)
    : Type 0 where
  test_is : test ≡ true
  body_is : inner ≡ body
  high_value : ℕ
  low_value : ℕ
  high_is : high ≡ Some high_value
  low_is : low ≡ Some low_value
  sum_is : 16 * high_value + low_value ≡ sum

same_pair : (p q : List ℕ × ℕ) → Some p ≡ Some q → (p.0 ≡ q.0) × (p.1 ≡ q.1)
same_pair p q is =
    let same : p ≡ q = cc in
    (ap (λ (pair : List ℕ × ℕ). pair.0) same, ap (λ (pair : List ℕ × ℕ). pair.1) same)

parts : (test : Bool) (inner : List ℕ) (high low : Option ℕ) (body : List ℕ) (sum : ℕ)
    → cond test (with_sum inner high low) None ≡ Some (body, sum)
    → Parts test inner high low body sum
parts true inner (Some high) (Some low) body sum is =
    record {
      test_is = refl;
      body_is = (same_pair (inner, 16 * high + low) (body, sum) is).0;
      high_value = high;
      low_value = low;
      high_is = refl;
      low_is = refl;
      sum_is = (same_pair (inner, 16 * high + low) (body, sum) is).1;
    }
parts true inner (Some high) None body sum is = absurd (cc)
parts true inner None low body sum is = absurd (cc)
parts false inner high low body sum is = absurd (cc)

shape_of-HasShape : (content body : List ℕ) (sum : ℕ) → shape_of content ≡ Some (body, sum)
    → HasShape content body sum
shape_of-HasShape content body sum is =
    let n = length content in
    let inner = take (n - 4) (drop 1 content) in
    let found = parts _ inner (hexadecimal_value (get_or content (n - 2) 0))
    (hexadecimal_value (get_or content (n - 1) 0)) body sum is in
    let good = and_parts _ _ found.test_is in
    let starred = and_parts _ _ good.0 in
    let begun = and_parts _ _ starred.0 in
    let long : 4 ≤ n = leb-true 4 n begun.0 in
    let first : get_or content 0 0 ≡ dollar = eqb-true (get_or content 0 0) dollar begun.1 in
    let before_sum : get_or content (n - 3) 0 ≡ star =
    eqb-true (get_or content (n - 3) 0) star starred.1 in
    record {
      high = get_or content (n - 2) 0;
      low = get_or content (n - 1) 0;
      spelled = rw (← first, ← before_sum, ← found.body_is) (ends content long);
      body_is = ap is_body (sym found.body_is) ∙ good.1;
      high_value = found.high_value;
      low_value = found.low_value;
      high_is = found.high_is;
      low_is = found.low_is;
      sum_is = found.sum_is;
    }

-- ---- and back

at_end : (front back : List ℕ) (k i : ℕ) → k ≡ length front + i
    → get_or (front ++ back) k 0 ≡ get_or back i 0
at_end front back k i is =
    ap (λ n. get_or (front ++ back) n 0) is ∙ get_or-append-add front back i 0

all_pass : (a b c d : Bool) (high low : Option ℕ) (high_value low_value : ℕ) (found body : List ℕ)
    → a ≡ true → b ≡ true → c ≡ true → d ≡ true → high ≡ Some high_value → low ≡ Some low_value
    → found ≡ body
    → cond (a && b && c && d) (with_sum found high low) None
    ≡ Some (body, 16 * high_value + low_value)
all_pass a b c d high low high_value low_value found body a_is b_is c_is d_is high_is low_is same =
    rw (a_is, b_is, c_is, d_is, high_is, low_is, same) refl

-- the shape of a content that is spelled so
shape_of-spelled : (body : List ℕ) (high low high_value low_value : ℕ) → is_body body ≡ true
    → hexadecimal_value high ≡ Some high_value → hexadecimal_value low ≡ Some low_value
    → shape_of (dollar ∷ body ++ star ∷ high ∷ low ∷ [])
    ≡ Some (body, 16 * high_value + low_value)
shape_of-spelled body high low high_value low_value body_is high_is low_is =
    let back : List ℕ = star ∷ high ∷ low ∷ [] in
    let content : List ℕ = dollar ∷ body ++ back in
    let count : length content ≡ length body + 4 = omega (arith, length-append body back) in
    let inner : take (length content - 4) (drop 1 content) ≡ body =
    take_at body back (length content - 4) (omega arith) in
    let star_at : get_or content (length content - 3) 0 ≡ star =
    at_end (dollar ∷ body) back (length content - 3) 0 (omega arith) in
    let high_at : get_or content (length content - 2) 0 ≡ high =
    at_end (dollar ∷ body) back (length content - 2) 1 (omega arith) in
    let low_at : get_or content (length content - 1) 0 ≡ low =
    at_end (dollar ∷ body) back (length content - 1) 2 (omega arith) in
    all_pass _ _ _ _ _ _ high_value low_value _ body
    (le-leb 4 (length content) (omega arith))
    (eq-eqb dollar dollar refl)
    (eq-eqb (get_or content (length content - 3) 0) star star_at)
    (ap is_body inner ∙ body_is)
    (ap hexadecimal_value high_at ∙ high_is)
    (ap hexadecimal_value low_at ∙ low_is)
    inner

HasShape-shape_of : (content body : List ℕ) (sum : ℕ) → HasShape content body sum
    → shape_of content ≡ Some (body, sum)
HasShape-shape_of content body sum shape =
    ap shape_of shape.spelled
    ∙ shape_of-spelled body shape.high shape.low shape.high_value shape.low_value shape.body_is
    shape.high_is shape.low_is
    ∙ ap (λ n. Some (body, n)) shape.sum_is

-- ---- what has the shape of a frame is short enough

is_body-short : (body : List ℕ) → is_body body ≡ true → length body + 4 ≤ MOST_FRAME_BYTES
is_body-short body good = grind (arith, nat_tests)

HasShape-short : (content body : List ℕ) (sum : ℕ) → HasShape content body sum
    → length content ≤ MOST_FRAME_BYTES
HasShape-short content body sum shape =
    let count : length content ≡ length (dollar ∷ body ++ star ∷ shape.high ∷ shape.low ∷ []) =
    ap length shape.spelled in
    omega (
      arith,
      is_body-short body shape.body_is,
      length-append body (star ∷ shape.high ∷ shape.low ∷ []),
    )

-- ---- what the rules say of an item

right_sum : (test : Bool) (inner body : List ℕ)
    → cond test (Body inner) (Damaged Checksum) ≡ Body body
    → (test ≡ true) × (inner ≡ body)
right_sum true inner body is = (refl, cc)
right_sum false inner body is = absurd (cc)

other_sum : (test : Bool) (inner : List ℕ)
    → cond test (Body inner) (Damaged Checksum) ≡ Damaged Checksum → test ≡ false
other_sum true inner is = absurd (cc)
other_sum false inner is = refl

no_shape_item : (test : Bool) (inner : List ℕ)
    → ¬ (cond test (Body inner) (Damaged Checksum) ≡ Damaged Shape)
no_shape_item true inner is = absurd (cc)
no_shape_item false inner is = absurd (cc)

no_long_item : (test : Bool) (inner : List ℕ)
    → ¬ (cond test (Body inner) (Damaged Checksum) ≡ Damaged TooLong)
no_long_item true inner is = absurd (cc)
no_long_item false inner is = absurd (cc)

-- by whether the content is short, and its shape
abbrev ruled : Bool → Option (List ℕ × ℕ) → Item
ruled short shape = cond short (item_of_shape shape) (Damaged TooLong)

ruled-Body : (short : Bool) (shape : Option (List ℕ × ℕ)) (body : List ℕ)
    → ruled short shape ≡ Body body → shape ≡ Some (body, checksum body)
ruled-Body true None body is = absurd (cc)
ruled-Body true (Some (inner, sum)) body is =
    let found = right_sum (sum == checksum inner) inner body is in
    let spelled : sum ≡ checksum inner = eqb-true sum (checksum inner) found.0 in
    rw (spelled, found.1) refl
ruled-Body false shape body is = absurd (cc)

ruled-TooLong : (short : Bool) (shape : Option (List ℕ × ℕ))
    → ruled short shape ≡ Damaged TooLong → short ≡ false
ruled-TooLong true None is = absurd (cc)
ruled-TooLong true (Some (inner, sum)) is =
    absurd (no_long_item (sum == checksum inner) inner is)
ruled-TooLong false shape is = refl

ruled-Shape : (short : Bool) (shape : Option (List ℕ × ℕ)) → ruled short shape ≡ Damaged Shape
    → (short ≡ true) × (shape ≡ None)
ruled-Shape true None is = (refl, refl)
ruled-Shape true (Some (inner, sum)) is =
    absurd (no_shape_item (sum == checksum inner) inner is)
ruled-Shape false shape is = absurd (cc)

record OtherSum (shape : Option (List ℕ × ℕ)) : Type 0 where
  body : List ℕ
  sum : ℕ
  shape_is : shape ≡ Some (body, sum)
  other : ¬ (sum ≡ checksum body)

ruled-Checksum : (short : Bool) (shape : Option (List ℕ × ℕ))
    → ruled short shape ≡ Damaged Checksum → OtherSum shape
ruled-Checksum true None is = absurd (cc)
ruled-Checksum true (Some (inner, sum)) is =
    let differs : (sum == checksum inner) ≡ false =
    other_sum (sum == checksum inner) inner is in
    let other : ¬ (sum ≡ checksum inner) = grind (arith, nat_tests) in
    record { body = inner; sum = sum; shape_is = refl; other = other }
ruled-Checksum false shape is = absurd (cc)

-- ---- the rules of contents

item_of_content-short : (content : List ℕ) → length content ≤ MOST_FRAME_BYTES
    → item_of_content content ≡ item_of_shape (shape_of content)
item_of_content-short content short = grind (arith, nat_tests)

item_of_content-long : (content : List ℕ) → MOST_FRAME_BYTES < length content
    → item_of_content content ≡ Damaged TooLong
item_of_content-long content long = grind (arith, nat_tests)

item_of_content-shaped : (content body : List ℕ) (sum : ℕ) → HasShape content body sum
    → item_of_content content ≡ item_of_shape (Some (body, sum))
item_of_content-shaped content body sum shape =
    item_of_content-short content (HasShape-short content body sum shape)
    ∙ ap item_of_shape (HasShape-shape_of content body sum shape)

-- a right frame is its body
pub item_of_content-IsFrame : (content body : List ℕ) → IsFrame content body
    → item_of_content content ≡ Body body
item_of_content-IsFrame content body frame =
    item_of_content-shaped content body (checksum body) frame
    ∙ rw (eq-eqb (checksum body) (checksum body) refl) refl

pub Body-exact : (content body : List ℕ) → (item_of_content content ≡ Body body)
    ↔ IsFrame content body
Body-exact content body = (
  λ is. shape_of-HasShape content body (checksum body)
      (ruled-Body (nat_le (length content) MOST_FRAME_BYTES) (shape_of content) body is),
  item_of_content-IsFrame content body,
)

pub TooLong-exact : (content : List ℕ) → (item_of_content content ≡ Damaged TooLong)
    ↔ (MOST_FRAME_BYTES < length content)
TooLong-exact content =
    let long : (nat_le (length content) MOST_FRAME_BYTES ≡ false)
    → MOST_FRAME_BYTES < length content =
    λ is. grind (arith, nat_tests) in (
      λ is. long (ruled-TooLong (nat_le (length content) MOST_FRAME_BYTES) (shape_of content) is),
      item_of_content-long content,
    )

HasNoShape-of : (content : List ℕ) → item_of_content content ≡ Damaged Shape → HasNoShape content
HasNoShape-of content is =
    let found = ruled-Shape (nat_le (length content) MOST_FRAME_BYTES) (shape_of content) is in
    record {
      short = leb-true (length content) MOST_FRAME_BYTES found.0;
      none = λ body sum shape.
          let some : shape_of content ≡ Some (body, sum) =
          HasShape-shape_of content body sum shape in
          let none : shape_of content ≡ None = found.1 in absurd (cc);
    }

shape_of-none : (content : List ℕ) (shape : Option (List ℕ × ℕ)) → shape_of content ≡ shape
    → ((body : List ℕ) (sum : ℕ) → ¬ (HasShape content body sum)) → shape ≡ None
shape_of-none content None is none = refl
shape_of-none content (Some (body, sum)) is none =
    absurd (none body sum (shape_of-HasShape content body sum is))

pub Shape-exact : (content : List ℕ) → (item_of_content content ≡ Damaged Shape)
    ↔ HasNoShape content
Shape-exact content = (
  HasNoShape-of content,
  λ no. item_of_content-short content no.short
      ∙ ap item_of_shape (shape_of-none content (shape_of content) refl no.none),
)

HasOtherSum-of : (content : List ℕ) → item_of_content content ≡ Damaged Checksum
    → HasOtherSum content
HasOtherSum-of content is =
    let found =
    ruled-Checksum (nat_le (length content) MOST_FRAME_BYTES) (shape_of content) is in
    record {
      body = found.body;
      sum = found.sum;
      shape = shape_of-HasShape content found.body found.sum found.shape_is;
      other = found.other;
    }

item_of_shape-other : (body : List ℕ) (sum : ℕ) → ¬ (sum ≡ checksum body)
    → item_of_shape (Some (body, sum)) ≡ Damaged Checksum
item_of_shape-other body sum other =
    let differs : (sum == checksum body) ≡ false = grind (arith, nat_tests) in
    rw differs refl

pub Checksum-exact : (content : List ℕ) → (item_of_content content ≡ Damaged Checksum)
    ↔ HasOtherSum content
Checksum-exact content = (
  HasOtherSum-of content,
  λ has. item_of_content-shaped content has.body has.sum has.shape
      ∙ item_of_shape-other has.body has.sum has.other,
)
