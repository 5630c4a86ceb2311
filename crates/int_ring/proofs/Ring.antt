-- Identities of polynomials over ℤ, proved by computing. An expression stands for a number over a
-- list of numbers, and has a normal form: a sorted sum of terms, each a coefficient and a sorted
-- word of places in the list. Two numbers whose expressions differ by nothing are equal.
use Rattle.std.proofs.Common.{◌≡◌, ℕ, zero, suc, ◌+◌, ◌*◌, Bool, true, false, T, eqb, ltb, leb}
use Rattle.std.proofs.Common.{List, [], ◌∷◌, ℤ, pos, negsuc, ◌+ℤ◌, ◌-ℤ◌, ◌*ℤ◌, neg_ℤ, arith, ap}
use Rattle.std.proofs.Common.{ap₂, sym, ◌∙◌, refl, eqb→eq, subst}
use Rattle.std.proofs.lemmas.Int.{ints}
use Rattle.int_ring.proofs.Laws.{linear, mul_assoc, mul_add, add_mul, left_comm, one_mul, mul_one}
use Rattle.int_ring.proofs.Laws.{zero_mul, mul_zero, exchange}

-- ---- expressions

pub data Expression : Type 0 where
  place : ℕ → Expression  -- the number at that place of the list
  literal : ℤ → Expression
  sum : Expression → Expression → Expression
  product : Expression → Expression → Expression
  minus : Expression → Expression

abbrev pub at : List ℤ → ℕ → ℤ
at [] i = pos 0
at (x ∷ env) zero = x
at (x ∷ env) (suc i) = at env i

abbrev pub value : List ℤ → Expression → ℤ
value env (place i) = at env i
value env (literal z) = z
value env (sum e f) = value env e +ℤ value env f
value env (product e f) = value env e *ℤ value env f
value env (minus e) = neg_ℤ (value env e)

-- ---- normal forms

pub data Polynomial : Type 0 where
  none : Polynomial
  -- a coefficient, the places that it is multiplied by, and the other terms
  term : ℤ → List ℕ → Polynomial → Polynomial

abbrev pub word_value : List ℤ → List ℕ → ℤ
word_value env [] = pos 1
word_value env (i ∷ m) = at env i *ℤ word_value env m

abbrev pub polynomial_value : List ℤ → Polynomial → ℤ
polynomial_value env none = pos 0
polynomial_value env (term c m p) = c *ℤ word_value env m +ℤ polynomial_value env p

pub data Comparison : Type 0 where
  before : Comparison
  same : Comparison
  after : Comparison

-- the order of words that the product keeps: a longer word comes before its beginning
abbrev pub compare : List ℕ → List ℕ → Comparison
compare [] [] = same
compare [] (j ∷ n) = after
compare (i ∷ m) [] = before
compare (i ∷ m) (j ∷ n) =
    elim (eqb i j) [ true ↦ compare m n | false ↦ elim (ltb i j) [ true ↦ before | false ↦ after ] ]

abbrev pub insert : ℕ → List ℕ → List ℕ
insert i [] = i ∷ []
insert i (j ∷ m) = elim (leb i j) [ true ↦ i ∷ j ∷ m | false ↦ j ∷ insert i m ]

abbrev pub join : List ℕ → List ℕ → List ℕ
join [] n = n
join (i ∷ m) n = insert i (join m n)

abbrev pub is_zero : ℤ → Bool
is_zero (pos n) = eqb n 0
is_zero (negsuc n) = false

abbrev pub term_unless_zero : ℤ → List ℕ → Polynomial → Polynomial
term_unless_zero c m p = elim (is_zero c) [ true ↦ p | false ↦ term c m p ]

-- the terms of both
abbrev pub merge : Polynomial → Polynomial → Polynomial
merge none q = q
merge (term c m p) none = term c m p
merge (term c m p) (term d n q) = elim (compare m n) [
  | before ↦ term c m (merge p (term d n q))
  | same ↦ term_unless_zero (c +ℤ d) m (merge p q)
  | after ↦ term d n (merge (term c m p) q)
]

-- each term times c and the word m
abbrev pub scale : ℤ → List ℕ → Polynomial → Polynomial
scale c m none = none
scale c m (term d n p) = term (c *ℤ d) (join m n) (scale c m p)

abbrev pub times : Polynomial → Polynomial → Polynomial
times none q = none
times (term c m p) q = merge (scale c m q) (times p q)

abbrev pub normal : Expression → Polynomial
normal (place i) = term (pos 1) (i ∷ []) none
normal (literal z) = term_unless_zero z [] none
normal (sum e f) = merge (normal e) (normal f)
normal (product e f) = times (normal e) (normal f)
normal (minus e) = scale (negsuc 0) [] (normal e)

-- ---- the normal form has the expression's value

insert-value : (env : List ℤ) (i : ℕ) (m : List ℕ)
    → word_value env (insert i m) ≡ at env i *ℤ word_value env m
insert-value env i [] = refl
insert-value env i (j ∷ m) = by_order (leb i j) (insert-value env i m)
  where
    by_order : (b : Bool) → word_value env (insert i m) ≡ at env i *ℤ word_value env m →
        word_value env (elim b [ true ↦ i ∷ j ∷ m | false ↦ j ∷ insert i m ]) ≡ at env
        i *ℤ (at env j *ℤ word_value env m)
    by_order true e = refl
    by_order false e =
        ap (λ (z : ℤ). at env j *ℤ z) e ∙ left_comm (at env j) (at env i) (word_value env m)

join-value : (env : List ℤ) (m n : List ℕ)
    → word_value env (join m n) ≡ word_value env m *ℤ word_value env n
join-value env [] n = sym (one_mul (word_value env n))
join-value env (i ∷ m) n = insert-value env i (join m n)
    ∙ ap (λ (z : ℤ). at env i *ℤ z) (join-value env m n)
    ∙ sym (mul_assoc (at env i) (word_value env m) (word_value env n))

same_words : (m n : List ℕ) → compare m n ≡ same → m ≡ n
same_words [] [] e = refl
same_words [] (j ∷ n) e = absurd (cc e)
same_words (i ∷ m) [] e = absurd (cc e)
same_words (i ∷ m) (j ∷ n) e = by_test (eqb i j) (ltb i j) refl (same_words m n) e
  where
    by_test : (b c : Bool) → eqb i j ≡ b → (compare m n ≡ same → m ≡ n) →
        elim b [ true ↦ compare m n | false ↦ elim c [ true ↦ before | false ↦ after ] ] ≡ same
        → i ∷ m ≡ j ∷ n
    by_test true c t h e = ap₂ ◌∷◌ (eqb→eq i j (subst T (sym t) tt)) (h e)
    by_test false true t h e = absurd (cc e)
    by_test false false t h e = absurd (cc e)

zero_test : (z : ℤ) → is_zero z ≡ true → z ≡ pos 0
zero_test (pos n) e = ap pos (eqb→eq n 0 (subst T (sym e) tt))
zero_test (negsuc n) e = absurd (cc e)

term-value : (env : List ℤ) (c : ℤ) (m : List ℕ) (p : Polynomial) →
    polynomial_value env (term_unless_zero c m p) ≡ c *ℤ word_value env m +ℤ polynomial_value env p
term-value env c m p = by_test (is_zero c) refl
  where
    by_test : (b : Bool) → is_zero c ≡ b
        → polynomial_value env (elim b [ true ↦ p | false ↦ term c m p ]) ≡ c *ℤ word_value env m
        +ℤ polynomial_value env p
    by_test true e = let z : c *ℤ word_value env m ≡ pos 0 =
        ap (λ (k : ℤ). k *ℤ word_value env m) (zero_test c e)
        ∙ zero_mul (word_value env m) in omega (arith, linear)
    by_test false e = refl

merge-value : (env : List ℤ) (p q : Polynomial)
    → polynomial_value env (merge p q) ≡ polynomial_value env p +ℤ polynomial_value env q
merge-value env none q = omega (arith, linear)
merge-value env (term c m p) none = omega (arith, linear)
merge-value env (term c m p) (term d n q) =
    by_order (compare m n) refl (merge-value env p (term d n q)) (merge-value env p q)
    (merge-value env (term c m p) q)
  where
    by_order : (t : Comparison) → compare m n ≡ t →
        polynomial_value env (merge p (term d n q)) ≡ polynomial_value env p
        +ℤ polynomial_value env (term d n q) →
        polynomial_value env (merge p q) ≡ polynomial_value env p +ℤ polynomial_value env q →
        polynomial_value env (merge (term c m p) q) ≡ polynomial_value env (term c m p)
        +ℤ polynomial_value env q →
        polynomial_value env (elim t [
          | before ↦ term c m (merge p (term d n q))
          | same ↦ term_unless_zero (c +ℤ d) m (merge p q)
          | after ↦ term d n
              (merge (term c m p) q)
        ])
        ≡ polynomial_value env (term c m p) +ℤ polynomial_value env (term d n q)
    by_order before t e f g = omega (arith, linear, e)
    by_order after t e f g = omega (arith, linear, g)
    by_order same t e f g =
        let w : word_value env m ≡ word_value env n = ap (word_value env) (same_words m n t) in
        let v = term-value env (c +ℤ d) m (merge p q) in
        let u = add_mul c d (word_value env m) in
        let s : d *ℤ word_value env m ≡ d *ℤ word_value env n = ap (λ (z : ℤ). d *ℤ z) w in
        omega (arith, linear, u, v, s, f)

scale-value : (env : List ℤ) (c : ℤ) (m : List ℕ) (p : Polynomial) →
    polynomial_value env (scale c m p) ≡ c *ℤ word_value env m *ℤ polynomial_value env p
scale-value env c m none = sym (mul_zero (c *ℤ word_value env m))
scale-value env c m (term d n p) =
    let w = ap (λ (z : ℤ). c *ℤ d *ℤ z) (join-value env m n)
    ∙ exchange c d (word_value env m) (word_value env n) in
    ap₂ ◌+ℤ◌ w (scale-value env c m p)
    ∙ sym (mul_add (c *ℤ word_value env m) (d *ℤ word_value env n) (polynomial_value env p))

times-value : (env : List ℤ) (p q : Polynomial)
    → polynomial_value env (times p q) ≡ polynomial_value env p *ℤ polynomial_value env q
times-value env none q = sym (zero_mul (polynomial_value env q))
times-value env (term c m p) q =
    merge-value env (scale c m q) (times p q)
    ∙ ap₂ ◌+ℤ◌ (scale-value env c m q) (times-value env p q) ∙
    sym (add_mul (c *ℤ word_value env m) (polynomial_value env p) (polynomial_value env q))

pub sound : (env : List ℤ) (e : Expression) → value env e ≡ polynomial_value env (normal e)
sound env (place i) = single (at env i)
  where
    single : (x : ℤ) → x ≡ pos 1 *ℤ (x *ℤ pos 1) +ℤ pos 0
    single x = let e = one_mul (x *ℤ pos 1) in let f = mul_one x in omega (arith, linear)
sound env (literal z) =
    let e = term-value env z [] none in let f = mul_one z in omega (arith, linear)
sound env (sum e f) =
    ap₂ ◌+ℤ◌ (sound env e) (sound env f) ∙ sym (merge-value env (normal e) (normal f))
sound env (product e f) =
    ap₂ ◌*ℤ◌ (sound env e) (sound env f) ∙ sym (times-value env (normal e) (normal f))
sound env (minus e) = ap neg_ℤ (sound env e) ∙ opposite (polynomial_value env (normal e))
    ∙ sym (scale-value env (negsuc 0) [] (normal e))
  where
    opposite : (x : ℤ) → neg_ℤ x ≡ negsuc 0 *ℤ pos 1 *ℤ x
    opposite x = omega (arith, ints)

-- ---- from a number to an expression

-- an expression of z over the list
pub record Reads (env : List ℤ) (z : ℤ) : Type 0 where
  pub expression : Expression
  pub is : value env expression ≡ z

abbrev pub reads_sum : (env : List ℤ) (a b : ℤ) → Reads env a → Reads env b → Reads env (a +ℤ b)
reads_sum env a b x y =
    record { expression = sum x.expression y.expression; is = λ i. x.is i +ℤ y.is i }

abbrev pub reads_product : (env : List ℤ) (a b : ℤ) → Reads env a → Reads env b → Reads env (a *ℤ b)
reads_product env a b x y =
    record { expression = product x.expression y.expression; is = λ i. x.is i *ℤ y.is i }

-- a sum and a product of natural numbers
abbrev pub reads_natural_sum : (env : List ℤ) (m n : ℕ) → Reads env (pos m) → Reads env (pos n)
    → Reads env (pos (m + n))
reads_natural_sum env m n x y = reads_sum env (pos m) (pos n) x y

abbrev pub reads_natural_product : (env : List ℤ) (m n : ℕ) → Reads env (pos m) → Reads env (pos n)
    → Reads env (pos (m * n))
reads_natural_product env m n x y = reads_product env (pos m) (pos n) x y

abbrev pub reads_minus : (env : List ℤ) (a : ℤ) → Reads env a → Reads env (neg_ℤ a)
reads_minus env a x = record { expression = minus x.expression; is = λ i. neg_ℤ (x.is i) }

-- a literal, at which the test computes
abbrev pub reads_pos : (env : List ℤ) (n : ℕ) → eqb n n ≡ true → Reads env (pos n)
reads_pos env n t = record { expression = literal (pos n); is = refl }

abbrev pub reads_negsuc : (env : List ℤ) (n : ℕ) → eqb n n ≡ true → Reads env (negsuc n)
reads_negsuc env n t = record { expression = literal (negsuc n); is = refl }

abbrev pub reads_0 : (x0 : ℤ) (env : List ℤ) → Reads (x0 ∷ env) x0
reads_0 x0 env = record { expression = place 0; is = refl }

abbrev pub reads_1 : (x0 x1 : ℤ) (env : List ℤ) → Reads (x0 ∷ x1 ∷ env) x1
reads_1 x0 x1 env = record { expression = place 1; is = refl }

abbrev pub reads_2 : (x0 x1 x2 : ℤ) (env : List ℤ) → Reads (x0 ∷ x1 ∷ x2 ∷ env) x2
reads_2 x0 x1 x2 env = record { expression = place 2; is = refl }

abbrev pub reads_3 : (x0 x1 x2 x3 : ℤ) (env : List ℤ) → Reads (x0 ∷ x1 ∷ x2 ∷ x3 ∷ env) x3
reads_3 x0 x1 x2 x3 env = record { expression = place 3; is = refl }

abbrev pub reads_4 : (x0 x1 x2 x3 x4 : ℤ) (env : List ℤ) → Reads (x0 ∷ x1 ∷ x2 ∷ x3 ∷ x4 ∷ env) x4
reads_4 x0 x1 x2 x3 x4 env = record { expression = place 4; is = refl }

abbrev pub reads_5 : (x0 x1 x2 x3 x4 x5 : ℤ) (env : List ℤ)
    → Reads (x0 ∷ x1 ∷ x2 ∷ x3 ∷ x4 ∷ x5 ∷ env) x5
reads_5 x0 x1 x2 x3 x4 x5 env = record { expression = place 5; is = refl }

abbrev pub reads_6 : (x0 x1 x2 x3 x4 x5 x6 : ℤ) (env : List ℤ)
    → Reads (x0 ∷ x1 ∷ x2 ∷ x3 ∷ x4 ∷ x5 ∷ x6 ∷ env) x6
reads_6 x0 x1 x2 x3 x4 x5 x6 env = record { expression = place 6; is = refl }

abbrev pub reads_7 : (x0 x1 x2 x3 x4 x5 x6 x7 : ℤ) (env : List ℤ)
    → Reads (x0 ∷ x1 ∷ x2 ∷ x3 ∷ x4 ∷ x5 ∷ x6 ∷ x7 ∷ env) x7
reads_7 x0 x1 x2 x3 x4 x5 x6 x7 env = record { expression = place 7; is = refl }

abbrev pub reads_8 : (x0 x1 x2 x3 x4 x5 x6 x7 x8 : ℤ) (env : List ℤ)
    → Reads (x0 ∷ x1 ∷ x2 ∷ x3 ∷ x4 ∷ x5 ∷ x6 ∷ x7 ∷ x8 ∷ env) x8
reads_8 x0 x1 x2 x3 x4 x5 x6 x7 x8 env = record { expression = place 8; is = refl }

abbrev pub reads_9 : (x0 x1 x2 x3 x4 x5 x6 x7 x8 x9 : ℤ) (env : List ℤ)
    → Reads (x0 ∷ x1 ∷ x2 ∷ x3 ∷ x4 ∷ x5 ∷ x6 ∷ x7 ∷ x8 ∷ x9 ∷ env) x9
reads_9 x0 x1 x2 x3 x4 x5 x6 x7 x8 x9 env = record { expression = place 9; is = refl }

abbrev pub reads_10 : (x0 x1 x2 x3 x4 x5 x6 x7 x8 x9 x10 : ℤ) (env : List ℤ)
    → Reads (x0 ∷ x1 ∷ x2 ∷ x3 ∷ x4 ∷ x5 ∷ x6 ∷ x7 ∷ x8 ∷ x9 ∷ x10 ∷ env) x10
reads_10 x0 x1 x2 x3 x4 x5 x6 x7 x8 x9 x10 env = record { expression = place 10; is = refl }

abbrev pub reads_11 : (x0 x1 x2 x3 x4 x5 x6 x7 x8 x9 x10 x11 : ℤ) (env : List ℤ)
    → Reads (x0 ∷ x1 ∷ x2 ∷ x3 ∷ x4 ∷ x5 ∷ x6 ∷ x7 ∷ x8 ∷ x9 ∷ x10 ∷ x11 ∷ env) x11
reads_11 x0 x1 x2 x3 x4 x5 x6 x7 x8 x9 x10 x11 env = record { expression = place 11; is = refl }

abbrev pub reads_12 : (x0 x1 x2 x3 x4 x5 x6 x7 x8 x9 x10 x11 x12 : ℤ) (env : List ℤ)
    → Reads (x0 ∷ x1 ∷ x2 ∷ x3 ∷ x4 ∷ x5 ∷ x6 ∷ x7 ∷ x8 ∷ x9 ∷ x10 ∷ x11 ∷ x12 ∷ env) x12
reads_12 x0 x1 x2 x3 x4 x5 x6 x7 x8 x9 x10 x11 x12 env = record { expression = place 12; is = refl }

abbrev pub reads_13 : (x0 x1 x2 x3 x4 x5 x6 x7 x8 x9 x10 x11 x12 x13 : ℤ) (env : List ℤ)
    → Reads (x0 ∷ x1 ∷ x2 ∷ x3 ∷ x4 ∷ x5 ∷ x6 ∷ x7 ∷ x8 ∷ x9 ∷ x10 ∷ x11 ∷ x12 ∷ x13 ∷ env) x13
reads_13 x0 x1 x2 x3 x4 x5 x6 x7 x8 x9 x10 x11 x12 x13 env =
    record { expression = place 13; is = refl }

abbrev pub reads_14 : (x0 x1 x2 x3 x4 x5 x6 x7 x8 x9 x10 x11 x12 x13 x14 : ℤ) (env : List ℤ)
    → Reads (x0 ∷ x1 ∷ x2 ∷ x3 ∷ x4 ∷ x5 ∷ x6 ∷ x7 ∷ x8 ∷ x9 ∷ x10 ∷ x11 ∷ x12 ∷ x13 ∷ x14 ∷ env)
    x14
reads_14 x0 x1 x2 x3 x4 x5 x6 x7 x8 x9 x10 x11 x12 x13 x14 env =
    record { expression = place 14; is = refl }

abbrev pub reads_15 : (x0 x1 x2 x3 x4 x5 x6 x7 x8 x9 x10 x11 x12 x13 x14 x15 : ℤ) (env : List ℤ)
    → Reads (x0 ∷ x1 ∷ x2 ∷ x3 ∷ x4 ∷ x5 ∷ x6 ∷ x7 ∷ x8 ∷ x9 ∷ x10 ∷ x11 ∷ x12 ∷ x13 ∷ x14 ∷ x15
    ∷ env) x15
reads_15 x0 x1 x2 x3 x4 x5 x6 x7 x8 x9 x10 x11 x12 x13 x14 x15 env =
    record { expression = place 15; is = refl }

abbrev pub reads_16 : (x0 x1 x2 x3 x4 x5 x6 x7 x8 x9 x10 x11 x12 x13 x14 x15 x16 : ℤ) (env : List ℤ)
    → Reads (x0 ∷ x1 ∷ x2 ∷ x3 ∷ x4 ∷ x5 ∷ x6 ∷ x7 ∷ x8 ∷ x9 ∷ x10 ∷ x11 ∷ x12 ∷ x13 ∷ x14 ∷ x15
    ∷ x16 ∷ env) x16
reads_16 x0 x1 x2 x3 x4 x5 x6 x7 x8 x9 x10 x11 x12 x13 x14 x15 x16 env =
    record { expression = place 16; is = refl }

abbrev pub reads_17 : (x0 x1 x2 x3 x4 x5 x6 x7 x8 x9 x10 x11 x12 x13 x14 x15 x16 x17 : ℤ)
    (env : List ℤ) → Reads (x0 ∷ x1 ∷ x2 ∷ x3 ∷ x4 ∷ x5 ∷ x6 ∷ x7 ∷ x8 ∷ x9 ∷ x10 ∷ x11 ∷ x12 ∷ x13
    ∷ x14 ∷ x15 ∷ x16 ∷ x17 ∷ env) x17
reads_17 x0 x1 x2 x3 x4 x5 x6 x7 x8 x9 x10 x11 x12 x13 x14 x15 x16 x17 env =
    record { expression = place 17; is = refl }

abbrev pub reads_18 : (x0 x1 x2 x3 x4 x5 x6 x7 x8 x9 x10 x11 x12 x13 x14 x15 x16 x17 x18 : ℤ)
    (env : List ℤ) → Reads (x0 ∷ x1 ∷ x2 ∷ x3 ∷ x4 ∷ x5 ∷ x6 ∷ x7 ∷ x8 ∷ x9 ∷ x10 ∷ x11 ∷ x12 ∷ x13
    ∷ x14 ∷ x15 ∷ x16 ∷ x17 ∷ x18 ∷ env) x18
reads_18 x0 x1 x2 x3 x4 x5 x6 x7 x8 x9 x10 x11 x12 x13 x14 x15 x16 x17 x18 env =
    record { expression = place 18; is = refl }

abbrev pub reads_19 : (x0 x1 x2 x3 x4 x5 x6 x7 x8 x9 x10 x11 x12 x13 x14 x15 x16 x17 x18 x19 : ℤ)
    (env : List ℤ) → Reads (x0 ∷ x1 ∷ x2 ∷ x3 ∷ x4 ∷ x5 ∷ x6 ∷ x7 ∷ x8 ∷ x9 ∷ x10 ∷ x11 ∷ x12 ∷ x13
    ∷ x14 ∷ x15 ∷ x16 ∷ x17 ∷ x18 ∷ x19 ∷ env) x19
reads_19 x0 x1 x2 x3 x4 x5 x6 x7 x8 x9 x10 x11 x12 x13 x14 x15 x16 x17 x18 x19 env =
    record { expression = place 19; is = refl }

abbrev pub reads_20 : (x0 x1 x2 x3 x4 x5 x6 x7 x8 x9 x10 x11 x12 x13 x14 x15 x16 x17 x18 x19
    x20 : ℤ) (env : List ℤ) → Reads (x0 ∷ x1 ∷ x2 ∷ x3 ∷ x4 ∷ x5 ∷ x6 ∷ x7 ∷ x8 ∷ x9 ∷ x10 ∷ x11
    ∷ x12 ∷ x13 ∷ x14 ∷ x15 ∷ x16 ∷ x17 ∷ x18 ∷ x19 ∷ x20 ∷ env) x20
reads_20 x0 x1 x2 x3 x4 x5 x6 x7 x8 x9 x10 x11 x12 x13 x14 x15 x16 x17 x18 x19 x20 env =
    record { expression = place 20; is = refl }

abbrev pub reads_21 : (x0 x1 x2 x3 x4 x5 x6 x7 x8 x9 x10 x11 x12 x13 x14 x15 x16 x17 x18 x19 x20
    x21 : ℤ) (env : List ℤ) → Reads (x0 ∷ x1 ∷ x2 ∷ x3 ∷ x4 ∷ x5 ∷ x6 ∷ x7 ∷ x8 ∷ x9 ∷ x10 ∷ x11
    ∷ x12 ∷ x13 ∷ x14 ∷ x15 ∷ x16 ∷ x17 ∷ x18 ∷ x19 ∷ x20 ∷ x21 ∷ env) x21
reads_21 x0 x1 x2 x3 x4 x5 x6 x7 x8 x9 x10 x11 x12 x13 x14 x15 x16 x17 x18 x19 x20 x21 env =
    record { expression = place 21; is = refl }

abbrev pub reads_22 : (x0 x1 x2 x3 x4 x5 x6 x7 x8 x9 x10 x11 x12 x13 x14 x15 x16 x17 x18 x19 x20 x21
    x22 : ℤ) (env : List ℤ) → Reads (x0 ∷ x1 ∷ x2 ∷ x3 ∷ x4 ∷ x5 ∷ x6 ∷ x7 ∷ x8 ∷ x9 ∷ x10 ∷ x11
    ∷ x12 ∷ x13 ∷ x14 ∷ x15 ∷ x16 ∷ x17 ∷ x18 ∷ x19 ∷ x20 ∷ x21 ∷ x22 ∷ env) x22
reads_22 x0 x1 x2 x3 x4 x5 x6 x7 x8 x9 x10 x11 x12 x13 x14 x15 x16 x17 x18 x19 x20 x21 x22 env =
    record { expression = place 22; is = refl }

abbrev pub reads_23 : (x0 x1 x2 x3 x4 x5 x6 x7 x8 x9 x10 x11 x12 x13 x14 x15 x16 x17 x18 x19 x20 x21
    x22 x23 : ℤ) (env : List ℤ) → Reads
    (x0 ∷ x1 ∷ x2 ∷ x3 ∷ x4 ∷ x5 ∷ x6 ∷ x7 ∷ x8 ∷ x9 ∷ x10 ∷ x11 ∷ x12 ∷ x13 ∷ x14 ∷ x15 ∷ x16 ∷ x17
    ∷ x18 ∷ x19 ∷ x20 ∷ x21 ∷ x22 ∷ x23 ∷ env) x23
reads_23 x0 x1 x2 x3 x4 x5 x6 x7 x8 x9 x10 x11 x12 x13 x14 x15 x16 x17 x18 x19 x20 x21 x22 x23 env =
    record { expression = place 23; is = refl }

abbrev pub reads_24 : (x0 x1 x2 x3 x4 x5 x6 x7 x8 x9 x10 x11 x12 x13 x14 x15 x16 x17 x18 x19 x20 x21
    x22 x23 x24 : ℤ) (env : List ℤ) → Reads
    (x0 ∷ x1 ∷ x2 ∷ x3 ∷ x4 ∷ x5 ∷ x6 ∷ x7 ∷ x8 ∷ x9 ∷ x10 ∷ x11 ∷ x12 ∷ x13 ∷ x14 ∷ x15 ∷ x16 ∷ x17
    ∷ x18 ∷ x19 ∷ x20 ∷ x21 ∷ x22 ∷ x23 ∷ x24 ∷ env) x24
reads_24 x0 x1 x2 x3 x4 x5 x6 x7 x8 x9 x10 x11 x12 x13 x14 x15 x16 x17 x18 x19 x20 x21 x22 x23 x24
    env = record { expression = place 24; is = refl }

abbrev pub reads_25 : (x0 x1 x2 x3 x4 x5 x6 x7 x8 x9 x10 x11 x12 x13 x14 x15 x16 x17 x18 x19 x20 x21
    x22 x23 x24 x25 : ℤ) (env : List ℤ)
    → Reads (x0 ∷ x1 ∷ x2 ∷ x3 ∷ x4 ∷ x5 ∷ x6 ∷ x7 ∷ x8 ∷ x9 ∷ x10 ∷ x11 ∷ x12 ∷ x13 ∷ x14 ∷ x15
    ∷ x16 ∷ x17 ∷ x18 ∷ x19 ∷ x20 ∷ x21 ∷ x22 ∷ x23 ∷ x24 ∷ x25 ∷ env) x25
reads_25 x0 x1 x2 x3 x4 x5 x6 x7 x8 x9 x10 x11 x12 x13 x14 x15 x16 x17 x18 x19 x20 x21 x22 x23 x24
    x25 env = record { expression = place 25; is = refl }

abbrev pub reads_26 : (x0 x1 x2 x3 x4 x5 x6 x7 x8 x9 x10 x11 x12 x13 x14 x15 x16 x17 x18 x19 x20 x21
    x22 x23 x24 x25 x26 : ℤ) (env : List ℤ)
    → Reads (x0 ∷ x1 ∷ x2 ∷ x3 ∷ x4 ∷ x5 ∷ x6 ∷ x7 ∷ x8 ∷ x9 ∷ x10 ∷ x11 ∷ x12 ∷ x13 ∷ x14 ∷ x15
    ∷ x16 ∷ x17 ∷ x18 ∷ x19 ∷ x20 ∷ x21 ∷ x22 ∷ x23 ∷ x24 ∷ x25 ∷ x26 ∷ env) x26
reads_26 x0 x1 x2 x3 x4 x5 x6 x7 x8 x9 x10 x11 x12 x13 x14 x15 x16 x17 x18 x19 x20 x21 x22 x23 x24
    x25 x26 env = record { expression = place 26; is = refl }

abbrev pub reads_27 : (x0 x1 x2 x3 x4 x5 x6 x7 x8 x9 x10 x11 x12 x13 x14 x15 x16 x17 x18 x19 x20 x21
    x22 x23 x24 x25 x26 x27 : ℤ) (env : List ℤ)
    → Reads (x0 ∷ x1 ∷ x2 ∷ x3 ∷ x4 ∷ x5 ∷ x6 ∷ x7 ∷ x8 ∷ x9 ∷ x10 ∷ x11 ∷ x12 ∷ x13 ∷ x14 ∷ x15
    ∷ x16 ∷ x17 ∷ x18 ∷ x19 ∷ x20 ∷ x21 ∷ x22 ∷ x23 ∷ x24 ∷ x25 ∷ x26 ∷ x27 ∷ env) x27
reads_27 x0 x1 x2 x3 x4 x5 x6 x7 x8 x9 x10 x11 x12 x13 x14 x15 x16 x17 x18 x19 x20 x21 x22 x23 x24
    x25 x26 x27 env = record { expression = place 27; is = refl }

abbrev pub reads_28 : (x0 x1 x2 x3 x4 x5 x6 x7 x8 x9 x10 x11 x12 x13 x14 x15 x16 x17 x18 x19 x20 x21
    x22 x23 x24 x25 x26 x27 x28 : ℤ) (env : List ℤ)
    → Reads (x0 ∷ x1 ∷ x2 ∷ x3 ∷ x4 ∷ x5 ∷ x6 ∷ x7 ∷ x8 ∷ x9 ∷ x10 ∷ x11 ∷ x12 ∷ x13 ∷ x14 ∷ x15
    ∷ x16 ∷ x17 ∷ x18 ∷ x19 ∷ x20 ∷ x21 ∷ x22 ∷ x23 ∷ x24 ∷ x25 ∷ x26 ∷ x27 ∷ x28 ∷ env) x28
reads_28 x0 x1 x2 x3 x4 x5 x6 x7 x8 x9 x10 x11 x12 x13 x14 x15 x16 x17 x18 x19 x20 x21 x22 x23 x24
    x25 x26 x27 x28 env = record { expression = place 28; is = refl }

abbrev pub reads_29 : (x0 x1 x2 x3 x4 x5 x6 x7 x8 x9 x10 x11 x12 x13 x14 x15 x16 x17 x18 x19 x20 x21
    x22 x23 x24 x25 x26 x27 x28 x29 : ℤ) (env : List ℤ)
    → Reads (x0 ∷ x1 ∷ x2 ∷ x3 ∷ x4 ∷ x5 ∷ x6 ∷ x7 ∷ x8 ∷ x9 ∷ x10 ∷ x11 ∷ x12 ∷ x13 ∷ x14 ∷ x15
    ∷ x16 ∷ x17 ∷ x18 ∷ x19 ∷ x20 ∷ x21 ∷ x22 ∷ x23 ∷ x24 ∷ x25 ∷ x26 ∷ x27 ∷ x28 ∷ x29 ∷ env) x29
reads_29 x0 x1 x2 x3 x4 x5 x6 x7 x8 x9 x10 x11 x12 x13 x14 x15 x16 x17 x18 x19 x20 x21 x22 x23 x24
    x25 x26 x27 x28 x29 env = record { expression = place 29; is = refl }

abbrev pub reads_30 : (x0 x1 x2 x3 x4 x5 x6 x7 x8 x9 x10 x11 x12 x13 x14 x15 x16 x17 x18 x19 x20 x21
    x22 x23 x24 x25 x26 x27 x28 x29 x30 : ℤ) (env : List ℤ)
    → Reads (x0 ∷ x1 ∷ x2 ∷ x3 ∷ x4 ∷ x5 ∷ x6 ∷ x7 ∷ x8 ∷ x9 ∷ x10 ∷ x11 ∷ x12 ∷ x13 ∷ x14 ∷ x15
    ∷ x16 ∷ x17 ∷ x18 ∷ x19 ∷ x20 ∷ x21 ∷ x22 ∷ x23 ∷ x24 ∷ x25 ∷ x26 ∷ x27 ∷ x28 ∷ x29 ∷ x30 ∷ env)
    x30
reads_30 x0 x1 x2 x3 x4 x5 x6 x7 x8 x9 x10 x11 x12 x13 x14 x15 x16 x17 x18 x19 x20 x21 x22 x23 x24
    x25 x26 x27 x28 x29 x30 env = record { expression = place 30; is = refl }

abbrev pub reads_31 : (x0 x1 x2 x3 x4 x5 x6 x7 x8 x9 x10 x11 x12 x13 x14 x15 x16 x17 x18 x19 x20 x21
    x22 x23 x24 x25 x26 x27 x28 x29 x30 x31 : ℤ) (env : List ℤ)
    → Reads (x0 ∷ x1 ∷ x2 ∷ x3 ∷ x4 ∷ x5 ∷ x6 ∷ x7 ∷ x8 ∷ x9 ∷ x10 ∷ x11 ∷ x12 ∷ x13 ∷ x14 ∷ x15
    ∷ x16 ∷ x17 ∷ x18 ∷ x19 ∷ x20 ∷ x21 ∷ x22 ∷ x23 ∷ x24 ∷ x25 ∷ x26 ∷ x27 ∷ x28 ∷ x29 ∷ x30 ∷ x31
    ∷ env) x31
reads_31 x0 x1 x2 x3 x4 x5 x6 x7 x8 x9 x10 x11 x12 x13 x14 x15 x16 x17 x18 x19 x20 x21 x22 x23 x24
    x25 x26 x27 x28 x29 x30 x31 env = record { expression = place 31; is = refl }

pub ruleset reads = (
  reads_0,
  reads_1,
  reads_2,
  reads_3,
  reads_4,
  reads_5,
  reads_6,
  reads_7,
  reads_8,
  reads_9,
  reads_10,
  reads_11,
  reads_12,
  reads_13,
  reads_14,
  reads_15,
  reads_16,
  reads_17,
  reads_18,
  reads_19,
  reads_20,
  reads_21,
  reads_22,
  reads_23,
  reads_24,
  reads_25,
  reads_26,
  reads_27,
  reads_28,
  reads_29,
  reads_30,
  reads_31,
  reads_sum,
  reads_product,
  reads_minus,
  reads_pos,
  reads_negsuc,
  reads_natural_sum,
  reads_natural_product,
)

pub reading : (env : List ℤ) {z : ℤ} (x : Reads env z)
    → z ≡ polynomial_value env (normal x.expression)
reading env x = sym x.is ∙ sound env x.expression

-- two numbers that differ by nothing
pub ring : (env : List ℤ) {a b : ℤ} (x : Reads env (a -ℤ b)) → normal x.expression ≡ none → a ≡ b
ring env {a} {b} x e =
    let d : a -ℤ b ≡ pos 0 = reading env x ∙ ap (polynomial_value env) e in omega (arith, linear)

-- the same under an equation, of which the difference is a multiple
pub ring_with : (env : List ℤ) (k : ℤ) {a b p q : ℤ} → p ≡ q
    → (x : Reads env (a -ℤ b -ℤ k *ℤ (p -ℤ q))) → normal x.expression ≡ none → a ≡ b
ring_with env k {a} {b} {p} {q} h x e =
    let d : a -ℤ b ≡ k *ℤ (p -ℤ q) = ring env x e in
    let n : p -ℤ q ≡ pos 0 = omega (arith, linear) in
    let m : k *ℤ (p -ℤ q) ≡ pos 0 = ap (λ (z : ℤ). k *ℤ z) n ∙ mul_zero k in
    omega (arith, linear)
