-- A part of the state that a caller's calls alone change.
use Rattle.std.proofs.Common.{◌≡◌, ◌∙◌, ℕ, ◌+◌, List, [], ◌∷◌, Bool, true, false, cond, ◌==◌, refl}
use Rattle.std.proofs.Common.{ap, arith, ◌&&◌}
use Rattle.std.specs.List.{fold}
use Rattle.std.specs.Prelude.{map}
use Rattle.plant_model.specs.declared.plant.Parts.{Parts}
use Rattle.plant_core.specs.Machine.{IsEntry, IsLegalFrom, Stand, next}
use Rattle.plant_core.specs.declared.call.Call.{Call}
use Rattle.plant_core.specs.declared.call.Entry.{Entry}
use Rattle.plant_core.specs.declared.call.Reply.{Reply}
use Rattle.plant_core.specs.declared.state.State.{State}
use Rattle.drill_summary.specs.Streams.{calls_by, entries_of}
use Rattle.drill_summary.proofs.Fitting.{AllFit, Fits}

-- the others' entries leave the part
abbrev pub Keeps : {P : Type 0} → Parts → ℕ → (State → P) → Type 0
Keeps plant caller part = (stand : Stand) (entry : Entry) → Fits entry
    → (entry.caller == caller) ≡ false → part (next plant stand entry).state ≡ part stand.state

-- and what the caller's make of it depends on nothing else
abbrev pub Steps : {P : Type 0} → Parts → ℕ → (State → P) → (P → Call → P) → Type 0
Steps plant caller part after = (stand : Stand) (entry : Entry) → Fits entry
    → (entry.caller == caller) ≡ true
    → part (next plant stand entry).state ≡ after (part stand.state) entry.call

fold-where : {P : Type 0} (after : P → Call → P) (mine : Bool) (old new : P) (entry : Entry)
    (rest : List Entry) → (mine ≡ false → new ≡ old) → (mine ≡ true → new ≡ after old entry.call)
    → fold after new (map (λ e. e.call) rest)
    ≡ fold after old (map (λ e. e.call) (cond mine (entry ∷ rest) rest))
fold-where after true old new entry rest keeps steps =
    ap (λ p. fold after p (map (λ e. e.call) rest)) (steps refl)
fold-where after false old new entry rest keeps steps =
    ap (λ p. fold after p (map (λ e. e.call) rest)) (keeps refl)

pub apart-from : {P : Type 0} (plant : Parts) (caller : ℕ) (part : State → P)
    (after : P → Call → P) → Keeps plant caller part → Steps plant caller part after
    → (stand : Stand) (history : List Entry) → AllFit history
    → part (fold (next plant) stand history).state
    ≡ fold after (part stand.state) (calls_by caller history)
apart-from plant caller part after keeps steps stand [] fit = refl
apart-from plant caller part after keeps steps stand (entry ∷ more) fit =
    apart-from plant caller part after keeps steps (next plant stand entry) more fit.1
    ∙ fold-where after (entry.caller == caller) (part stand.state)
    (part (next plant stand entry).state) entry (entries_of caller more)
    (keeps stand entry fit.0) (steps stand entry fit.0)

-- ---- counts of replies

-- a caller's replies are of a kind where the part before them says so
abbrev pub Tells : {P : Type 0} → Parts → ℕ → ℕ → (State → P) → (Reply → Bool)
    → (P → Call → Bool) → Type 0
Tells plant limit caller part is by = (stand : Stand) (entry : Entry)
    → IsEntry plant limit stand entry → Fits entry → (entry.caller == caller) ≡ true
    → is entry.reply ≡ by (part stand.state) entry.call

-- how many of the calls are so by the part before them, and this many more
abbrev pub counted : {P : Type 0} → (P → Call → P) → (P → Call → Bool) → ℕ → P → List Call → ℕ
counted after by count p [] = count
counted after by count p (call ∷ calls) =
    counted after by (count + cond (by p call) 1 0) (after p call) calls

-- the count of a caller's replies of a kind, and this many more
abbrev replied : ℕ → (Reply → Bool) → List Entry → ℕ → ℕ
replied caller is entries count =
    fold (λ n entry. n + cond (entry.caller == caller && is entry.reply) 1 0) count entries

no_more : (n : ℕ) → n + 0 ≡ n
no_more n = omega arith

-- F is the count of the entries after this one, where this many are counted before them
count-where : {P : Type 0} (after : P → Call → P) (is : Reply → Bool) (by : P → Call → Bool)
    (mine : Bool) (count : ℕ) (old new : P) (entry : Entry) (rest : List Entry) (F : ℕ → ℕ)
    → (mine ≡ false → new ≡ old) → (mine ≡ true → new ≡ after old entry.call)
    → (mine ≡ true → is entry.reply ≡ by old entry.call)
    → ((n : ℕ) → F n ≡ counted after by n new (map (λ e. e.call) rest))
    → F (count + cond (mine && is entry.reply) 1 0)
    ≡ counted after by count old (map (λ e. e.call) (cond mine (entry ∷ rest) rest))
count-where after is by true count old new entry rest F keeps steps tells more =
    let one : count + cond (is entry.reply) 1 0 ≡ count + cond (by old entry.call) 1 0 =
    ap (λ b. count + cond b 1 0) (tells refl) in
    ap F one ∙ more (count + cond (by old entry.call) 1 0)
    ∙ ap (λ p. counted after by (count + cond (by old entry.call) 1 0) p (map (λ e. e.call) rest))
    (steps refl)
count-where after is by false count old new entry rest F keeps steps tells more =
    ap F (no_more count) ∙ more count
    ∙ ap (λ p. counted after by count p (map (λ e. e.call) rest)) (keeps refl)

pub count-from : {P : Type 0} (plant : Parts) (limit caller : ℕ) (part : State → P)
    (after : P → Call → P) (is : Reply → Bool) (by : P → Call → Bool)
    → Keeps plant caller part → Steps plant caller part after
    → Tells plant limit caller part is by
    → (stand : Stand) (history : List Entry) → IsLegalFrom plant limit stand history
    → AllFit history → (count : ℕ)
    → replied caller is history count
    ≡ counted after by count (part stand.state) (calls_by caller history)
count-from plant limit caller part after is by keeps steps tells stand [] legal fit count = refl
count-from plant limit caller part after is by keeps steps tells stand (entry ∷ more) legal fit
    count =
    count-where after is by (entry.caller == caller) count (part stand.state)
    (part (next plant stand entry).state) entry (entries_of caller more) (replied caller is more)
    (keeps stand entry fit.0) (steps stand entry fit.0) (tells stand entry legal.0 fit.0)
    (count-from plant limit caller part after is by keeps steps tells (next plant stand entry) more
    legal.1 fit.1)
