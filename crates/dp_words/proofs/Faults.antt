-- That no fault was passed over.
use Rattle.std.proofs.Common.{◌≡◌, ◌≢◌, ℕ, ◌<◌, List, [], ◌∷◌, length, zero}
use Rattle.std.proofs.Common.{suc, Err, Result, refl, sym, subst, inl, inr, arith, slice_index_or}
use Rattle.std.specs.Prelude.{All}
use Rattle.std.specs.List.{Any}
use Rattle.std.proofs.lemmas.List.Elements.{All-cons, All-nil}
use Rattle.plant_model.specs.declared.plant.Parts.{Parts}
use Rattle.dp_io.specs.Shown.{HasRisen, NoneFailed, Shown}
use Rattle.dp_words.specs.Faults.{HasGreaterCount, TellsFaults}
use Rattle.dp_words.specs.PlantSource.{IsPlantError}
use Rattle.dp_words.specs.declared.status.RunStatus.{RunStatus}
use Rattle.dp_words.specs.declared.status.RunStatus.TheVariants.{NoMemory, Plant, ReadFault}
use Rattle.dp_words.specs.declared.status.RunStatus.TheVariants.{WriteFault}

-- ---- lists of one and more

pub any-one : {A : Type 0} (P : A → Type 0) (x : A) → P x → Any P (x ∷ [])
any-one P x p = (0, x, omega arith, refl, p)

one-at : {A : Type 0} (P : A → Type 0) (x y : A) (k : ℕ) → k < length (x ∷ [])
    → slice_index_or (x ∷ []) k y ≡ y → P y → P x
one-at P x y zero within is p = subst P (sym is) p
one-at P x y (suc k) within is p = absurd (omega (arith, within))

pub of-one : {A : Type 0} (P : A → Type 0) (x : A) → Any P (x ∷ []) → P x
of-one P x any = one-at P x any.1 any.0 any.2 any.3 any.4

pub all-one : {A : Type 0} (P : A → Type 0) (x : A) → P x → All P (x ∷ [])
all-one P x p = All-cons P x [] p (All-nil P)

pub all-two : {A : Type 0} (P : A → Type 0) (x y : A) → P x → P y → All P (x ∷ y ∷ [])
all-two P x y p q = All-cons P x (y ∷ []) p (all-one P y q)

pub all-three : {A : Type 0} (P : A → Type 0) (x y z : A) → P x → P y → P z
    → All P (x ∷ y ∷ z ∷ [])
all-three P x y z p q r = All-cons P x (y ∷ z ∷ []) p (all-two P y z q r)

-- ---- counts

still : (source : Shown) → NoneFailed source → HasGreaterCount source → ⊥
still source same greater = omega (arith, same, greater)

all-still : (sources : List Shown) → All NoneFailed sources → Any HasGreaterCount sources → ⊥
all-still sources all any =
    still any.1 (subst NoneFailed any.3 (all any.0 any.1 any.2)) any.4

-- no count is greater
pub tells-same : (status : RunStatus) (sources : List Shown) (out : Shown)
    → NoneFailed out → All NoneFailed sources → TellsFaults status sources out
tells-same status sources out same all = record {
  none = λ tells. All-cons NoneFailed out sources same all;
  of_output = λ greater. absurd (still out same greater);
  of_sources = λ fine any. absurd (all-still sources all any);
}

pub tells-read : (sources : List Shown) (out : Shown) → NoneFailed out
    → TellsFaults ReadFault sources out
tells-read sources out same = record {
  none = λ tells. absurd tells;
  of_output = λ greater. absurd (still out same greater);
  of_sources = λ fine any. inl refl;
}

pub tells-write : (sources : List Shown) (out : Shown) → HasRisen out
    → TellsFaults WriteFault sources out
tells-write sources out risen = record {
  none = λ tells. absurd tells;
  of_output = λ greater. inl refl;
  of_sources = λ fine any. absurd (fine risen);
}

pub tells-memory : (sources : List Shown) (out : Shown) → TellsFaults NoMemory sources out
tells-memory sources out = record {
  none = λ tells. absurd tells;
  of_output = λ greater. inr refl;
  of_sources = λ fine any. inr refl;
}

-- there is no plant, and the other sources and the output are as they were
pub tells-no_plant : (result : Result Parts RunStatus) (status : RunStatus) (word : List ℕ)
    (first : Shown) (sources : List Shown) (out : Shown) → IsPlantError word first status
    → result ≡ Err status
    → (result ≢ Err ReadFault → result ≢ Err NoMemory → NoneFailed first)
    → NoneFailed out → All NoneFailed sources
    → TellsFaults status (first ∷ sources) out
tells-no_plant result ReadFault word first sources out error is same written all =
    tells-read (first ∷ sources) out written
tells-no_plant result (Plant fault) word first sources out error is same written all =
    tells-same (Plant fault) (first ∷ sources) out written
    (All-cons NoneFailed first sources (same (λ e. cc) (λ e. cc)) all)
tells-no_plant result NoMemory word first sources out error is same written all =
    tells-memory (first ∷ sources) out
tells-no_plant result status word first sources out none is same written all = absurd none
