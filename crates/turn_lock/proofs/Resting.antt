-- Between calls a pass is at rest.
use Rattle.std.proofs.Common.{◌≡◌, ℕ, ◌+◌, List, [], ◌∷◌, refl, ap, sym, subst, ◌∙◌, arith}
use Rattle.std.proofs.Common.{length-append, Option, None}
use Rattle.atomic_table.specs.Seated.{TableId}
use Rattle.atomic_table.specs.Table.{Me}
use Rattle.turn_lock.specs.Passes.{IsSound}
use Rattle.turn_lock.specs.Views.{shown, StandsStill, IsAtRest}
use Rattle.turn_lock.specs.Steps.{turned, new_pass, joined, HasTurn, ShowsSound}
use Rattle.turn_lock.specs.declared.view.Known.{Known}
use Rattle.turn_lock.specs.declared.view.View.{View}
use Rattle.turn_lock.proofs.Lists.{by_none}

module _ {K E B : Type 0} (entries : K → List E) (base_of : K → B) (caller_of : E → ℕ)
    (caller next : ℕ) (lock : TableId) where
  abbrev M : Type 0
  M = Me (Option K) (View E B)

  -- a pass that has the turn, once the value has left the slot
  pub entered : (was : TableId) (m0 m1 m2 m3 : M) (t : ℕ)
      → HasTurn entries base_of caller_of m1 t m2 → m1.0.known ≡ m0.0.known
      → m3 ≡ (m2.0, (0, None) ∷ [])
      → IsAtRest caller_of caller next was m0 → IsAtRest caller_of caller next lock m3
  entered was m0 m1 m2 m3 t turn known taken rest =
      let m : M = (turned m1.0 t (entries turn.value), (0, None) ∷ []) in
      let path : m3 ≡ m = taken ∙ ap (λ (v : View E B). (v, (0, None) ∷ [])) turn.view in
      subst (IsAtRest caller_of caller next lock) (sym path) record {
        same_caller = ap (λ (k : Known E B). k.caller) known ∙ rest.same_caller;
        same_next = ap (λ (k : Known E B). k.next) known ∙ rest.same_next;
        still = refl;
        sound = subst (λ (v : View E B). IsSound caller_of (shown lock v)) turn.view
            (turn.sound lock);
      }

  -- a pass is at rest with a view that shows what is sound
  pub rests : (m m' : M) → m' ≡ m → m.0.known.caller ≡ caller → m.0.known.next ≡ next
      → StandsStill m.0.standing m.1 → ShowsSound caller_of m'.0
      → IsAtRest caller_of caller next lock m'
  rests m m' path same_caller same_next still sound =
      subst (IsAtRest caller_of caller next lock) (sym path) record {
        same_caller = same_caller;
        same_next = same_next;
        still = still;
        sound = subst (λ (u : M). IsSound caller_of (shown lock u.0)) path (sound lock);
      }

  -- the pass that has the root's next number
  pub new_rests : (was : TableId) (v : View E B) (m : M) → m ≡ (new_pass v, []) → v.known.caller ≡ 0
      → IsSound caller_of (shown was v) → v.known.next ≡ caller → 0 ≡ next
      → IsAtRest caller_of caller next lock m
  new_rests was v m path root sound number none =
      subst (IsAtRest caller_of caller next lock) (sym path) record {
        same_caller = number;
        same_next = none;
        still = refl;
        sound = record {
          mine = by_none caller_of v.known.next v.known.seen (sound.given root);
          counted = λ zero. let counted = sound.counted root in absurd (omega arith);
          given = λ zero. let counted = sound.counted root in absurd (omega arith);
          ended = λ zero. let counted = sound.counted root in absurd (omega arith);
        };
      }

-- a pass that was taken back was away
pub fewer : {E B : Type 0} (caller_of : E → ℕ) (lock : TableId) (v w u : View E B)
    → v.known.caller ≡ 0 → IsSound caller_of (shown lock v) → u ≡ joined v w
    → IsSound caller_of (shown lock u) → u.known.away + 1 ≡ v.known.away
fewer {E = E} {B = B} caller_of lock v w u root before is sound =
    let after = subst (λ (x : View E B). IsSound caller_of (shown lock x)) is sound in
    let counted = before.counted root in
    let counted' = after.counted root in
    let longer_by_one =
    length-append v.known.ended (record { caller = w.known.caller; mine = w.known.mine } ∷ []) in
    let away = ap (λ (x : View E B). x.known.away) is in
    omega arith
