-- What the gravest ending of two streams says of their sources.
use Rattle.std.proofs.Common.{◌≡◌, ◌≢◌, ℕ, ◌⊎◌, List, [], ◌∷◌, refl, sym, ◌∙◌, ap, subst, inl, inr}
use Rattle.std.proofs.Common.{arith}
use Rattle.std.specs.List.{Any}
use Rattle.dp_io.specs.Shown.{HasRisen, IsEmptied, NoneFailed, Shown}
use Rattle.plant_model.specs.declared.plant.Parts.{Parts}
use Rattle.plant_core.specs.declared.call.Entry.{Entry}
use Rattle.dp_sessions.specs.Sessions.{GaveTooMany, GaveTooManyItems, MayEnd}
use Rattle.dp_sessions.specs.declared.session.Ending.{Ending}
use Rattle.dp_sessions.specs.declared.session.Ending.TheVariants.{End, Fault, Long, Full, Write}
use Rattle.dp_sessions.proofs.Endings.{ShowEnding}
use Rattle.dp_words.proofs.Faults.{all-two}
use Rattle.watch_session.specs.Threads.{StandsForBoth, StandsForPart, graver}

-- ---- two endings

graver-is : (one other : Ending) → (graver one other ≡ one) ⊎ (graver one other ≡ other)
graver-is End End = inl refl
graver-is End Fault = inr refl
graver-is End Long = inr refl
graver-is End Full = inr refl
graver-is End Write = inr refl
graver-is Fault End = inl refl
graver-is Fault Fault = inl refl
graver-is Fault Long = inl refl
graver-is Fault Full = inl refl
graver-is Fault Write = inr refl
graver-is Long End = inl refl
graver-is Long Fault = inr refl
graver-is Long Long = inl refl
graver-is Long Full = inl refl
graver-is Long Write = inr refl
graver-is Full End = inl refl
graver-is Full Fault = inr refl
graver-is Full Long = inr refl
graver-is Full Full = inl refl
graver-is Full Write = inr refl
graver-is Write End = inl refl
graver-is Write Fault = inl refl
graver-is Write Long = inl refl
graver-is Write Full = inl refl
graver-is Write Write = inl refl

-- both are this, where the graver is the least of all
end-first : (one other : Ending) → graver one other ≡ End → one ≡ End
end-first End End is = refl
end-first End Fault is = refl
end-first End Long is = refl
end-first End Full is = refl
end-first End Write is = refl
end-first Fault End is = absurd (cc)
end-first Fault Fault is = absurd (cc)
end-first Fault Long is = absurd (cc)
end-first Fault Full is = absurd (cc)
end-first Fault Write is = absurd (cc)
end-first Long End is = absurd (cc)
end-first Long Fault is = absurd (cc)
end-first Long Long is = absurd (cc)
end-first Long Full is = absurd (cc)
end-first Long Write is = absurd (cc)
end-first Full End is = absurd (cc)
end-first Full Fault is = absurd (cc)
end-first Full Long is = absurd (cc)
end-first Full Full is = absurd (cc)
end-first Full Write is = absurd (cc)
end-first Write End is = absurd (cc)
end-first Write Fault is = absurd (cc)
end-first Write Long is = absurd (cc)
end-first Write Full is = absurd (cc)
end-first Write Write is = absurd (cc)

end-second : (one other : Ending) → graver one other ≡ End → other ≡ End
end-second End End is = refl
end-second End Fault is = absurd (cc)
end-second End Long is = absurd (cc)
end-second End Full is = absurd (cc)
end-second End Write is = absurd (cc)
end-second Fault End is = refl
end-second Fault Fault is = absurd (cc)
end-second Fault Long is = absurd (cc)
end-second Fault Full is = absurd (cc)
end-second Fault Write is = absurd (cc)
end-second Long End is = refl
end-second Long Fault is = absurd (cc)
end-second Long Long is = absurd (cc)
end-second Long Full is = absurd (cc)
end-second Long Write is = absurd (cc)
end-second Full End is = refl
end-second Full Fault is = absurd (cc)
end-second Full Long is = absurd (cc)
end-second Full Full is = absurd (cc)
end-second Full Write is = absurd (cc)
end-second Write End is = refl
end-second Write Fault is = absurd (cc)
end-second Write Long is = absurd (cc)
end-second Write Full is = absurd (cc)
end-second Write Write is = absurd (cc)

-- one of them is the graver
either : (one other which : Ending) → graver one other ≡ which → (one ≡ which) ⊎ (other ≡ which)
either one other which is = elim (graver-is one other) [
  | inl first ↦ inl (sym first ∙ is)
  | inr second ↦ inr (sym second ∙ is)
]

-- only a write fault is graver than a read fault
fault-first : (other : Ending) → (graver Fault other ≡ Fault) ⊎ (graver Fault other ≡ Write)
fault-first End = inl refl
fault-first Fault = inl refl
fault-first Long = inl refl
fault-first Full = inl refl
fault-first Write = inr refl

fault-second : (one : Ending) → (graver one Fault ≡ Fault) ⊎ (graver one Fault ≡ Write)
fault-second End = inl refl
fault-second Fault = inl refl
fault-second Long = inl refl
fault-second Full = inl refl
fault-second Write = inr refl

none-fault : (one other : Ending) → graver one other ≢ Write → graver one other ≢ Fault
    → one ≢ Fault
none-fault one other no_write no_fault is =
    let same : graver one other ≡ graver Fault other = ap (λ (e : Ending). graver e other) is in
    elim (fault-first other) [
      | inl fault ↦ no_fault (same ∙ fault)
      | inr write ↦ no_write (same ∙ write)
    ]

nor-fault : (one other : Ending) → graver one other ≢ Write → graver one other ≢ Fault
    → other ≢ Fault
nor-fault one other no_write no_fault is =
    let same : graver one other ≡ graver one Fault = ap (λ (e : Ending). graver one e) is in
    elim (fault-second one) [
      | inl fault ↦ no_fault (same ∙ fault)
      | inr write ↦ no_write (same ∙ write)
    ]

-- ---- two sources

any-two : {A : Type 0} (P : A → Type 0) (x y : A) → P x ⊎ P y → Any P (x ∷ y ∷ [])
any-two P x y (inl p) = (0, x, omega arith, refl, p)
any-two P x y (inr p) = (1, y, omega arith, refl, p)

-- what stands for a source with an ending may end so
ends-so : (caller : ℕ) (source out : Shown) (one ending : Ending) (history : List Entry)
    (stands : StandsForPart caller source out one history) → one ≡ ending
    → MayEnd source out stands.bytes history ending
ends-so caller source out one ending history stands is =
    subst (λ (e : Ending). MayEnd source out stands.bytes history e) is stands.ends

pub shows-both : (plant : Parts) (workers : ℕ) (sensors operators out : Shown) (ending : Ending)
    (history : List Entry) → ending ≢ Write
    → StandsForBoth plant workers sensors operators out ending history
    → (ending ≡ Full → GaveTooManyItems (sensors ∷ operators ∷ []))
    → ShowEnding ending (sensors ∷ operators ∷ [])
shows-both plant workers sensors operators out ending history no_write both full =
    let control = both.stands.control in
    let orders = both.stands.orders in
    let no : graver both.one both.other ≢ Write = λ e. no_write (both.graver ∙ e) in record {
      emptied = λ e. all-two IsEmptied sensors operators
          (ends-so 1 sensors out both.one End history control
          (end-first both.one both.other (sym both.graver ∙ e)))
          (ends-so 2 operators out both.other End history orders
          (end-second both.one both.other (sym both.graver ∙ e)));
      failed = λ e. any-two HasRisen sensors operators
          (elim (either both.one both.other Fault (sym both.graver ∙ e)) [
            | inl first ↦ inl (ends-so 1 sensors out both.one Fault history control first)
            | inr second ↦ inr (ends-so 2 operators out both.other Fault history orders second)
          ]);
      long = λ e. any-two GaveTooMany sensors operators
          (elim (either both.one both.other Long (sym both.graver ∙ e)) [
            | inl first ↦ inl (
              control.bytes,
              control.given,
              ends-so 1 sensors out both.one Long history control first,
            )
            | inr second ↦ inr (
              orders.bytes,
              orders.given,
              ends-so 2 operators out both.other Long history orders second,
            )
          ]);
      full = full;
      no_fault = λ other.
          let none : graver both.one both.other ≢ Fault = λ e. other (both.graver ∙ e) in
          all-two NoneFailed sensors operators
          (control.no_fault (none-fault both.one both.other no none))
          (orders.no_fault (nor-fault both.one both.other no none));
    }
