-- Connected is an equivalence of live sections, and what is the same for joined sections is so for
-- connected ones.
use Rattle.std.proofs.Common.{◌≡◌, ℕ, zero, suc, ◌+◌, ◌-◌, ◌<◌, List, [], ◌∷◌, length, get_or}
use Rattle.std.proofs.Common.{Option, Some, None, inl, inr, refl, sym, ◌∙◌, subst, arith, IsSomeAnd}
use Rattle.std.proofs.lemmas.List.Elements.{All-nil, All-cons, All-head, All-tail}
use Rattle.std.proofs.lemmas.Option.{none-some, same_Some, slice_get_within, get_or_from_slice_get}
use Rattle.plant_model.specs.declared.parts.Tie.{Tie}
use Rattle.plant_model.specs.declared.plant.Parts.{Parts}
use Rattle.plant_model.specs.declared.status.Standing.{Standing}
use Rattle.bus_topology.specs.Islands.{IsLive, HasEnds, AreJoined, IsChain, AreConnected}

-- a way from section to section, tie by tie
data Walk (p : Parts) (s : Standing) : ℕ → ℕ → Type 0 where
  stay : {a : ℕ} → IsLive p s a → Walk p s a a
  step : {a b c : ℕ} → AreJoined p s a b → Walk p s b c → Walk p s a c

ends_turned : (a b : ℕ) (tie : Option Tie) → IsSomeAnd tie (HasEnds a b) →
    IsSomeAnd tie (HasEnds b a)
ends_turned a b None ends = ends
ends_turned a b (Some tie) (inl ends) = inr ends
ends_turned a b (Some tie) (inr ends) = inl ends

module _ (p : Parts) (s : Standing) where
  AreJoined-sym : (a b : ℕ) → AreJoined p s a b → AreJoined p s b a
  AreJoined-sym a b j = (
    j.0,
    record {
      ends = ends_turned a b _ j.1.ends;
      closed = j.1.closed;
      first = j.1.second;
      second = j.1.first;
    },
  )

  Walk-trans : {a b c : ℕ} → Walk p s a b → Walk p s b c → Walk p s a c
  Walk-trans (stay live) w = w
  Walk-trans (step j v) w = step j (Walk-trans v w)

  Walk-sym : {a b : ℕ} → Walk p s a b → Walk p s b a
  Walk-sym (stay live) = stay live
  Walk-sym (step {a = a} {b = b} j w) =
      Walk-trans (Walk-sym w) (step (AreJoined-sym a b j) (stay j.1.first))

  Walk-first : {a b : ℕ} → Walk p s a b → IsLive p s a
  Walk-first (stay live) = live
  Walk-first (step j w) = j.1.first

  -- what is the same for each two joined sections is the same along a walk
  Walk-same : (of : ℕ → ℕ) → ((a b : ℕ) → AreJoined p s a b → of a ≡ of b) → {a b : ℕ} →
      Walk p s a b → of a ≡ of b
  Walk-same of same (stay live) = refl
  Walk-same of same (step {a = a} {b = b} j w) = same a b j ∙ Walk-same of same w

  IsChain-tail : (x y : ℕ) (rest : List ℕ) (a b : ℕ) → IsChain p s a b (x ∷ (y ∷ rest)) →
      IsChain p s y b (y ∷ rest)
  IsChain-tail x y rest a b chain = record {
    live = All-tail (IsLive p s) x (y ∷ rest) chain.live;
    begins = refl;
    ends = (let one_more : length (x ∷ (y ∷ rest)) - 1 ≡ suc (length (y ∷ rest) - 1) =
        omega arith in rw one_more at chain.ends);
    joined = λ k below.
        (let next : suc k + 1 ≡ suc (k + 1) = omega arith in
        subst (λ m. AreJoined p s (get_or (x ∷ (y ∷ rest)) (suc k) 0) (get_or (x ∷ (y ∷ rest)) m 0))
        next (chain.joined (suc k) (omega arith)));
  }

  Walk-from_chain : (chain : List ℕ) (a b : ℕ) → IsChain p s a b chain → Walk p s a b
  Walk-from_chain [] a b chain = absurd (none-some a chain.begins)
  Walk-from_chain (x ∷ []) a b chain =
      subst (λ c. Walk p s c b) (same_Some x a chain.begins)
      (subst (λ c. Walk p s x c) (same_Some x b chain.ends)
      (stay (All-head (IsLive p s) x [] chain.live)))
  Walk-from_chain (x ∷ y ∷ rest) a b chain =
      subst (λ c. Walk p s c b) (same_Some x a chain.begins)
      (step (chain.joined 0 (omega arith))
      (Walk-from_chain (y ∷ rest) y b (IsChain-tail x y rest a b chain)))

  joined_in_front : (a b c : ℕ) (chain : List ℕ) → AreJoined p s a b → IsChain p s b c chain →
      (k : ℕ) → k + 1 < length (a ∷ chain) →
      AreJoined p s (get_or (a ∷ chain) k 0) (get_or (a ∷ chain) (k + 1) 0)
  joined_in_front a b c chain j rest zero below =
      subst (λ n. AreJoined p s a n) (sym (get_or_from_slice_get chain 0 b 0 rest.begins)) j
  joined_in_front a b c chain j rest (suc k) below =
      let next : suc (k + 1) ≡ suc k + 1 = omega arith in
      subst (λ m. AreJoined p s (get_or chain k 0) (get_or (a ∷ chain) m 0)) next
      (rest.joined k (omega arith))

  -- a chain with one section more in front
  IsChain-cons : (a b c : ℕ) (chain : List ℕ) → AreJoined p s a b → IsChain p s b c chain →
      IsChain p s a c (a ∷ chain)
  IsChain-cons a b c chain j rest = record {
    live = All-cons (IsLive p s) a chain j.1.first rest.live;
    begins = refl;
    ends = (let some : 0 < length chain = slice_get_within chain 0 b rest.begins in
        let one_more : length (a ∷ chain) - 1 ≡ suc (length chain - 1) = omega arith in
        rw one_more rest.ends);
    joined = joined_in_front a b c chain j rest;
  }

  chain_from_Walk : {a b : ℕ} → Walk p s a b → AreConnected p s a b
  chain_from_Walk (stay {a = a} live) = (
    a ∷ [],
    record {
      live = All-cons (IsLive p s) a [] live (All-nil (IsLive p s));
      begins = refl;
      ends = refl;
      joined = λ k below. absurd (omega arith);
    },
  )
  chain_from_Walk (step {a = a} {b = b} {c = c} j w) =
      let rest = chain_from_Walk w in (a ∷ rest.0, IsChain-cons a b c rest.0 j rest.1)

  pub connected_with_itself : (a : ℕ) → IsLive p s a → AreConnected p s a a
  connected_with_itself a live = chain_from_Walk (stay live)

  pub connected_from_joined : (a b : ℕ) → AreJoined p s a b → AreConnected p s a b
  connected_from_joined a b j = chain_from_Walk (step j (stay j.1.second))

  pub AreConnected-sym : (a b : ℕ) → AreConnected p s a b → AreConnected p s b a
  AreConnected-sym a b h = chain_from_Walk (Walk-sym (Walk-from_chain h.0 a b h.1))

  pub AreConnected-trans : (a b c : ℕ) → AreConnected p s a b → AreConnected p s b c →
      AreConnected p s a c
  AreConnected-trans a b c h k =
      chain_from_Walk (Walk-trans (Walk-from_chain h.0 a b h.1) (Walk-from_chain k.0 b c k.1))

  pub live_from_connected : (a b : ℕ) → AreConnected p s a b → IsLive p s a
  live_from_connected a b h = Walk-first (Walk-from_chain h.0 a b h.1)

  -- what is the same for each two joined sections is the same for connected ones
  pub same_for_connected : (of : ℕ → ℕ) → ((a b : ℕ) → AreJoined p s a b → of a ≡ of b) →
      (a b : ℕ) → AreConnected p s a b → of a ≡ of b
  same_for_connected of same a b h = Walk-same of same (Walk-from_chain h.0 a b h.1)
