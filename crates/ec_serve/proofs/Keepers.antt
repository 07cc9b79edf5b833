-- What a server's start and its run make of its keeper.
use Rattle.std.proofs.Common.{◌≡◌, ◌⊎◌, ◌==◌, ◌≤◌, ◌+◌, ℕ, cond, List, [], ◌∷◌, ◌++◌, Option, Some, None, Ok, Err, refl, sym, ap, ◌∙◌, subst, inl, inr, ⊎_elim, arith}
use Rattle.ec_base.specs.Limits.{last_count}
use Rattle.ec_base.specs.Outside.{Rose}
use Rattle.ec_durable.specs.Durable.{step, steps}
use Rattle.ec_durable.specs.declared.state.Durable.{Durable}
use Rattle.ec_durable.specs.declared.record.Record.{Record}
use Rattle.ec_protocol.specs.Server.{Serving}
use Rattle.ec_server.specs.Keepers.{Did, Hurts, SpendsNothing}
use Rattle.ec_server.specs.declared.fault.ServerFault.{ServerFault}
use Rattle.ec_server.specs.declared.fault.ServerFault.TheVariants as ended
use Rattle.ec_servernode.specs.Run.{record_of}
use Rattle.ec_servernode.specs.Node.{Chain, ChainInDoubt}

pub rose_then : (f g h : ℕ) → Rose f g → g ≤ h → Rose f h
rose_then f g h r le = then last_count f g h r le
  where
    then : (last f g h : ℕ) → cond (f == last) f (f + 1) ≤ g → g ≤ h → cond (f == last) f (f + 1) ≤ h
    then last f g h r le = grind arith

module _ {K : Type 0} (did breaks : K → Record → K → Type 0) where
  -- the record of a start stands before those of the run
  pub starts_chain : (o : Option Record) (rs : List Record) (old mid new : K) → Did did o old mid → Chain did rs mid new → Chain did (record_of o ++ rs) old new
  starts_chain None rs old mid new d c = subst (λ k. Chain did rs k new) d c
  starts_chain (Some r) rs old mid new d c = (mid, d, c)

  pub starts_in_doubt : (o : Option Record) (rs : List Record) (old mid new : K) → Did did o old mid → ChainInDoubt did breaks rs mid new → ChainInDoubt did breaks (record_of o ++ rs) old new
  starts_in_doubt o rs old mid new d c = (c.0, starts_chain o rs old mid c.0 d c.1, c.2)

  -- what a fault of the start leaves
  pub unstarted_in_doubt : (f : ServerFault) (done : Serving) (old new : K) → Hurts SpendsNothing did breaks f done old new → ChainInDoubt did breaks [] old new
  unstarted_in_doubt (ended.Spent n) done old new h = (old, refl, inl h)
  unstarted_in_doubt ended.DiskFailed done old new h = (old, refl, inr (h.1.0, inr h.1.2))
  unstarted_in_doubt ended.DiskStopped done old new h = (old, refl, inr (h.1.0, inr h.1.2))
  unstarted_in_doubt ended.NoMemory done old new h =
      (old, refl, ⊎_elim (λ (same : new ≡ old). inl same) (λ (t : SpendsNothing done × ((r : Record) × (done.rec ≡ Some r) × (did old r new ⊎ breaks old r new))). inr (t.1.0, t.1.2)) h)

  -- what each record keeps is kept by all of them
  module _ (P : K → Type 0) (kept : (a b : K) (r : Record) → did a r b → P a → P b) where
    pub chain_keeps : (rs : List Record) (old new : K) → Chain did rs old new → P old → P new
    chain_keeps [] old new c p = subst P (sym c) p
    chain_keeps (r ∷ rs) old new c p = chain_keeps rs c.0 new c.2 (kept old c.0 r c.1 p)

    pub doubt_keeps : ((a b : K) (r : Record) → breaks a r b → P a → P b) → (rs : List Record) (old new : K) → ChainInDoubt did breaks rs old new → P old → P new
    doubt_keeps broken rs old new c p =
        let mid : P c.0 = chain_keeps rs old c.0 c.1 p in
        ⊎_elim (λ (same : new ≡ c.0). subst P (sym same) mid) (λ (t : (r : Record) × (did c.0 r new ⊎ breaks c.0 r new)). ⊎_elim (λ (d : did c.0 t.0 new). kept c.0 new t.0 d mid) (λ (b : breaks c.0 t.0 new). broken c.0 new t.0 b mid) t.1) c.2

  -- the records step one after the other
  pub chain_folds : (state : K → Durable) → ((a b : K) (r : Record) → did a r b → step r (state a) ≡ Ok (state b)) → (rs : List Record) (old new : K) → Chain did rs old new → steps rs (state old) ≡ Ok (state new)
  chain_folds state stepped [] old new c = ap (λ k. Ok (state k)) (sym c)
  chain_folds state stepped (r ∷ rs) old new c = ap (λ x. elim x [ Err fault ↦ Err fault | Ok e ↦ steps rs e ]) (stepped old c.0 r c.1) ∙ chain_folds state stepped rs c.0 new c.2
