-- The volume of the server is what durable lines leave, and it's well formed.
use Rattle.std.proofs.Common.{◌≡◌, refl, sym, ap, subst, ◌∙◌, inl, inr, arith, ◌⊎◌, ◌<◌, ◌-◌, ℕ, T, Bool, true, false, not, ◌==◌, ◌&&◌, ◌||◌, cond, map, length, List, [], ◌∷◌, ◌++◌, Option, Some, None}
use Rattle.std.specs.List.{filter}
use Rattle.std.proofs.lemmas.Bool.{and_parts, or_left, eqb-true}
use Rattle.ec_volume.specs.Update.{member, is_sound}
use Rattle.ec_volume.specs.Volume.{Images, after, images, tree, HaveOneShape, WellFormed}
use Rattle.ec_history.specs.History.{Base, Op, Each, numbers, of_start, updates, kept}
use Rattle.ec_history.specs.Legal.{IsLegal}
use Rattle.ec_history.specs.Lines.{durable, durable_ops, IsStored}
use Rattle.ec_history.specs.Placing.{place, watch}
use Rattle.ec_history.specs.declared.shown.Shown.{Shown}
use Rattle.ec_sessions.specs.declared.slot.Slot.{Slot}
use Rattle.ec_durable.specs.Durable.{slot}
use Rattle.ec_history.proofs.OfLaws.ForFormed.KeptFormed.{kept-formed}
use Rattle.ec_history.proofs.OfLaws.ForPlacing.Numbers.{each-filter}
use Rattle.ec_history.proofs.OfLaws.ForPlacing.Pulled.{pulled-fit_alone}
use Rattle.ec_coherence.specs.System.{System, base_of, is_of, undurable}
use Rattle.ec_coherence.specs.Events.{shown_boot, shown_op}
use Rattle.ec_coherence.specs.Log.{HasWrites}
use Rattle.ec_coherence.proofs.ForServer.Formed.{all-sound}
use Rattle.ec_coherence.proofs.ForBatches.OpenSlots as slots
use Rattle.ec_coherence.proofs.ForServer.Tables.{same_some}
use Rattle.ec_coherence.specs.CommitLaws.{AllAgree}
use Rattle.ec_coherence.specs.Watches.{WatchAgrees, still_in}
use Rattle.ec_history.specs.OfLaws.Accounts.{IsUndurable, LinesTell}
use Rattle.ec_history.proofs.OfLaws.Telling.{kept-told}
use Rattle.ec_lawful.specs.LawfulRuns.{ShowLawfully}
use Rattle.ec_lawful.specs.HeadlineLaws.{TellsAll}
use Rattle.ec_lawful.proofs.ForWhole.LinesTell.{Still, still-of}
use Rattle.ec_base.proofs.Options.{none_some}
use Rattle.ec_base.proofs.Bools.{same_tests, clash as off, is-true, holds-true as holds}
use Rattle.ec_coherence.proofs.LossesTold.{each-of-map}
use Rattle.ec_history.proofs.OfLaws.ForPlacing.BasesAlike.{each-map}
use Rattle.ec_history.proofs.OfLaws.ForPlacing.LateLoss.{filter-same}

-- a number of these operations is one
member-of : (p : Op → Bool) (ks : List Op) → Each (λ k. T (p k) → T (member k.number (numbers (filter p ks)))) ks
member-of p [] = tt
member-of p (k ∷ ks) = (λ t. here (p k) t, rest (p k) ks (member-of p ks))
  where
    here : (b : Bool) → T b → T (member k.number (numbers (cond b (k ∷ filter p ks) (filter p ks))))
    here true t = holds ((k.number == k.number) || member k.number (numbers (filter p ks))) (or_left (k.number == k.number) _ (grind arith))
    here false t = absurd t

    more : (j : Op) (b : Bool) → T (member j.number (numbers (filter p ks))) → T (member j.number (numbers (cond b (k ∷ filter p ks) (filter p ks))))
    more j true t = go (j.number == k.number)
      where
        go : (x : Bool) → T (x || member j.number (numbers (filter p ks)))
        go true = tt
        go false = t
    more j false t = t

    rest : (b : Bool) (js : List Op) → Each (λ j. T (p j) → T (member j.number (numbers (filter p ks)))) js → Each (λ j. T (p j) → T (member j.number (numbers (cond b (k ∷ filter p ks) (filter p ks))))) js
    rest b [] a = tt
    rest b (j ∷ js) a = (λ t. more j b (a.0 t), rest b js a.1)

each-at : (P : Op → Type 0) (Q : Op → Type 0) → ((k : Op) → P k → Q k) → (ks : List Op) → Each P ks → Each Q ks
each-at P Q f ks a = each-map P Q f ks a

filter-mapped : (f : Op → Op) (p : Op → Bool) (ks : List Op) → filter p (map f ks) ≡ map f (filter (λ k. p (f k)) ks)
filter-mapped f p [] = refl
filter-mapped f p (k ∷ ks) = ap (λ xs. cond (p (f k)) (f k ∷ xs) xs) (filter-mapped f p ks) ∙ go (p (f k))
  where
    go : (b : Bool) → cond b (f k ∷ map f (filter (λ j. p (f j)) ks)) (map f (filter (λ j. p (f j)) ks)) ≡ map f (cond b (k ∷ filter (λ j. p (f j)) ks) (filter (λ j. p (f j)) ks))
    go true = refl
    go false = refl

less-apart : (a b f : ℕ) → f < a → f < b → a - f ≡ b - f → a ≡ b
less-apart a b f p q e = omega (arith, p, q, e)

module _ (g : System) (all : AllAgree g) (tells : TellsAll g) where
  abbrev ss : List Shown
  ss = g.ghost.shown

  ops-updates : (ks : List Op) → updates (map (shown_op g) ks) ≡ updates ks
  ops-updates [] = refl
  ops-updates (k ∷ ks) = ap (λ us. k.update ∷ us) (ops-updates ks)

  keeps : kept (base_of g) (place ss) ≡ map (shown_op g) g.ghost.kept
  keeps = ap (kept (base_of g)) (all.0).events.placed ∙ (all.0).events.keeps

  -- the lines name it as durable
  abbrev named : Op → Bool
  named o = member o.number (durable o.clerk (shown_boot g o.clerk o.boot) ss)

  told : Each (λ o. T (named o) ⊎ IsUndurable o.clerk (shown_boot g o.clerk o.boot) o.number ss) g.ghost.kept
  told = each-of-map (shown_op g) (λ k. T (member k.number (durable k.clerk k.boot ss)) ⊎ IsUndurable k.clerk k.boot k.number ss) g.ghost.kept
      (subst (Each (λ k. T (member k.number (durable k.clerk k.boot ss)) ⊎ IsUndurable k.clerk k.boot k.number ss)) keeps
      (kept-told (base_of g) g.durable.max_objects ss (subst (IsLegal (base_of g) g.durable.max_objects) (sym (all.0).events.placed) (all.0).events.legal) tells.told))

  -- one that isn't durable is of an open session, and lines show it so
  undurable-shown : (o : Op) → (T (not (g.ghost.is_durable o)) → HasWrites g o) → ((s : ℕ) → T (is_of (g.ghost.owner s) o && not (g.ghost.is_durable o)) → T (member o.number (numbers (undurable g.ghost s))))
      → T (not (g.ghost.is_durable o)) → IsUndurable o.clerk (shown_boot g o.clerk o.boot) o.number ss
  undurable-shown o has among u =
      let w = has u in
      let q = slots.owner-slot g (all.0).sessions w.session w.is_open in
      let mine : T (of_start q.0 ((q.1).age).boot o) = subst (λ z. T (is_of z o)) q.3 w.own in
      let ids = and_parts (q.0 == o.clerk) (((q.1).age).boot == o.boot) (is-true _ mine) in
      let c : q.0 ≡ o.clerk = eqb-true q.0 o.clerk ids.0 in
      let b : ((q.1).age).boot ≡ o.boot = eqb-true ((q.1).age).boot o.boot ids.1 in
      let at : slot g.durable o.clerk ≡ Some q.1 = ap (slot g.durable) (sym c) ∙ (q.2).0 in
      let t : T (member o.number (numbers (undurable g.ghost w.session))) = among w.session (both _ _ w.own u) in
      let x : WatchAgrees g o.clerk (watch o.clerk ss) = all.1 o.clerk in
      let y : T (member o.number (watch o.clerk ss).undurable) = subst (λ l. T (member o.number l)) (sym (x.still ∙ ap (still_in g.ghost) at
      ∙ ap (λ z. elim z as (λ v. List ℕ) [ true ↦ numbers (undurable g.ghost (q.1).session) | false ↦ [] ]) (is-true (q.1).is_open (q.2).2) ∙ ap (λ z. numbers (undurable g.ghost z)) (q.2).1)) t in
      go x (q.1) at b y (watch o.clerk ss).open_start refl
    where
      both : (a b : Bool) → T a → T b → T (a && b)
      both true b x y = y
      both false b x y = x

      go : WatchAgrees g o.clerk (watch o.clerk ss) → (sl : Slot) → slot g.durable o.clerk ≡ Some sl → (sl.age).boot ≡ o.boot → T (member o.number (watch o.clerk ss).undurable) → (z : Option ℕ) → (watch o.clerk ss).open_start ≡ z
          → IsUndurable o.clerk (shown_boot g o.clerk o.boot) o.number ss
      go x sl at b y None e = absurd (subst (λ l. T (member o.number l)) (x.unseen e) y)
      go x sl at b y (Some a) e =
          let k = x.open_start a e in
          let same : k.0 ≡ sl = same_some (sym k.1 ∙ at) in
          record { open_start = e ∙ ap Some (k.3 ∙ ap (λ z. shown_boot g o.clerk (z.age).boot) same ∙ ap (shown_boot g o.clerk) b); among = y }

  -- and one that lines show so isn't durable
  shown-undurable : (o : Op) → g.first_boot o.clerk < o.boot → IsUndurable o.clerk (shown_boot g o.clerk o.boot) o.number ss → T (g.ghost.is_durable o) → ⊥
  shown-undurable o above u d =
      let k = still-of g all o.clerk (shown_boot g o.clerk o.boot) o.number u in
      let owns : g.ghost.owner (k.slot_of).session ≡ Some (o.clerk, (k.slot_of).age) = ((all.0).sessions.slots o.clerk k.slot_of k.in_slot).2 in
      let is-open = slots.at-open (k.slot_of).session g.durable.sessions o.clerk k.slot_of (k.in_slot, refl, k.is_open) in
      let first : g.first_boot o.clerk < ((k.slot_of).age).boot = ((all.3).owned (k.slot_of).session o.clerk (k.slot_of).age owns).0 ((all.0).images.unfrozen (k.slot_of).session is-open) in
      let boots : o.boot ≡ ((k.slot_of).age).boot = less-apart o.boot ((k.slot_of).age).boot (g.first_boot o.clerk) above first k.boot in
      off (g.ghost.is_durable k.op) k.undurable (subst T ((all.3).alike o k.op (sym k.clerk) (boots ∙ sym k.start) (sym k.number)) d)

  same : Each (λ o. named o ≡ g.ghost.is_durable o) g.ghost.kept
  same = go g.ghost.kept told (all.0).logs.writes (all.3).above λ s. member-of (λ k. is_of (g.ghost.owner s) k && not (g.ghost.is_durable k)) g.ghost.kept
    where
      one : (o : Op) → T (named o) ⊎ IsUndurable o.clerk (shown_boot g o.clerk o.boot) o.number ss → (T (not (g.ghost.is_durable o)) → HasWrites g o) → g.first_boot o.clerk < o.boot
          → ((s : ℕ) → T (is_of (g.ghost.owner s) o && not (g.ghost.is_durable o)) → T (member o.number (numbers (undurable g.ghost s)))) → named o ≡ g.ghost.is_durable o
      one o t has above among = same_tests (named o) (g.ghost.is_durable o) (λ n. yes (g.ghost.is_durable o) refl n) (λ d. elim t [ inl n ↦ n | inr u ↦ absurd (shown-undurable o above u d) ])
        where
          yes : (b : Bool) → g.ghost.is_durable o ≡ b → T (named o) → T b
          yes true e n = tt
          yes false e n = absurd (off (named o) (tells.told.apart o.clerk (shown_boot g o.clerk o.boot) o.number (undurable-shown o has among (subst (λ b. T (not b)) (sym e) tt))) n)

      go : (ks : List Op) → Each (λ o. T (named o) ⊎ IsUndurable o.clerk (shown_boot g o.clerk o.boot) o.number ss) ks → Each (λ o. T (not (g.ghost.is_durable o)) → HasWrites g o) ks → Each (λ o. g.first_boot o.clerk < o.boot) ks
          → ((s : ℕ) → Each (λ k. T (is_of (g.ghost.owner s) k && not (g.ghost.is_durable k)) → T (member k.number (numbers (undurable g.ghost s)))) ks) → Each (λ o. named o ≡ g.ghost.is_durable o) ks
      go [] a b c d = tt
      go (k ∷ ks) a b c d = (one k a.0 b.0 c.0 (λ s. (d s).0), go ks a.1 b.1 c.1 (λ s. (d s).1))

  -- what durable lines leave is what the server has
  left : updates (durable_ops (base_of g) ss) ≡ updates (filter g.ghost.is_durable g.ghost.kept)
  left = ap (λ ks. updates (filter (λ k. member k.number (durable k.clerk k.boot ss)) ks)) keeps ∙ ap updates (filter-mapped (shown_op g) (λ k. member k.number (durable k.clerk k.boot ss)) g.ghost.kept)
      ∙ ops-updates (filter named g.ghost.kept) ∙ ap updates (filter-same named g.ghost.is_durable g.ghost.kept same)

  volume : images g.durable.volume ≡ after g.origin (updates (filter g.ghost.is_durable g.ghost.kept))
  volume = λ t x. (all.0).images.server x t

  stored : IsStored (base_of g) ss (images g.durable.volume)
  stored path = ap (λ v. tree v path) (volume ∙ ap (after g.origin) (sym left))

  formed : WellFormed (images g.durable.volume)
  formed = subst WellFormed (sym volume) (kept-formed g.origin (updates (filter g.ghost.is_durable g.ghost.kept)) (all.0).images.origin
      (all-sound (filter g.ghost.is_durable g.ghost.kept) (each-filter (λ o. T (is_sound o.update)) g.ghost.is_durable g.ghost.kept (all.0).images.sound))
      (pulled-fit_alone (λ k. k.update) g.origin g.ghost.is_durable g.ghost.kept (all.0).logs.closed (all.0).images.fits))

  pub show-lawfully : ShowLawfully (base_of g) g.durable.max_objects ss (images g.durable.volume)
  show-lawfully = record { fronts = tells.fronts; formed = formed; stored = stored }
