-- Real ids are exchanged for places.
use Rattle.std.proofs.Common.{◌≡◌, refl, sym, ap, subst, ◌∙◌, inl, inr, ◌⊎◌, arith, ◌≤◌, ◌+◌, ◌==◌, ◌||◌, ◌&&◌, not, ℕ, Bool, true, false, cond, T, List, [], ◌∷◌, ◌++◌, map, Option, Some, None}
use Rattle.std.proofs.lemmas.Bool.{eqb-true}
use Rattle.ec_volume.specs.Image.{is_gone}
use Rattle.ec_volume.specs.Update.{distinct, is_make, member}
use Rattle.ec_volume.specs.Volume.{Fits, Images, WellFormed, after}
use Rattle.ec_volume.specs.declared.update.Update.{Update}
use Rattle.ec_volume.specs.declared.update.Update.TheVariants.{Make, Drop, Move, Put, Len, Mode, Stamp, Order, Shift, Owner}
use Rattle.ec_plain.specs.declared.call.Call.{Call}
use Rattle.ec_history.specs.History.{Base, Each, History, Op, Throughout, issued, issued_by, issued_from, kept, kept_next, of_start, outcome, updates, without}
use Rattle.ec_history.specs.Legal.{IsLegal, is_making}
use Rattle.ec_history.specs.Lines.{AreCovered, IsStored}
use Rattle.ec_history.specs.Placing.{place}
use Rattle.ec_history.specs.declared.entry.Entry.{Entry}
use Rattle.ec_history.specs.declared.entry.Entry.TheVariants as entry
use Rattle.ec_history.specs.declared.shown.Shown.{Shown}
use Rattle.ec_history.proofs.OfLaws.ForFormed.Fresh.{plain-makes}
use Rattle.ec_history.proofs.OfLaws.ForPlacing.More.{issued-step, kept-step}
use Rattle.ec_history.proofs.OfLaws.ForPlacing.Numbers.{each-append, each-front, each-back}
use Rattle.ec_history.proofs.OfLaws.ForPlacing.Places.{places-distinct, places-within}
use Rattle.ec_history.specs.OfLaws.Renaming.{IsRenaming}
use Rattle.ec_history.specs.OfLaws.Renamed.{AreRenamed}
use Rattle.ec_history.proofs.OfLaws.ForRenamed.Agreeing.{renamed-agree}
use Rattle.ec_history.proofs.OfLaws.ForPlacing.BasesAlike.{covered-as, legal-as, stored-as, each-map}
use Rattle.ec_history.proofs.OfLaws.ForRenamed.Shapes.{kept-by}
use Rattle.ec_history.specs.OfLaws.Placing.{made_ids}
use Rattle.ec_history.specs.OfLaws.NewIds.{Clear, IsNewId, MayChange, WouldMake}
use Rattle.ec_history.proofs.OfLaws.ForRenamed.Clearing.{Unmade, clears}
use Rattle.ec_history.proofs.OfLaws.ForRenamed.Names.{Good, Named, named, renames}
use Rattle.ec_history.proofs.OfLaws.ForRenamed.OwedOperands.{parts}
use Rattle.ec_history.proofs.OfLaws.ForRenamed.IdleIds.{covered-so, fits-so, legal-so, stored-so}
use Rattle.ec_history.proofs.OfLaws.ForRenamed.Swap.{unlike}
use Rattle.ec_base.proofs.Numbers.{same-self as alike}
use Rattle.ec_base.proofs.Bools.{and_parts-T}
use Rattle.ec_base.proofs.Equalities.{not_false as true-false}

nil-cons : (p : ℕ) (ps : List ℕ) → [] ≡ p ∷ ps → ⊥
nil-cons p ps e = cc

-- of none of a start's operations nothing is taken
without-none : (c b : ℕ) (ks : List Op) → without c b [] ks ≡ ks
without-none c b [] = refl
without-none c b (k ∷ ks) = go (of_start c b k) ∙ ap (λ os. k ∷ os) (without-none c b ks)
  where
    go : (z : Bool) → cond (not (z && false)) (k ∷ without c b [] ks) (without c b [] ks) ≡ k ∷ without c b [] ks
    go true = refl
    go false = refl

-- the places of operations that make an object
abbrev pub made_places : List Op → List ℕ
made_places [] = []
made_places (o ∷ os) = cond (is_make o.update) (o.place ∷ made_places os) (made_places os)

makes-append : (os qs : List Op) → made_places (os ++ qs) ≡ made_places os ++ made_places qs
makes-append [] qs = refl
makes-append (o ∷ os) qs = go (is_make o.update) (makes-append os qs)
  where
    go : (z : Bool) → made_places (os ++ qs) ≡ made_places os ++ made_places qs → cond z (o.place ∷ made_places (os ++ qs)) (made_places (os ++ qs)) ≡ cond z (o.place ∷ made_places os) (made_places os) ++ made_places qs
    go true e = ap (λ ps. o.place ∷ ps) e
    go false e = e

module _ (v : Images) (f : ℕ → ℕ) where
  abbrev base : Base
  base = record { volume = v; fresh = f }

  -- An entry makes the object of its id, or none.
  abbrev IsMaker : Type 0 → ℕ → List Op → Type 0
  IsMaker W p os = ((made_places os ≡ p ∷ []) × Each (λ o. made_ids o.update ≡ f p ∷ []) os × W) ⊎ ((made_places os ≡ []) × Each (λ o. is_make o.update ≡ false) os × Each (λ o. made_ids o.update ≡ []) os)

  one : (ks : List Op) (p c b n : ℕ) (cl : Call) (u : Option Update) → (outcome base ks p cl).update ≡ u
      → IsMaker (is_making (outcome base ks p cl).update ≡ true) p (elim u as (λ z. List Op) [ None ↦ [] | Some u ↦ record { clerk = c; boot = b; number = n; place = p; update = u } ∷ [] ])
  one ks p c b n cl None e = inr (refl, tt, tt)
  one ks p c b n cl (Some (Make d nm o k)) e = inl (refl, (ap (λ z. z ∷ []) (plain-makes (f p) (after v (updates ks)) cl (Make d nm o k) e o refl), tt), ap is_making e)
  one ks p c b n cl (Some (Drop d nm o k)) e = inr (refl, (refl, tt), (refl, tt))
  one ks p c b n cl (Some (Move d x nm o k w)) e = inr (refl, (refl, tt), (refl, tt))
  one ks p c b n cl (Some (Put o at bytes inside)) e = inr (refl, (refl, tt), (refl, tt))
  one ks p c b n cl (Some (Len o len)) e = inr (refl, (refl, tt), (refl, tt))
  one ks p c b n cl (Some (Mode o m)) e = inr (refl, (refl, tt), (refl, tt))
  one ks p c b n cl (Some (Stamp o s)) e = inr (refl, (refl, tt), (refl, tt))
  one ks p c b n cl (Some (Order os)) e = inr (refl, (refl, tt), (refl, tt))
  one ks p c b n cl (Some (Shift d x q nm o k w up)) e = inr (refl, (refl, tt), (refl, tt))
  one ks p c b n cl (Some (Owner o w)) e = inr (refl, (refl, tt), (refl, tt))

  maker : (past : History) (e : ℕ × Entry) → IsMaker (WouldMake base past e) e.0 (issued_by base (kept base past) e)
  maker past (p, entry.Call c b l begun cl a None) = inr (refl, tt, tt)
  maker past (p, entry.Call c b l begun cl a (Some n)) = one (kept base past) p c b n cl (outcome base (kept base past) p cl).update refl
  maker past (p, entry.Loss c b ns) = inr (refl, tt, tt)

  abbrev firsts : History → List ℕ
  firsts h = map (λ e. e.0) h

  -- a later place: it's of one of these entries, and nothing issued before made its id
  abbrev IsLater : History → History → ℕ → Type 0
  IsLater past h q = (member q (firsts h) ≡ true) × Unmade (f q) (issued base past)

  turned : (a b : ℕ) → (a == b) ≡ true → (b == a) ≡ true
  turned a b e = subst (λ z. (z == a) ≡ true) (eqb-true a b e) (alike a)

  left : (x y : Bool) → (x || y) ≡ false → x ≡ false
  left x y e = (parts x y e).0

  off-all : (p : ℕ) (qs : List ℕ) → T (not (member p qs)) → member p qs ≡ false
  off-all p qs t = go (member p qs) t
    where
      go : (z : Bool) → T (not z) → z ≡ false
      go true t = absurd t
      go false t = refl

  off-one : (p q : ℕ) (qs : List ℕ) → member p qs ≡ false → member q qs ≡ true → (q == p) ≡ false
  off-one p q qs n m = unlike q p (λ e. true-false (sym (subst (λ z. member z qs ≡ true) e m) ∙ n))

  module _ (n : ℕ) where
    -- of one more entry
    module _ (past : History) (e : ℕ × Entry) (h : History) (new : IsNewId v f past e) (least : 1 ≤ e.0) (apart : member e.0 (firsts h) ≡ false) (ps : List ℕ) where
      abbrev ours : List Op
      ours = issued_by base (kept base past) e

      later-old : (q : ℕ) → IsLater (past ++ e ∷ []) h q → IsLater past (e ∷ h) q
      later-old q l = (ap (λ z. (q == e.0) || z) l.0 ∙ or-true (q == e.0), each-front (λ o. member (f q) (made_ids o.update) ≡ false) (issued base past) ours (subst (Unmade (f q)) (issued-step base past e) l.1))
        where
          or-true : (z : Bool) → (z || true) ≡ true
          or-true true = refl
          or-true false = refl

      apart-from : Each (λ o. made_ids o.update ≡ f e.0 ∷ []) ours → (o : Op) (rest : List Op) → ours ≡ o ∷ rest → (q : ℕ) → IsLater (past ++ e ∷ []) h q → ((f q == f e.0) ≡ false) × ((q == e.0) ≡ false)
      apart-from m o rest is q l =
          let here = each-back (λ o. member (f q) (made_ids o.update) ≡ false) (issued base past) ours (subst (Unmade (f q)) (issued-step base past e) l.1) in
          let first = (subst (Unmade (f q)) is here).0 in
          let made = (subst (Each (λ o. made_ids o.update ≡ f e.0 ∷ [])) is m).0 in
          (left (f q == f e.0) false (subst (λ z. member (f q) z ≡ false) made first), off-one e.0 q (firsts h) apart l.0)

      pub more-good : IsMaker (WouldMake base past e) e.0 ours → Good v f n ps × Each (IsLater (past ++ e ∷ []) h) ps → Good v f n (made_places ours ++ ps) × Each (IsLater past (e ∷ h)) (made_places ours ++ ps)
      more-good (inr m) k = subst (λ z. Good v f n (z ++ ps) × Each (IsLater past (e ∷ h)) (z ++ ps)) (sym m.0) (k.0, each-map (IsLater (past ++ e ∷ []) h) (IsLater past (e ∷ h)) later-old ps k.1)
      more-good (inl m) k =
          subst (λ z. Good v f n (z ++ ps) × Each (IsLater past (e ∷ h)) (z ++ ps)) (sym m.0)
          ((least, (new m.2).0, by-list ours refl, k.0), ((ap (λ z. z || member e.0 (firsts h)) (alike e.0), (new m.2).1), each-map (IsLater (past ++ e ∷ []) h) (IsLater past (e ∷ h)) later-old ps k.1))
        where
          none-made : (os : List Op) → ours ≡ os → os ≡ [] → ⊥
          none-made os is q = nil-cons e.0 [] (ap made_places (sym (is ∙ q)) ∙ m.0)

          by-list : (os : List Op) → ours ≡ os → Each (λ q. ((f q == f e.0) ≡ false) × ((q == e.0) ≡ false)) ps
          by-list [] is = absurd (none-made [] is refl)
          by-list (o ∷ rest) is = each-map (IsLater (past ++ e ∷ []) h) (λ q. ((f q == f e.0) ≡ false) × ((q == e.0) ≡ false)) (apart-from m.1 o rest is) ps k.1

    goods : (past h : History) → Throughout (IsNewId v f) past h → Each (λ p. 1 ≤ p) (firsts h) → T (distinct (firsts h))
        → Good v f n (made_places (issued_from base (kept base past) h)) × Each (IsLater past h) (made_places (issued_from base (kept base past) h))
    goods past [] t l d = (tt, tt)
    goods past (e ∷ h) t l d =
        let two = and_parts-T (not (member e.0 (firsts h))) (distinct (firsts h)) d in
        let rest = subst (λ ks. Good v f n (made_places (issued_from base ks h)) × Each (IsLater (past ++ e ∷ []) h) (made_places (issued_from base ks h))) (kept-step base past e) (goods (past ++ e ∷ []) h t.1 l.1 two.1) in
        subst (λ z. Good v f n z × Each (IsLater past (e ∷ h)) z) (sym (makes-append (issued_by base (kept base past) e) (issued_from base (kept_next base (kept base past) e) h)))
        (more-good past e h t.0 l.0 (off-all e.0 (firsts h) two.0) (made_places (issued_from base (kept_next base (kept base past) e) h)) (maker past e) rest)

    -- The renaming.
    module _ (formed : WellFormed v) (top : (x : ℕ) → T (not (is_gone (v x))) → x ≤ n) (ps : List ℕ) (m : Named v f n ps) where
      abbrev q : ℕ → ℕ
      q p = m.i (n + p)

      -- an operation made ids whose places aren't of these entries
      abbrev IsPlaced : History → Op → Type 0
      IsPlaced h o = (z : ℕ) → member z (made_ids o.update) ≡ true → (w : ℕ) × (m.r z ≡ n + w) × (member w (firsts h) ≡ false)

      q-gone : (p : ℕ) → 1 ≤ p → T (is_gone (v (q p)))
      q-gone p l = go (is_gone (v (q p))) refl
        where
          not-below : (x : ℕ) → x ≤ n → x ≡ n + p → 1 ≤ p → ⊥
          not-below x a b c = absurd (grind arith)

          go : (z : Bool) → is_gone (v (q p)) ≡ z → T z
          go true e = tt
          go false e = let live = subst (λ z. T (not z)) (sym e) tt in absurd (not-below (q p) (top (q p) live) (sym (m.live (q p) live) ∙ m.back (n + p)) l)

      q-unmade : (p : ℕ) (h : History) (os : List Op) → member p (firsts h) ≡ true → Each (IsPlaced h) os → Unmade (q p) os
      q-unmade p h [] i k = tt
      q-unmade p h (o ∷ os) i k = (go (member (q p) (made_ids o.update)) refl k.0, q-unmade p h os i k.1)
        where
          sums : (a b : ℕ) → n + a ≡ n + b → a ≡ b
          sums a b e = grind arith

          go : (z : Bool) → member (q p) (made_ids o.update) ≡ z → IsPlaced h o → z ≡ false
          go false e k = refl
          go true e k = let w = k (q p) e in absurd (true-false (sym i ∙ ap (λ z. member z (firsts h)) (sums p w.0 (sym (m.back (n + p)) ∙ w.1)) ∙ w.2))

      same-made : (p : ℕ) → m.r (f p) ≡ n + p → q p ≡ f p
      same-made p e = eqb-true (q p) (f p) (sym (m.apart (q p) (f p)) ∙ ap (λ z. z == m.r (f p)) (m.back (n + p) ∙ sym e) ∙ alike (m.r (f p)))

      module _ (past : History) (e : ℕ × Entry) (h : History) (new : IsNewId v f past e) (least : 1 ≤ e.0) (apart : member e.0 (firsts h) ≡ false) (before : Each (IsPlaced (e ∷ h)) (issued base past)) where
        abbrev its : List Op
        its = issued_by base (kept base past) e

        first-in : member e.0 (firsts (e ∷ h)) ≡ true
        first-in = ap (λ z. z || member e.0 (firsts h)) (alike e.0)

        pub changes : IsMaker (WouldMake base past e) e.0 its → Each (λ p. m.r (f p) ≡ n + p) (made_places its) → MayChange v f q past e
        changes (inl k) made w = inl (same-made e.0 (subst (Each (λ p. m.r (f p) ≡ n + p)) k.0 made).0)
        changes (inr k) made w = go (f e.0 == q e.0) refl
          where
            go : (z : Bool) → (f e.0 == q e.0) ≡ z → (q e.0 ≡ f e.0) ⊎ (Each (λ o. is_make o.update ≡ false) (issued_by base (kept base past) e) × Clear (f e.0) (issued base past) × Clear (q e.0) (issued base past))
            go true s = inl (sym (eqb-true (f e.0) (q e.0) s))
            go false s = let z = clears v f formed (f e.0) (q e.0) (λ t. true-false (sym (subst (λ z. (f e.0 == z) ≡ true) t (alike (f e.0))) ∙ s)) (new w).0 (q-gone e.0 least) past (new w).1 (q-unmade e.0 (e ∷ h) (issued base past) first-in before) in inr (k.1, z.0, z.1)

        fewer : (o : Op) → IsPlaced (e ∷ h) o → IsPlaced h o
        fewer o k z i = let w = k z i in (w.0, w.1, (parts (w.0 == e.0) (member w.0 (firsts h)) w.2).1)

        ours-placed : IsMaker (WouldMake base past e) e.0 its → Each (λ p. m.r (f p) ≡ n + p) (made_places its) → Each (IsPlaced h) its
        ours-placed (inl k) made = each-map (λ o. made_ids o.update ≡ f e.0 ∷ []) (IsPlaced h) (λ o s z i. (e.0, at z (subst (λ y. member z y ≡ true) s i), apart)) its k.1
          where
            at : (z : ℕ) → ((z == f e.0) || false) ≡ true → m.r z ≡ n + e.0
            at z i = ap m.r (eqb-true z (f e.0) (or-left (z == f e.0) i)) ∙ (subst (Each (λ p. m.r (f p) ≡ n + p)) k.0 made).0
              where
                or-left : (b : Bool) → (b || false) ≡ true → b ≡ true
                or-left true i = refl
                or-left false i = i
        ours-placed (inr k) made = each-map (λ o. made_ids o.update ≡ []) (IsPlaced h) (λ o s z i. absurd (true-false (sym i ∙ ap (member z) s))) its k.2

        pub placed-on : IsMaker (WouldMake base past e) e.0 its → Each (λ p. m.r (f p) ≡ n + p) (made_places its) → Each (IsPlaced h) (issued base (past ++ e ∷ []))
        placed-on k made = subst (Each (IsPlaced h)) (sym (issued-step base past e)) (each-append (IsPlaced h) (issued base past) its (each-map (IsPlaced (e ∷ h)) (IsPlaced h) fewer (issued base past) before) (ours-placed k made))

      all-change : (past h : History) → Throughout (IsNewId v f) past h → Each (λ p. 1 ≤ p) (firsts h) → T (distinct (firsts h)) → Each (IsPlaced h) (issued base past)
          → Each (λ p. m.r (f p) ≡ n + p) (made_places (issued_from base (kept base past) h)) → Throughout (MayChange v f q) past h
      all-change past [] t l d k made = tt
      all-change past (e ∷ h) t l d k made =
          let two = and_parts-T (not (member e.0 (firsts h))) (distinct (firsts h)) d in
          let apart = off-all e.0 (firsts h) two.0 in
          let rest = issued_from base (kept_next base (kept base past) e) h in
          let both = subst (Each (λ p. m.r (f p) ≡ n + p)) (makes-append (issued_by base (kept base past) e) rest) made in
          let here = each-front (λ p. m.r (f p) ≡ n + p) (made_places (issued_by base (kept base past) e)) (made_places rest) both in
          let more = each-back (λ p. m.r (f p) ≡ n + p) (made_places (issued_by base (kept base past) e)) (made_places rest) both in (
            changes past e h t.0 l.0 apart k (maker past e) here,
            all-change (past ++ e ∷ []) h t.1 l.1 two.1 (placed-on past e h t.0 l.0 apart k (maker past e) here) (subst (λ ks. Each (λ p. m.r (f p) ≡ n + p) (made_places (issued_from base ks h))) (sym (kept-step base past e)) more),
          )

    module _ (ss : List Shown) (formed : WellFormed v) (top : (x : ℕ) → T (not (is_gone (v x))) → x ≤ n) (t : Throughout (IsNewId v f) [] (place ss)) where
      least : Each (λ p. 1 ≤ p) (firsts (place ss))
      least = each-map (λ p. (1 ≤ p) × (p ≤ Rattle.std.specs.Prelude.length ss)) (λ p. 1 ≤ p) (λ p k. k.0) (firsts (place ss)) (places-within ss)

      abbrev pub ps : List ℕ
      ps = made_places (issued base (place ss))

      pub m : Named v f n ps
      m = named v f n top ps (goods [] (place ss) t least (places-distinct ss)).0

      abbrev pub now : Base
      now = record { volume = v; fresh = λ p. m.i (n + p) }

      abbrev pub target : Base
      target = record { volume = v; fresh = λ p. n + p }

      pub changed : Throughout (MayChange v f (λ p. m.i (n + p))) [] (place ss)
      changed = all-change formed top ps m [] (place ss) t least (places-distinct ss) tt m.made

      pub ren : IsRenaming m.r
      ren = renames v f n formed ps m

      pub same : AreRenamed m.r now target
      same = record { volume = kept-by m.r ren v formed m.live; fresh = λ p. sym (m.back (n + p)) }

      pub legal-there : (most : ℕ) → IsLegal base most (place ss) → IsLegal target most (place ss)
      legal-there most k = legal-as now target (renamed-agree m.r ren now target same) most (place ss) (legal-so v f (λ p. m.i (n + p)) ss changed most k)

      pub covered-there : AreCovered base ss → AreCovered target ss
      covered-there k = covered-as now target (renamed-agree m.r ren now target same) ss (covered-so v f (λ p. m.i (n + p)) ss changed k)

      pub fits-there : Fits v (updates (kept base (place ss))) → Fits v (updates (kept target (place ss)))
      fits-there k =
          subst (λ ks. Fits v (updates ks)) (without-none 0 0 (kept target (place ss)))
          ((renamed-agree m.r ren now target same).fits (place ss) 0 0 [] (subst (λ ks. Fits v (updates ks)) (sym (without-none 0 0 (kept now (place ss)))) (fits-so v f (λ p. m.i (n + p)) ss changed k)))

      pub stored-there : (w : Images) → IsStored base ss w → IsStored target ss w
      stored-there w k = stored-as now target (renamed-agree m.r ren now target same) ss w (stored-so v f (λ p. m.i (n + p)) ss changed w k)
