-- A session ends with a line that names what it loses: the history takes the loss.
use Rattle.std.proofs.Common.{◌≡◌, ◌≢◌, refl, sym, ap, subst, ◌∙◌, arith, ◌<◌, ◌+◌, ℕ, Bool, true, false, not, ◌==◌, ◌&&◌, ◌||◌, cond, map, T, List, [], ◌∷◌, ◌++◌, length, Option, Some, None, append_assoc}
use Rattle.std.specs.Prelude.{is_some, ⊤}
use Rattle.std.specs.List.{filter, list_all, list_any}
use Rattle.std.proofs.lemmas.List.Folds.{list_any-append}
use Rattle.std.proofs.lemmas.Bool.{true≢false}
use Rattle.ec_base.specs.Holds.{is_free}
use Rattle.ec_volume.specs.Image.{is_id}
use Rattle.ec_volume.specs.Update.{member, operands}
use Rattle.ec_volume.specs.Volume.{Fits}
use Rattle.ec_order.specs.Order.{InClosure, Issued, ask, need}
use Rattle.ec_history.specs.History.{Base, History, Op, Each, Throughout, Covers, kept, owed, numbers, updates, is_entry_of, is_one_of, of_start, same_start}
use Rattle.ec_history.specs.Legal.{IsLegal, is_op_of}
use Rattle.ec_history.specs.Placing.{watch, begun, ended, is_running, owner, place, same_numbers, to_lose}
use Rattle.ec_history.specs.declared.watch.Watch.{Watch}
use Rattle.ec_history.specs.declared.entry.Entry.{Entry}
use Rattle.ec_history.specs.declared.entry.Entry.TheVariants as entry
use Rattle.ec_history.specs.declared.shown.Shown.{Shown}
use Rattle.ec_history.specs.declared.shown.Shown.TheVariants as show
use Rattle.ec_history.proofs.OfLaws.ForPlacing.Cuts.{legal-step, placeable-step, throughout-append}
use Rattle.ec_history.proofs.OfLaws.ForPlacing.Late.{place-ended}
use Rattle.ec_history.proofs.OfLaws.ForPlacing.More.{count-next, kept-step, owed-others, watch-step}
use Rattle.ec_history.proofs.OfLaws.ForPlacing.Watching.{other_end, own_end}
use Rattle.ec_sessions.specs.declared.slot.Slot.{Slot}
use Rattle.ec_wire.specs.declared.msg.Msg.{Msg}
use Rattle.ec_durable.specs.Durable.{slot}
use Rattle.ec_durable.specs.declared.state.Durable.{Durable}
use Rattle.ec_protocol.specs.declared.clerk.Clerk.{Clerk}
use Rattle.ec_protocol.specs.declared.server.Server.{Server}
use Rattle.ec_coherence.specs.System.{System, base_of, is_of, undurable}
use Rattle.ec_coherence.specs.Tokens.{eff, eff_hold, view}
use Rattle.ec_coherence.specs.Events.{EventsAgree, CutAgrees, Frees, IsUncut, Untouched, same_op, shown_boot, shown_op}
use Rattle.ec_coherence.specs.Invariant.{Invariant}
use Rattle.ec_coherence.specs.Steps.{end_session, runs}
use Rattle.ec_coherence.proofs.ForServer.Lists.{each-more, each-part, each-turn, each-whole}
use Rattle.ec_coherence.proofs.ForServer.Tables.{by-session, differ, differs, same_some}
use Rattle.ec_coherence.specs.Starts.{StartsAgree}
use Rattle.ec_coherence.specs.Watches.{WatchesAgree}
use Rattle.ec_coherence.proofs.Behind as around
use Rattle.ec_coherence.proofs.Its as its
use Rattle.ec_coherence.proofs.Lost as losses
use Rattle.ec_coherence.proofs.Lost.{minus-same, of-part}
use Rattle.ec_coherence.proofs.Twins.{Twin, twins}
use Rattle.ec_base.specs.Options.{or_zero}
use Rattle.ec_base.proofs.Bools.{left as and_first, and-both as and_both, or-right as or_next, right as and_next, or_first, is-true, holds-true as holds}
use Rattle.ec_base.proofs.Numbers.{same-self as same, equal}

-- nothing is covered where nothing is asked
nothing-asked : (is : Issued) (n : ℕ) → InClosure is (λ m. member m []) n → ⊥
nothing-asked is n (ask m u h t) = t
nothing-asked is n (need m k a b h j l t r) = nothing-asked is k r

same-lists : (ns : List ℕ) → T (same_numbers ns ns)
same-lists ns = and_both (list_all (λ n. member n ns) ns) (list_all (λ m. member m ns) ns) (all ns (λ n t. t)) (all ns (λ n t. t))
  where
    all : (ms : List ℕ) → ((n : ℕ) → T (member n ms) → T (member n ns)) → T (list_all (λ n. member n ns) ms)
    all [] f = tt
    all (m ∷ ms) f = and_both (member m ns) (list_all (λ n. member n ns) ms) (f m (or_first (m == m) (member m ms) (holds (m == m) (same m)))) (all ms (λ n t. f n (or_next (n == m) (member n ms) t)))

-- two operations of one start and number
alike-ops : (j k : Op) → j.clerk ≡ k.clerk → j.boot ≡ k.boot → j.number ≡ k.number → T (same_op j k)
alike-ops j k p q r = and_both (of_start j.clerk j.boot k && of_start k.clerk k.boot j) (j.number == k.number)
    (and_both (of_start j.clerk j.boot k) (of_start k.clerk k.boot j) (and_both (j.clerk == k.clerk) (j.boot == k.boot) (eq j.clerk k.clerk p) (eq j.boot k.boot q)) (and_both (k.clerk == j.clerk) (k.boot == j.boot) (eq k.clerk j.clerk (sym p)) (eq k.boot j.boot (sym q)))) (eq j.number k.number r)
  where
    eq : (m n : ℕ) → m ≡ n → T (m == n)
    eq m n e = holds (m == n) (ap (λ z. z == n) e ∙ same n)

-- a field that an end leaves
pub end-field : {A : Type 0} (f : Watch → A) (w : Watch) (ns : List ℕ) → f (own_end w ns) ≡ f w → f (other_end w) ≡ f w → f (ended w ns) ≡ f w
end-field f w ns p q = go (is_running w (owner w))
  where
    go : (z : Bool) → f (cond z (own_end w ns) (other_end w)) ≡ f w
    go true = p
    go false = q

begun-ended : (w : Watch) (ns : List ℕ) → (begun (ended w ns)).starts ≡ (begun w).starts
begun-ended w ns = end-field (λ v. (begun v).starts) w ns (own w.running) (other w.running)
  where
    own : (z : Bool) → (cond z (own_end w ns) (record (own_end w ns) { starts = w.starts + 1; running = true })).starts ≡ (cond z w (record w { starts = w.starts + 1; running = true })).starts
    own true = refl
    own false = refl

    other : (z : Bool) → (cond z (other_end w) (record (other_end w) { starts = w.starts + 1; running = true })).starts ≡ (cond z w (record w { starts = w.starts + 1; running = true })).starts
    other true = refl
    other false = refl

-- each is one of all
each-in : (ks : List Op) → Each (λ j. (p : Op → Bool) → T (p j) → T (list_any p ks)) ks
each-in [] = tt
each-in (k ∷ ks) = ((λ p t. or_first (p k) (list_any p ks) t), each-turn (λ j. (p : Op → Bool) → T (p j) → T (list_any p ks)) (λ j. (p : Op → Bool) → T (p j) → T (list_any p (k ∷ ks))) ks (λ j f p t. or_next (p k) (list_any p ks) (f p t)) (each-in ks))

pub each-of-map : (f : Op → Op) (Q : Op → Type 0) (ks : List Op) → Each Q (map f ks) → Each (λ k. Q (f k)) ks
each-of-map f Q [] h = tt
each-of-map f Q (k ∷ ks) h = (h.0, each-of-map f Q ks h.1)

each-to-map : (f : Op → Op) (Q : Op → Type 0) (ks : List Op) → Each (λ k. Q (f k)) ks → Each Q (map f ks)
each-to-map f Q [] h = tt
each-to-map f Q (k ∷ ks) h = (h.0, each-to-map f Q ks h.1)

pub each-both : (P Q : Op → Type 0) (ks : List Op) → Each P ks → Each Q ks → Each (λ k. P k × Q k) ks
each-both P Q [] p q = tt
each-both P Q (k ∷ ks) p q = ((p.0, q.0), each-both P Q ks p.1 q.1)

module _ (g : System) (i : Invariant g) (wa : WatchesAgree g) (st : StartsAgree g) (c : ℕ) (sl : Slot) (in_slot : slot g.durable c ≡ Some sl) (opened : T sl.is_open)
    (d : Durable) (v : Option Server) (p : List (ℕ × Msg)) (others : (j : ℕ) → j ≢ c → slot d j ≡ slot g.durable j) (closed : (so : Slot) → slot d c ≡ Some so → T so.is_open → ⊥)
    (own-tokens : (x : ℕ) → eff (view (record g { durable = d; server = v; pool = p; ghost = end_session g sl.session g.ghost })) sl.session x ≡ eff (view g) sl.session x)
    (cut-tokens : (r : ℕ) (ks : List Op) → g.ghost.frozen r ≡ Some ks → (x : ℕ) → eff (view (record g { durable = d; server = v; pool = p; ghost = end_session g sl.session g.ghost })) r x ≡ eff (view g) r x)
    (most : d.max_objects ≡ g.durable.max_objects) (fits : Fits g.origin (updates (filter (λ k. not (is_of (g.ghost.owner sl.session) k && not (g.ghost.is_durable k))) g.ghost.kept)))
    (is-shown : (is_some (watch c g.ghost.shown).open_start || runs g c (sl.age).boot) ≡ true) where
  abbrev s : ℕ
  s = sl.session

  abbrev b : ℕ
  b = (sl.age).boot

  abbrev sb : ℕ
  sb = shown_boot g c b

  abbrev w : Watch
  w = watch c g.ghost.shown

  abbrev ns : List ℕ
  ns = numbers (undurable g.ghost s)

  abbrev B : Base
  B = base_of g

  abbrev H : History
  H = g.ghost.history

  abbrev line : Shown
  line = show.Ended c ns

  abbrev pub told : System
  told = around.behind g i wa st c sl in_slot opened d v p others closed own-tokens cut-tokens line

  abbrev e : ℕ × Entry
  e = (length g.ghost.shown + 1, entry.Loss c sb ns)

  owner-is : g.ghost.owner s ≡ Some (c, sl.age)
  owner-is = its.owner-is g i wa st c sl in_slot opened

  above : g.first_boot c < b
  above = its.above g i wa st c sl in_slot opened

  owner-shown : owner w ≡ Some sb
  owner-shown = its.owner-shown g i wa st c sl in_slot opened is-shown

  grows : place (g.ghost.shown ++ line ∷ []) ≡ H ++ e ∷ []
  grows = place-ended g.ghost.shown c ns ∙ ap (λ h. h ++ (length g.ghost.shown + 1, entry.Loss c (or_zero (owner w)) ns) ∷ []) i.events.placed
      ∙ ap (λ o. H ++ (length g.ghost.shown + 1, entry.Loss c (or_zero o) ns) ∷ []) owner-shown

  pub watched : (f : ℕ) → watch f (g.ghost.shown ++ line ∷ []) ≡ cond (f == c) (ended (watch f g.ghost.shown) ns) (watch f g.ghost.shown)
  watched f = watch-step f g.ghost.shown line

  watched-own : watch c (g.ghost.shown ++ line ∷ []) ≡ ended w ns
  watched-own = watched c ∙ ap (λ z. cond z (ended w ns) w) (same c)

  watched-other : (f : ℕ) → (f == c) ≡ false → watch f (g.ghost.shown ++ line ∷ []) ≡ watch f g.ghost.shown
  watched-other f n = watched f ∙ ap (λ z. cond z (ended (watch f g.ghost.shown) ns) (watch f g.ghost.shown)) n

  -- what it names is what the line is to name
  named : T (same_numbers ns (to_lose w))
  named = go (is_some w.open_start) refl
    where
      none : (o : Option ℕ) → is_some o ≡ false → o ≡ None
      none None e = refl
      none (Some x) e = absurd (true≢false e)

      go : (z : Bool) → is_some w.open_start ≡ z → T (same_numbers ns (cond (is_some w.open_start) w.undurable w.early))
      go true e = subst (λ ms. T (same_numbers ns ms)) (sym (ap (λ z. cond z w.undurable w.early) e ∙ its.still-now g i wa st c sl in_slot opened)) (same-lists ns)
      go false e = subst (λ ms. T (same_numbers ms (cond (is_some w.open_start) w.undurable w.early))) (sym ((wa c).unseen (none w.open_start e)) ∙ its.still-now g i wa st c sl in_slot opened)
          (subst (λ ms. T (same_numbers [] ms)) (sym (ap (λ z. cond z w.undurable w.early) e ∙ (wa c).early)) tt)

  -- starts but that of the session
  strange : (f r : ℕ) → (f ≡ c → r ≢ b) → same_start f (shown_boot g f r) c sb ≡ false
  strange f r n = go (f == c) refl
    where
      go : (z : Bool) → (f == c) ≡ z → (z && (shown_boot g f r == sb)) ≡ false
      go false e = refl
      go true e =
          let q : f ≡ c = equal f c e in
          ap (λ y. shown_boot g y r == sb) q ∙ flip (shown_boot g c r) sb ∙ minus-same (g.first_boot c) r b above ∙ differ b r (λ x. absurd (n q (sym x)))
        where
          flip : (m n : ℕ) → (m == n) ≡ (n == m)
          flip m n = grind arith

  not-told : (r : ℕ) → g.running c ≡ Some r → r ≢ b → (ended w ns).untold ≡ w.untold
  not-told r q n = ap (λ z. (cond z (own_end w ns) (other_end w)).untold) (ap (λ o. w.running && is_id w.starts o) owner-shown ∙ ap (λ y. w.running && (y == sb)) (its.starts-now g i wa st c sl in_slot opened r q)
      ∙ ap (λ z. w.running && z) (flip (shown_boot g c r) sb ∙ minus-same (g.first_boot c) r b above ∙ differ b r (λ x. absurd (n (sym x)))) ∙ none w.running)
    where
      flip : (m n : ℕ) → (m == n) ≡ (n == m)
      flip m n = grind arith

      none : (z : Bool) → (z && false) ≡ false
      none true = refl
      none false = refl

  now-told : g.running c ≡ Some b → (ended w ns).untold ≡ Some ns
  now-told q = ap (λ z. (cond z (own_end w ns) (other_end w)).untold) (ap (λ o. w.running && is_id w.starts o) owner-shown ∙ ap (λ y. y && (w.starts == sb)) (its.running-watch g i wa st c sl in_slot opened b q)
      ∙ ap (λ y. y == sb) (its.starts-now g i wa st c sl in_slot opened b q) ∙ same sb)

  -- Of a running start that isn't cut off then.
  module _ (f r : ℕ) (k : Clerk) (rn : g.running f ≡ Some r) (q : g.clerks f r ≡ Some k) (n : IsUncut told f k) where
    before : IsUncut g f k
    before = around.uncut-before g i wa st c sl in_slot opened d v p others closed own-tokens cut-tokens line f k n

    another : f ≡ c → r ≢ b
    another y = around.not-its g i wa st c sl in_slot opened d v p others closed own-tokens cut-tokens line r k (sym (ap (λ z. g.clerks z r) y) ∙ q) (subst (λ z. IsUncut told z k) y n)

    untold-now : (watch f (g.ghost.shown ++ line ∷ [])).untold ≡ None
    untold-now = go (f == c) refl
      where
        go : (z : Bool) → (f == c) ≡ z → (watch f (g.ghost.shown ++ line ∷ [])).untold ≡ None
        go false y = ap (λ x. x.untold) (watched-other f y) ∙ i.events.untold f r k rn q before
        go true y =
            let is-c : f ≡ c = equal f c y in
            ap (λ z. (watch z (g.ghost.shown ++ line ∷ [])).untold) is-c ∙ ap (λ x. x.untold) watched-own ∙ not-told r (sym (ap g.running is-c) ∙ rn) (another is-c)
            ∙ ap (λ z. (watch z g.ghost.shown).untold) (sym is-c) ∙ i.events.untold f r k rn q before

    owes-now : owed B (H ++ e ∷ []) f (shown_boot g f r) ≡ k.owed
    owes-now = owed-others B H (e ∷ []) f (shown_boot g f r) (ap (λ z. z || false) (strange f r another)) ∙ i.events.owes f r k rn q before

  starts-now : (f r : ℕ) → g.running f ≡ Some r → (begun (watch f (g.ghost.shown ++ line ∷ []))).starts ≡ shown_boot g f r
  starts-now f r rn = ap (λ z. (begun z).starts) (watched f) ∙ go (f == c) ∙ i.events.starts f r rn
    where
      go : (z : Bool) → (begun (cond z (ended (watch f g.ghost.shown) ns) (watch f g.ghost.shown))).starts ≡ (begun (watch f g.ghost.shown)).starts
      go true = begun-ended (watch f g.ghost.shown) ns
      go false = refl

  -- Cut-off starts.

  abbrev ForLosses : System → ℕ → List Op → ℕ × Entry → Type 0
  ForLosses h r ks z = (m f x : ℕ) (ms : List ℕ) → z ≡ (m, entry.Loss f x ms) → Each (Frees h r) (filter (is_one_of f x ms) ks)

  own-cut : (k : Clerk) → g.running c ≡ Some b → g.clerks c b ≡ Some k → CutAgrees told c b s k g.ghost.kept
  own-cut k rn q = record {
    before = H;
    at = length g.ghost.shown + 1;
    lost = ns;
    behind = [];
    was = grows;
    keeps = i.events.keeps;
    alone = refl;
    untold = ap (λ x. x.untold) watched-own ∙ now-told rn;
    owes = i.events.owes c b k rn q (its.live g i wa st c sl in_slot opened k q);
    frozen = λ r o. each-turn (λ y. Frees told s y) (λ y. T (list_any (λ j. same_op j y) g.ghost.kept) → Frees told s y) (undurable told.ghost r) (λ y f t. f)
        (around.frees-own g i wa st c sl in_slot opened d v p others closed own-tokens cut-tokens line r o);
    later = tt;
  }

  module _ (f r u : ℕ) (k : Clerk) (ks : List Op) (rn : g.running f ≡ Some r) (q : g.clerks f r ≡ Some k) (m : g.ghost.owner u ≡ Some (f, k.age)) (z : g.ghost.frozen u ≡ Some ks) (n : (u == s) ≡ false) where
    old : CutAgrees g f r u k ks
    old = i.events.cuts f r u k ks rn q m z

    elsewhere : u ≢ s
    elsewhere = differs u s n

    another-cut : f ≡ c → r ≢ b
    another-cut y = around.not-cut g i wa st c sl in_slot opened d v p others closed own-tokens cut-tokens r u k (sym (ap (λ x. g.clerks x r) y) ∙ q) (m ∙ ap (λ x. Some (x, k.age)) y) elsewhere

    cut-untold : (watch f (g.ghost.shown ++ line ∷ [])).untold ≡ (watch f g.ghost.shown).untold
    cut-untold = go (f == c) refl
      where
        go : (y : Bool) → (f == c) ≡ y → (watch f (g.ghost.shown ++ line ∷ [])).untold ≡ (watch f g.ghost.shown).untold
        go false y = ap (λ x. x.untold) (watched-other f y)
        go true y =
            let is-c : f ≡ c = equal f c y in
            ap (λ x. (watch x (g.ghost.shown ++ line ∷ [])).untold) is-c ∙ ap (λ x. x.untold) watched-own ∙ not-told r (sym (ap g.running is-c) ∙ rn) (another-cut is-c) ∙ ap (λ x. (watch x g.ghost.shown).untold) (sym is-c)

    abbrev is_one : Op → Bool
    is_one y = is_one_of c sb ns y

    -- the loss names nothing that the cut-off start's tokens meet
    module _ (y : Op) (in-list : (t : Op → Bool) → T (t y) → T (list_any t ks)) (twin : Each (Twin B g.durable.max_objects c sb (shown_op g y)) (map (shown_op g) g.ghost.kept)) where
      abbrev Known : Op → Type 0
      Known o = (T (is_of (g.ghost.owner s) o && not (g.ghost.is_durable o)) → T (list_any (λ j. same_op j o) ks) → Frees g u o) × Twin B g.durable.max_objects c sb (shown_op g y) (shown_op g o)

      known : Each Known g.ghost.kept
      known = each-both (λ o. T (is_of (g.ghost.owner s) o && not (g.ghost.is_durable o)) → T (list_any (λ j. same_op j o) ks) → Frees g u o) (λ o. Twin B g.durable.max_objects c sb (shown_op g y) (shown_op g o)) g.ghost.kept
          (each-whole (λ o. T (list_any (λ j. same_op j o) ks) → Frees g u o) (λ o. is_of (g.ghost.owner s) o && not (g.ghost.is_durable o)) g.ghost.kept (old.frozen s (its.open-now g i wa st c sl in_slot opened)))
          (each-of-map (shown_op g) (Twin B g.durable.max_objects c sb (shown_op g y)) g.ghost.kept twin)

      spared : T (is_one (shown_op g y)) → Frees g u y
      spared t =
          let mine = and_first (of_start c sb (shown_op g y)) (member y.number ns) t in
          let o = of-part (λ o. is_of (g.ghost.owner s) o && not (g.ghost.is_durable o)) Known y.number g.ghost.kept known (and_next (of_start c sb (shown_op g y)) (member y.number ns) t) in
          let its-start = (losses.of-pending g i.events st.alike s c sl.age owner-is above o.0 o.1).0 in
          let my-start = subst T (losses.same-start g i.events st.alike s c sl.age owner-is above y) mine in
          let two = losses.same-clerks g i.events st.alike s c sl.age owner-is above y o.0 my-start its-start in
          let found = in-list (λ j. same_op j o.0) (alike-ops y o.0 two.0 two.1 o.2) in
          subst (λ x. Each (λ j. T (is_free (eff_hold (eff (view g) u j)))) (operands x))
          (sym ((o.3).1 (is-true (of_start c sb (shown_op g y)) mine) (is-true (of_start c sb (shown_op g o.0)) (subst T (sym (losses.same-start g i.events st.alike s c sl.age owner-is above o.0)) its-start)) o.2)) ((o.3).0 o.1 found)

    abbrev front : History
    front = old.before

    abbrev rest : History
    rest = (old.at, entry.Loss f (shown_boot g f r) old.lost) ∷ old.behind

    all-twins : Each (λ y. Each (Twin B g.durable.max_objects c sb (shown_op g y)) (map (shown_op g) g.ghost.kept)) ks
    all-twins = each-of-map (shown_op g) (λ y. Each (Twin B g.durable.max_objects c sb y) (map (shown_op g) g.ghost.kept)) ks
        (subst (Each (λ y. Each (Twin B g.durable.max_objects c sb y) (map (shown_op g) g.ghost.kept))) old.keeps
        (subst (λ ys. Each (λ y. Each (Twin B g.durable.max_objects c sb y) ys) (kept B front)) (ap (kept B) (sym old.was) ∙ i.events.keeps)
        (twins B g.durable.max_objects c sb front rest (subst (IsLegal B g.durable.max_objects) old.was i.events.legal))))

    abbrev AreSpared : Entry → Type 0
    AreSpared (entry.Call x y l m cl a o) = ⊤
    AreSpared (entry.Loss x y ms) = Each (Frees told u) (filter (is_one_of x y ms) (kept B front))

    spared-here : Each (Frees told u) (filter (is_one_of c sb ns) (kept B front))
    spared-here = subst (λ ys. Each (Frees told u) (filter (is_one_of c sb ns) ys)) (sym old.keeps) (each-part (Frees told u) is_one (map (shown_op g) ks)
        (each-to-map (shown_op g) (λ y. T (is_one y) → Frees told u y) ks
        (each-turn (λ y. ((t : Op → Bool) → T (t y) → T (list_any t ks)) × Each (Twin B g.durable.max_objects c sb (shown_op g y)) (map (shown_op g) g.ghost.kept)) (λ y. T (is_one (shown_op g y)) → Frees told u (shown_op g y)) ks
        (λ y h t. around.frees-stay g i wa st c sl in_slot opened d v p others closed own-tokens cut-tokens line u ks z y (spared y h.0 h.1 t))
        (each-both (λ y. (t : Op → Bool) → T (t y) → T (list_any t ks)) (λ y. Each (Twin B g.durable.max_objects c sb (shown_op g y)) (map (shown_op g) g.ghost.kept)) ks (each-in ks) all-twins))))

    cut-now : CutAgrees told f r u k ks
    cut-now = record {
      before = front;
      at = old.at;
      lost = old.lost;
      behind = old.behind ++ e ∷ [];
      was = grows ∙ ap (λ h. h ++ e ∷ []) old.was ∙ append_assoc front rest (e ∷ []);
      keeps = old.keeps;
      alone = list_any-append (λ y. is_entry_of f (shown_boot g f r) y.1) old.behind (e ∷ []) ∙ ap (λ y. y || (same_start f (shown_boot g f r) c sb || false)) old.alone ∙ ap (λ y. y || false) (strange f r another-cut);
      untold = cut-untold ∙ old.untold;
      owes = old.owes;
      frozen = λ y o. let now = around.was-open g i wa st c sl in_slot opened d v p others closed own-tokens cut-tokens line y o in
          subst (Each (λ x. T (list_any (λ j. same_op j x) ks) → Frees told u x)) (sym (around.undurable-stays g i wa st c sl in_slot opened d v p others closed own-tokens cut-tokens line y now.0 now.1))
          (each-turn (λ x. T (list_any (λ j. same_op j x) ks) → Frees g u x) (λ x. T (list_any (λ j. same_op j x) ks) → Frees told u x) (undurable g.ghost y)
          (λ x h t. around.frees-stay g i wa st c sl in_slot opened d v p others closed own-tokens cut-tokens line u ks z x (h t)) (old.frozen y now.0));
      later = each-more (ForLosses told u (kept B front)) old.behind (e ∷ [])
          (each-turn (ForLosses g u (kept B front)) (ForLosses told u (kept B front)) old.behind
          (λ y h x a b ms q. each-turn (Frees g u) (Frees told u) (filter (is_one_of a b ms) (kept B front)) (λ o t. around.frees-stay g i wa st c sl in_slot opened d v p others closed own-tokens cut-tokens line u ks z o t) (h x a b ms q)) old.later)
          ((λ x a b ms q. subst AreSpared (ap (λ y. y.1) q) spared-here), tt);
    }

  cuts-now : (f r u : ℕ) (k : Clerk) (ks : List Op) → g.running f ≡ Some r → g.clerks f r ≡ Some k → g.ghost.owner u ≡ Some (f, k.age) → told.ghost.frozen u ≡ Some ks → CutAgrees told f r u k ks
  cuts-now f r u k ks rn q m z = by-session s u (λ y. g.ghost.owner y ≡ Some (f, k.age) → told.ghost.frozen y ≡ Some ks → CutAgrees told f r y k ks) own
      (λ n m z. cut-now f r u k ks rn q m (sym (around.frozen-other g i wa st c sl in_slot opened d v p others closed own-tokens cut-tokens line u n) ∙ z) n) m z
    where
      own : g.ghost.owner s ≡ Some (f, k.age) → told.ghost.frozen s ≡ Some ks → CutAgrees told f r s k ks
      own m z =
          let o = same_some (sym owner-is ∙ m) in
          let is-c : c ≡ f = ap (λ y. y.0) o in
          let is-b : b ≡ r = ap (λ y. (y.1).boot) o ∙ (i.sessions.starts f r k q).1 in
          let is-ks : g.ghost.kept ≡ ks = same_some (sym (around.frozen-own g i wa st c sl in_slot opened d v p others closed own-tokens cut-tokens line) ∙ z) in
          let rn-own : g.running c ≡ Some b = ap g.running is-c ∙ rn ∙ ap Some (sym is-b) in
          let q-own : g.clerks c b ≡ Some k = ap (λ y. g.clerks y b) is-c ∙ ap (g.clerks f) is-b ∙ q in
          subst (λ y. CutAgrees told y r s k ks) is-c (subst (λ y. CutAgrees told c y s k ks) is-b (subst (CutAgrees told c b s k) is-ks (own-cut k rn-own q-own)))

  abbrev IsCovered : History → ℕ × Entry → Type 0
  IsCovered h z = (o : Op) → Covers B h z o.clerk (shown_boot g o.clerk o.boot) o.number → T (g.ghost.is_durable o)

  -- all of the history behind the end
  pub told-events : EventsAgree told
  told-events = record {
    placeable = placeable-step g.ghost.shown line i.events.placeable (subst (λ o. T (is_some o)) (sym owner-shown) tt, named);
    placed = refl;
    starts = starts-now;
    untold = untold-now;
    keeps = ap (kept B) grows ∙ kept-step B H e ∙ losses.left-now g i.events st.alike s c sl.age owner-is above;
    legal = subst (λ m. IsLegal B m told.ghost.history) (sym most) (subst (IsLegal B g.durable.max_objects) (sym grows) (legal-step B g.durable.max_objects H e i.events.legal
        (losses.lawful g i.events st.alike s c sl.age owner-is above i.logs (its.open-now g i wa st c sl in_slot opened) fits)));
    owes = λ f r k rn q n. ap (λ h. owed B h f (shown_boot g f r)) grows ∙ owes-now f r k rn q n;
    counts = λ f r k rn q. ap (λ h. length (filter (is_op_of f (shown_boot g f r)) h) + 1) grows ∙ ap (λ n. n + 1) (count-next f (shown_boot g f r) H e) ∙ i.events.counts f r k rn q;
    covered = subst (Throughout IsCovered []) (sym grows) (throughout-append IsCovered [] H (e ∷ []) i.events.covered ((λ o y. absurd (nothing-asked _ o.number y.closed_in)), tt));
    untouched = λ r o m q. subst (Throughout (Untouched told r o) []) (sym grows) (throughout-append (Untouched told r o) [] H (e ∷ [])
        (around.untouched-stays g i wa st c sl in_slot opened d v p others closed own-tokens cut-tokens line r o m q) (tt, tt));
    cuts = λ f r u k ks rn q m z. cuts-now f r u k ks rn q m z;
  }
