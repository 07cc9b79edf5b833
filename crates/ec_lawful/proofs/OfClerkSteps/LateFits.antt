-- An answer of a clerk that is cut off may stand before its loss.
use Rattle.std.proofs.Common.{◌≡◌, refl, sym, ap, subst, ◌∙◌, inl, inr, arith, ◌<◌, ◌+◌, ◌-◌, ℕ, T, Bool, true, false, not, ◌==◌, ◌&&◌, ◌||◌, cond, map, List, [], ◌∷◌, ◌++◌, length, Option, Some, append_assoc}
use Rattle.std.specs.List.{filter, list_any, list_all}
use Rattle.std.proofs.lemmas.Bool.{and_parts, cases_eq}
use Rattle.ec_base.specs.Holds.{is_free}
use Rattle.ec_base.specs.declared.ids.Age.{Age}
use Rattle.ec_volume.specs.Update.{has_operand, listed, member, operands}
use Rattle.ec_volume.specs.Volume.{after}
use Rattle.ec_volume.specs.declared.update.Update.{Update}
use Rattle.ec_plain.specs.declared.call.Call.{Call}
use Rattle.ec_order.specs.Order.{Holds}
use Rattle.ec_history.specs.History.{Base, Covers, Each, History, Op, is_lost, is_one_of, issued, issued_from, kept, numbers, of_issue, of_start, touched, updates}
use Rattle.ec_history.specs.Legal.{IsLegal, is_call_of_other, leaves}
use Rattle.ec_history.specs.Placing.{MayFollow}
use Rattle.ec_history.specs.declared.entry.Answer.{Answer}
use Rattle.ec_history.specs.declared.entry.Entry.{Entry}
use Rattle.ec_history.specs.declared.shown.Shown.TheVariants.{Answered}
use Rattle.ec_history.proofs.OfLaws.Issues.{issue-sorted}
use Rattle.ec_history.proofs.OfLaws.ForPlacing.More.{issued-append}
use Rattle.ec_machine_laws.proofs.Holding.{holds-front, one-update}
use Rattle.ec_cache.specs.declared.resolve.verdict.Verdict.{Verdict}
use Rattle.ec_protocol.specs.Clerk.{first_id, verdict}
use Rattle.ec_protocol.specs.declared.clerk.Clerk.{Clerk}
use Rattle.ec_coherence.specs.System.{System, base_of, is_of, is_open, seen_ops, undurable}
use Rattle.ec_coherence.specs.Events.{CutAgrees, Frees, cut_in, same_op, shown_boot, shown_op}
use Rattle.ec_coherence.specs.ChangeLaws.{IsInIt}
use Rattle.ec_coherence.specs.Tokens.{eff, eff_hold, side, side_in, view}
use Rattle.ec_coherence.proofs.ForServer.Settled.{each-member}
use Rattle.ec_coherence.proofs.ForServer.Tables.{each-map}
use Rattle.ec_coherence.specs.CommitLaws.{AllAgree}
use Rattle.ec_lawful.proofs.OfClerkSteps.ForCalls.Issued.{kept-of}
use Rattle.ec_coherence.specs.Answers.{Gives, Sees, based, fresh_of, id_of, op_given, seen_by}
use Rattle.ec_coherence.specs.Comes.{entry_next}
use Rattle.ec_coherence.proofs.ForCommits.Answering.{fresh-here, kept-now}
use Rattle.ec_coherence.proofs.ForCommits.Judged.{held-token}
use Rattle.ec_coherence.proofs.ForCommits.Late.{is-at-cut, late-legal, free-low}
use Rattle.ec_coherence.proofs.ForCommits.Touching.{each-holds, each-passing, none-such, token-of, touched-held}
use Rattle.ec_lawful.specs.OfClerkSteps.Answering.{answered_clerk}
use Rattle.ec_lawful.specs.OfClerkSteps.Frees.{FreesAgree}
use Rattle.ec_lawful.specs.OfClerkSteps.Zeros.{LeaveOut, ZerosAgree}
use Rattle.ec_lawful.proofs.OfClerkSteps.Late.{IsLate, loss_in}
use Rattle.ec_lawful.proofs.OfClerkSteps.LateBase as base
use Rattle.ec_lawful.proofs.OfClerkSteps.Live.{own-age, owns, stands, there}
use Rattle.ec_lawful.proofs.OfClerkSteps.Zeroless.{left-out}
use Rattle.ec_base.proofs.Numbers.{same-self as same, equal}
use Rattle.ec_base.proofs.Bools.{not-both as no_both, or-right}

-- Lists.

each-any : {A : Type 0} (P : A → Type 0) (xs : List A) → ((x : A) → P x) → Each P xs
each-any P [] f = tt
each-any P (x ∷ xs) f = (f x, each-any P xs f)

each-two : {A : Type 0} (P Q R : A → Type 0) (xs : List A) → ((x : A) → P x → Q x → R x) → Each P xs → Each Q xs → Each R xs
each-two P Q R [] f p q = tt
each-two P Q R (x ∷ xs) f p q = (f x p.0 q.0, each-two P Q R xs f p.1 q.1)

each-of-map : (f : Op → Op) (Q : Op → Type 0) (xs : List Op) → Each (λ k. Q (f k)) xs → Each Q (map f xs)
each-of-map f Q [] h = tt
each-of-map f Q (x ∷ xs) h = (h.0, each-of-map f Q xs h.1)

-- each is in the list
is-among : (xs : List Op) → Each (λ x. (p : Op → Bool) → p x ≡ true → T (list_any p xs)) xs
is-among xs = go xs (λ x z. z)
  where
    go : (ys : List Op) → ((x : Op) → ((p : Op → Bool) → p x ≡ true → T (list_any p ys)) → (p : Op → Bool) → p x ≡ true → T (list_any p xs)) → Each (λ x. (p : Op → Bool) → p x ≡ true → T (list_any p xs)) ys
    go [] f = tt
    go (y ∷ ys) f = (f y (λ p e. subst (λ b. T (b || list_any p ys)) (sym e) tt), go ys (λ x g. f x (λ p e. or-right (p y) (list_any p ys) (g p e))))

-- each of these of a start is held with its number
is-held : (c b : ℕ) (xs : List Op) → Each (λ x. of_start c b x ≡ true → Holds (of_issue c b xs) x.number x.update) xs
is-held c b xs = go xs (λ n u h. h)
  where
    go : (ys : List Op) → ((n : ℕ) (u : Update) → Holds (of_issue c b ys) n u → Holds (of_issue c b xs) n u) → Each (λ x. of_start c b x ≡ true → Holds (of_issue c b xs) x.number x.update) ys
    go [] f = tt
    go (y ∷ ys) f = (
      (λ e. f y.number y.update (subst (λ z. Holds (map (λ k. (k.number, k.update)) (cond z (y ∷ filter (of_start c b) ys) (filter (of_start c b) ys))) y.number y.update) (sym e) (inl (refl, refl)))),
      go ys (λ n u h. f n u (later (of_start c b y) n u h)),
    )
      where
        later : (z : Bool) (n : ℕ) (u : Update) → Holds (of_issue c b ys) n u → Holds (map (λ k. (k.number, k.update)) (cond z (y ∷ filter (of_start c b) ys) (filter (of_start c b) ys))) n u
        later true n u h = inr h
        later false n u h = h

-- what's held of some is held of more
held-more : (c b : ℕ) (xs ys : List Op) (n : ℕ) (u : Update) → Holds (of_issue c b xs) n u → Holds (of_issue c b (xs ++ ys)) n u
held-more c b [] ys n u h = absurd h
held-more c b (x ∷ xs) ys n u h = go (of_start c b x) h (held-more c b xs ys n u)
  where
    go : (z : Bool) → Holds (map (λ k. (k.number, k.update)) (cond z (x ∷ filter (of_start c b) xs) (filter (of_start c b) xs))) n u → (Holds (of_issue c b xs) n u → Holds (of_issue c b (xs ++ ys)) n u)
        → Holds (map (λ k. (k.number, k.update)) (cond z (x ∷ filter (of_start c b) (xs ++ ys)) (filter (of_start c b) (xs ++ ys)))) n u
    go true (inl e) f = inl e
    go true (inr h) f = inr (f h)
    go false h f = f h

of-number : (Q : Op → Type 0) (n : ℕ) (xs : List Op) → Each Q xs → T (member n (numbers xs)) → (j : Op) × Q j × (n ≡ j.number)
of-number Q n [] h m = absurd m
of-number Q n (x ∷ xs) h m = go (n == x.number) refl m (of-number Q n xs h.1)
  where
    go : (b : Bool) → (n == x.number) ≡ b → T (b || member n (numbers xs)) → (T (member n (numbers xs)) → (j : Op) × Q j × (n ≡ j.number)) → (j : Op) × Q j × (n ≡ j.number)
    go true e t r = (x, h.0, equal n x.number e)
    go false e t r = r t

same-boot : (f x y : ℕ) → f < y → x - f ≡ y - f → x ≡ y
same-boot f x y l e = omega (arith, l, e)

module _ (g : System) (all : AllAgree g) (zeros : ZerosAgree g) (frees : FreesAgree g) (c s : ℕ) (age : Age) (k : Clerk) (in-it : IsInIt g c s age k) (r : g.running c ≡ Some age.boot) (ks : List Op) (fz : g.ghost.frozen s ≡ Some ks)
    (l : ℕ) (cl : Call) (a : Answer) (op : Option ℕ) (gives : Gives g.durable.max_objects k (verdict cl k) a op (answered_clerk (verdict cl k) k).owed) (line : MayFollow g.ghost.shown (Answered l c cl a op)) where
  abbrev b : ℕ
  b = age.boot

  abbrev v : Verdict
  v = verdict cl k

  abbrev now : Clerk
  now = answered_clerk v k

  abbrev most : ℕ
  most = g.durable.max_objects

  abbrev p : ℕ
  p = length g.ghost.shown + 1

  abbrev x : ℕ
  x = fresh_of k

  abbrev B : Base
  B = based g x

  abbrev sb : ℕ
  sb = shown_boot g c b

  abbrev os : List Op
  os = op_given c b p k v

  abbrev e : ℕ × Entry
  e = entry_next g c b l cl a op

  pub at-start : g.clerks c b ≡ Some k
  at-start = stands g all c s age k in-it

  pub own : g.ghost.owner s ≡ Some (c, k.age)
  own = owns g all c s age k in-it ∙ ap (λ z. Some (c, z)) (sym (own-age g all c s age k in-it))

  pub there-is : Rattle.ec_coherence.specs.System.clerk_in g s ≡ Some k
  there-is = there g all c s age k in-it

  abbrev pub cut : CutAgrees g c b s k ks
  cut = ((all.0).events).cuts c b s k ks r at-start own fz

  -- What it sees, and what its free ids are not.

  free-of : (y : ℕ) → T (member y k.ids) → LeaveOut y ks × (g.origin y ≡ Rattle.ec_volume.specs.declared.image.Image.TheVariants.Gone)
  free-of y m = let f = frees.unused s y k there-is (inl m) in (subst (λ z. LeaveOut y (seen_ops z g.ghost.kept)) fz f.0, f.1)

  seen-is : (y : ℕ) → seen_by g k y ≡ after g.origin (updates ks) y
  seen-is y = ap (λ z. after g.origin (updates (seen_ops z g.ghost.kept)) y) (ap (cut_in g) in-it.session ∙ fz)

  pub sees : Sees g k
  sees = record {
    images = λ y h q. ((all.0).images).licences s y k there-is h q ∙ ap (λ z. after g.origin (updates (seen_ops z g.ghost.kept)) y) (sym (ap (cut_in g) in-it.session));
    free = λ y m. let f = free-of y m in seen-is y ∙ left-out y (g.origin y) ks f.0 ∙ f.1;
    no_zero = (zeros.clerks c b k at-start).owed;
  }

  fresh-out : LeaveOut x ks
  fresh-out = go k.ids refl
    where
      go : (ys : List ℕ) → k.ids ≡ ys → LeaveOut (id_of (first_id ys)) ks
      go [] q = zeros.frozen s ks fz
      go (y ∷ ys) q = (free-of y (subst (λ z. T (member y z)) (sym q) (subst (λ z. T (z || member y ys)) (sym (same y)) tt))).0

  -- The history up to the loss.

  abbrev rest : History
  rest = base.rest g all c b s k r at-start own ks fz l cl a op gives line

  kept-before : kept B cut.before ≡ map (shown_op g) ks
  kept-before = base.kept-before g all c b s k r at-start own ks fz l cl a op gives line

  legal-whole : IsLegal B most (cut.before ++ rest)
  legal-whole = base.legal-whole g all c b s k r at-start own ks fz l cl a op gives line

  legal-before : IsLegal B most cut.before
  legal-before = base.legal-before g all c b s k r at-start own ks fz l cl a op gives line

  pub hidden : Each (λ o. (o.clerk == c) ≡ false → T (member x (operands o.update)) → ⊥) (kept B cut.before)
  hidden = subst (Each (λ o. (o.clerk == c) ≡ false → T (member x (operands o.update)) → ⊥)) (sym kept-before)
      (each-of-map (shown_op g) (λ o. (o.clerk == c) ≡ false → T (member x (operands o.update)) → ⊥) ks (each-map (λ o. T (not (has_operand x o.update))) (λ o. (o.clerk == c) ≡ false → T (member x (operands o.update)) → ⊥) ks (λ o f n m. no_both (has_operand x o.update) m f) fresh-out))

  -- What a start issued is told by its numbers.
  module _ (d f : ℕ) where
    held-before : (n : ℕ) (u : Update) → Holds (of_issue d f (kept B cut.before)) n u → Holds (of_issue d f (issued B (cut.before ++ rest))) n u
    held-before n u h = subst (λ z. Holds (of_issue d f z) n u) (sym (issued-append B cut.before rest)) (held-more d f (issued B cut.before) (issued_from B (kept B cut.before) rest) n u
        (holds-front (λ y. not (is_lost d f y.0 cut.before)) (of_issue d f (issued B cut.before)) n u (subst (λ z. Holds z n u) (kept-of B most d f cut.before legal-before) h)))

    held-now : (n : ℕ) (u : Update) → Holds (of_issue d f (map (shown_op g) g.ghost.kept)) n u → Holds (of_issue d f (issued B (cut.before ++ rest))) n u
    held-now n u h = holds-front (λ y. not (is_lost d f y.0 (cut.before ++ rest))) (of_issue d f (issued B (cut.before ++ rest))) n u
        (subst (λ z. Holds z n u) (kept-of B most d f (cut.before ++ rest) legal-whole) (subst (λ z. Holds (of_issue d f z) n u) (sym (kept-now g x (all.0).events) ∙ ap (kept B) cut.was) h))

    one-of : (n : ℕ) (u w : Update) → Holds (of_issue d f (map (shown_op g) ks)) n u → Holds (of_issue d f (map (shown_op g) g.ghost.kept)) n w → u ≡ w
    one-of n u w h i = one-update (of_issue d f (issued B (cut.before ++ rest))) (issue-sorted B most d f (cut.before ++ rest) legal-whole) n u w (held-before n u (subst (λ z. Holds (of_issue d f z) n u) (sym kept-before) h)) (held-now n w i)

  -- It leaves alone what open sessions may still lose.

  module _ (u : ℕ) (o : ℕ × Age) (owner : g.ghost.owner u ≡ Some o) (opened : T (is_open g u)) where
    abbrev du : ℕ
    du = o.0

    abbrev su : ℕ
    su = shown_boot g o.0 (o.1).boot

    abbrev test : Op → Bool
    test = is_one_of du su (numbers (undurable g.ghost u))

    abbrev passes : Op → Bool
    passes y = not (list_any (λ j. member j (touched B (kept B cut.before) e)) (operands y.update))

    abbrev pending : Op → Bool
    pending y = is_of (g.ghost.owner u) y && not (g.ghost.is_durable y)

    -- what is known of each that it may lose
    abbrev Facts : Op → Type 0
    Facts j = (T (list_any (λ i. same_op i j) ks) → Frees g s j) × (du ≡ j.clerk) × ((o.1).boot ≡ j.boot) × (g.first_boot j.clerk < j.boot) × Holds (of_issue du su (map (shown_op g) g.ghost.kept)) j.number j.update

    facts : Each Facts (undurable g.ghost u)
    facts = each-two (λ j. T (list_any (λ i. same_op i j) ks) → Frees g s j) (λ j. (du ≡ j.clerk) × ((o.1).boot ≡ j.boot) × (g.first_boot j.clerk < j.boot) × Holds (of_issue du su (map (shown_op g) g.ghost.kept)) j.number j.update) Facts (undurable g.ghost u)
        (λ j m q. (m, q.0, q.1, q.2, q.3)) (cut.frozen u opened)
        (each-passing pending (λ j. (du ≡ j.clerk) × ((o.1).boot ≡ j.boot) × (g.first_boot j.clerk < j.boot) × Holds (of_issue du su (map (shown_op g) g.ghost.kept)) j.number j.update) g.ghost.kept
        (each-two (λ j. g.first_boot j.clerk < j.boot) (λ j. of_start du su (shown_op g j) ≡ true → Holds (of_issue du su (map (shown_op g) g.ghost.kept)) j.number j.update)
        (λ j. pending j ≡ true → (du ≡ j.clerk) × ((o.1).boot ≡ j.boot) × (g.first_boot j.clerk < j.boot) × Holds (of_issue du su (map (shown_op g) g.ghost.kept)) j.number j.update) g.ghost.kept of-one (all.3).above (unmapped g.ghost.kept (is-held du su (map (shown_op g) g.ghost.kept)))))
      where
        unmapped : (xs : List Op) → Each (λ y. of_start du su y ≡ true → Holds (of_issue du su (map (shown_op g) g.ghost.kept)) y.number y.update) (map (shown_op g) xs) → Each (λ j. of_start du su (shown_op g j) ≡ true → Holds (of_issue du su (map (shown_op g) g.ghost.kept)) j.number j.update) xs
        unmapped [] h = tt
        unmapped (y ∷ ys) h = (h.0, unmapped ys h.1)

        of-one : (j : Op) → g.first_boot j.clerk < j.boot → (of_start du su (shown_op g j) ≡ true → Holds (of_issue du su (map (shown_op g) g.ghost.kept)) j.number j.update) → pending j ≡ true
            → (du ≡ j.clerk) × ((o.1).boot ≡ j.boot) × (g.first_boot j.clerk < j.boot) × Holds (of_issue du su (map (shown_op g) g.ghost.kept)) j.number j.update
        of-one j ab h t =
            let its = and_parts (du == j.clerk) ((o.1).boot == j.boot) (ap (λ z. is_of z j) (sym owner) ∙ (and_parts (is_of (g.ghost.owner u) j) (not (g.ghost.is_durable j)) t).0) in
            let dc : du ≡ j.clerk = equal du j.clerk its.0 in
            let db : (o.1).boot ≡ j.boot = equal (o.1).boot j.boot its.1 in
            (dc, db, ab, h (ap (λ z. z && (su == shown_boot g j.clerk j.boot)) its.0 ∙ ap (λ z. shown_boot g z (o.1).boot == shown_boot g j.clerk j.boot) dc ∙ ap (λ z. shown_boot g j.clerk z == shown_boot g j.clerk j.boot) db ∙ same (shown_boot g j.clerk j.boot)))

    -- an operation that it saw is free of the clerk's tokens
    one : (y : Op) → ((q : Op → Bool) → q y ≡ true → T (list_any q ks)) → (of_start du su (shown_op g y) ≡ true → Holds (of_issue du su (map (shown_op g) ks)) y.number y.update) → (T (member x (operands y.update)) → ⊥) → test (shown_op g y) ≡ true → T (passes (shown_op g y))
    one y among held out t =
        let parts = and_parts (of_start du su (shown_op g y)) (member y.number (numbers (undurable g.ghost u))) t in
        let start = and_parts (du == y.clerk) (su == shown_boot g y.clerk y.boot) parts.0 in
        let j = of-number Facts y.number (undurable g.ghost u) facts (subst T (sym parts.1) tt) in
        let f = j.1 in
        let dc : y.clerk ≡ (j.0).clerk = sym (equal du y.clerk start.0) ∙ f.1 in
        let boots : shown_boot g (j.0).clerk y.boot ≡ shown_boot g (j.0).clerk (j.0).boot = ap (λ z. shown_boot g z y.boot) (sym dc) ∙ sym (equal su (shown_boot g y.clerk y.boot) start.1) ∙ ap (λ z. shown_boot g z (o.1).boot) f.1 ∙ ap (shown_boot g (j.0).clerk) f.2 in
        let db : y.boot ≡ (j.0).boot = same-boot (g.first_boot (j.0).clerk) y.boot (j.0).boot f.3 boots in
        let alike-op : same_op y (j.0) ≡ true = is-same y (j.0) dc db j.2 in
        let free : Frees g s (j.0) = f.0 (among (λ i. same_op i (j.0)) alike-op) in
        let update : y.update ≡ (j.0).update = one-of du su y.number y.update (j.0).update (held parts.0) (subst (λ z. Holds (of_issue du su (map (shown_op g) g.ghost.kept)) z (j.0).update) (sym j.2) f.4) in
        none-such (λ i. member i (touched B (kept B cut.before) e)) (operands y.update) (λ i m h. elim (cases_eq i x) [
          | inl q ↦ out (subst (λ z. T (member z (operands y.update))) q m)
          | inr q ↦
              let mine = held-token k.cache i (touched-held B most cut.before c sb p cl k (is-at-cut g (all.0).events c b s k ks r at-start in-it.session own fz sees) (fresh-here g x) v a op now.owed refl gives i h q) in
              free-low (mine.0).hold (eff_hold (eff (view g) s i)) ((all.0).tokens.holds s i (side k) (ap side_in there-is) mine.0 mine.1) (token-of g (all.0).tokens s i k there-is mine.0 mine.1)
              (each-member (λ z. T (is_free (eff_hold (eff (view g) s z)))) i (operands y.update) (subst (λ z. Each (λ w. T (is_free (eff_hold (eff (view g) s w)))) (operands z)) (sym update) free) m)
        ])
      where
        is-same : (y j : Op) → y.clerk ≡ j.clerk → y.boot ≡ j.boot → y.number ≡ j.number → same_op y j ≡ true
        is-same y j dc db dn =
            ap (λ z. (((z == j.clerk) && (y.boot == j.boot)) && ((j.clerk == z) && (j.boot == y.boot))) && (y.number == j.number)) dc
            ∙ ap (λ z. (((j.clerk == j.clerk) && (z == j.boot)) && ((j.clerk == j.clerk) && (j.boot == z))) && (y.number == j.number)) db
            ∙ ap (λ z. (((j.clerk == j.clerk) && (j.boot == j.boot)) && ((j.clerk == j.clerk) && (j.boot == j.boot))) && (z == j.number)) dn
            ∙ ap (λ z. ((z && (j.boot == j.boot)) && (z && (j.boot == j.boot))) && (j.number == j.number)) (same j.clerk)
            ∙ ap (λ z. (z && z) && (j.number == j.number)) (same j.boot)
            ∙ same j.number

    pub leaves-open : T (leaves B (kept B cut.before) du (filter test (kept B cut.before)) e)
    leaves-open = or-right (not (is_call_of_other du e.1)) (list_all passes (filter test (kept B cut.before))) (each-holds passes (filter test (kept B cut.before)) (each-passing test (λ y. T (passes y)) (kept B cut.before)
        (subst (Each (λ y. test y ≡ true → T (passes y))) (sym kept-before) (each-of-map (shown_op g) (λ y. test y ≡ true → T (passes y)) ks (go ks (is-among ks) (unmapped ks (is-held du su (map (shown_op g) ks))) fresh-out)))))
      where
        unmapped : (xs : List Op) → Each (λ y. of_start du su y ≡ true → Holds (of_issue du su (map (shown_op g) ks)) y.number y.update) (map (shown_op g) xs) → Each (λ j. of_start du su (shown_op g j) ≡ true → Holds (of_issue du su (map (shown_op g) ks)) j.number j.update) xs
        unmapped [] h = tt
        unmapped (y ∷ ys) h = (h.0, unmapped ys h.1)

        go : (ys : List Op) → Each (λ y. (q : Op → Bool) → q y ≡ true → T (list_any q ks)) ys → Each (λ j. of_start du su (shown_op g j) ≡ true → Holds (of_issue du su (map (shown_op g) ks)) j.number j.update) ys → LeaveOut x ys → Each (λ y. test (shown_op g y) ≡ true → T (passes (shown_op g y))) ys
        go [] m h f = tt
        go (y ∷ ys) m h f = (one y m.0 h.0 (λ t. no_both (has_operand x y.update) t f.0), go ys m.1 h.1 f.1)

  -- So it stands there.
  pub late : Each (λ n. ¬ (Covers B cut.before e c sb n)) cut.lost → cut.lost ≡ numbers (filter (λ o. is_of (g.ghost.owner s) o && not (g.ghost.is_durable o)) ks) → IsLate g c b k now cut.before cut.at cut.lost cut.behind os l cl a op
  late uncovered lost-is = base.late-by g all c b s k r at-start own ks fz l cl a op gives line uncovered lost-is (is-at-cut g (all.0).events c b s k ks r at-start in-it.session own fz sees)
      (subst (IsLegal B most) (append_assoc cut.before (e ∷ []) (loss_in g c b cut.at (cut.lost ++ listed op) ∷ cut.behind))
      (late-legal g (all.0).events c b s k ks r at-start in-it.session own fz sees l cl a op now.owed gives (all.0).tokens there-is hidden uncovered)) (λ u o q z. leaves-open u o q z)
