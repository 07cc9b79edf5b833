-- An answer of a clerk that is cut off stands before its loss, and the history stays legal.
use Rattle.std.proofs.Common.{◌≡◌, refl, sym, ap, subst, ◌∙◌, inl, inr, arith, ◌≤◌, ◌+◌, ℕ, T, Bool, true, false, not, ◌==◌, ◌&&◌, ◌||◌, cond, List, [], ◌∷◌, ◌++◌, length, Option, Some, None, length-append}
use Rattle.std.specs.List.{filter, list_any, list_all}
use Rattle.std.proofs.lemmas.Bool.{and_parts, or_parts, cases_eq}
use Rattle.std.proofs.lemmas.List.Elements.{filter-append}
use Rattle.ec_base.specs.declared.ids.Hold.{Hold}
use Rattle.ec_base.specs.declared.ids.Hold.TheVariants.{Free, Read, Write}
use Rattle.ec_volume.specs.Update.{member, operands, listed}
use Rattle.ec_volume.specs.Volume.{after}
use Rattle.ec_plain.specs.declared.call.Call.{Call}
use Rattle.ec_base.specs.Holds.{rank, is_free}
use Rattle.ec_wire.specs.Messages.{is_held_mode}
use Rattle.ec_history.specs.History.{Base, History, Op, Each, Covers, kept, updates, of_start, is_one_of, is_entry_of, same_start, touched}
use Rattle.ec_history.specs.Legal.{IsLegal, leaves, is_call_of_other, is_op_of}
use Rattle.ec_history.specs.declared.entry.Answer.{Answer}
use Rattle.ec_history.specs.declared.entry.Entry.{Entry}
use Rattle.ec_history.specs.declared.entry.Entry.TheVariants as entry
use Rattle.ec_cache.specs.OfReport.Report.{Owed}
use Rattle.ec_history.proofs.OfLaws.ForPlacing.Numbers.{each-front}
use Rattle.ec_history.proofs.OfLaws.ForPlacing.Inserted.{insertion}
use Rattle.ec_coherence.specs.Answers.{IsAt, IsAnswered}
use Rattle.ec_cache.specs.OfResolve.Agreement.{Shows}
use Rattle.ec_coherence.proofs.ForCommits.Judged.{held-token, shows-all}
use Rattle.ec_coherence.proofs.ForCommits.Rebased.{Alike, kept-same, owed_from-same, legal-same}
use Rattle.ec_protocol.specs.Clerk.{first_id, verdict}
use Rattle.ec_protocol.specs.declared.clerk.Clerk.{Clerk}
use Rattle.ec_coherence.specs.System.{System, base_of, clerk_in, seen_ops}
use Rattle.ec_coherence.specs.Tokens.{TokensAgree, eff, eff_hold, side, side_in, view}
use Rattle.ec_coherence.specs.Events.{EventsAgree, CutAgrees, Frees, cut_in, shown_boot}
use Rattle.ec_coherence.proofs.ForServer.Settled.{each-member}
use Rattle.ec_coherence.proofs.ForServer.Tables.{each-map}
use Rattle.ec_coherence.specs.Answers.{Sees, Gives, seen_by, fresh_of, based}
use Rattle.ec_coherence.specs.Comes.{entry_next, begun_at}
use Rattle.ec_coherence.proofs.ForCommits.Answering.{old_fresh, new_fresh, alike, fresh-here, fresh-gone, given-answered, shown-updates}
use Rattle.ec_coherence.proofs.ForCommits.Touching.{token-of, touched-held, each-holds, none-such}
use Rattle.ec_base.proofs.Numbers.{equal}
use Rattle.ec_base.proofs.Bools.{or-right}

no-ops : (c b : ℕ) (h : History) → list_any (λ e. is_entry_of c b e.1) h ≡ false → length (filter (is_op_of c b) h) ≡ 0
no-ops c b [] n = refl
no-ops c b (e ∷ h) n =
    let parts = or_parts (is_entry_of c b e.1) (list_any (λ y. is_entry_of c b y.1) h) n in
    ap (λ z. length (cond z (e ∷ filter (is_op_of c b) h) (filter (is_op_of c b) h))) (one e parts.0) ∙ no-ops c b h parts.1
  where
    one : (e : ℕ × Entry) → is_entry_of c b e.1 ≡ false → is_op_of c b e ≡ false
    one (p, entry.Call d f l begun cl a None) n = off (same_start c b d f)
      where
        off : (z : Bool) → (z && false) ≡ false
        off true = refl
        off false = refl
    one (p, entry.Call d f l begun cl a (Some m)) n = ap (λ z. z && true) n
    one (p, entry.Loss d f ns) n = refl

pub free-low : (a f : Hold) → T (is_held_mode a) → rank a ≤ rank f → T (is_free f) → ⊥
free-low Free f m l t = m
free-low Read Free m l t = absurd (omega (arith, l))
free-low Write Free m l t = absurd (omega (arith, l))
free-low a Read m l t = t
free-low a Write m l t = t

module _ (g : System) (ev : EventsAgree g) (c b s : ℕ) (k : Clerk) (ks : List Op) (r : g.running c ≡ Some b) (q : g.clerks c b ≡ Some k) (ses : k.session ≡ Some s) (own : g.ghost.owner s ≡ Some (c, k.age)) (fz : g.ghost.frozen s ≡ Some ks) (sees : Sees g k) where
  abbrev x : ℕ
  x = fresh_of k

  abbrev B : Base
  B = based g x

  abbrev sb : ℕ
  sb = shown_boot g c b

  abbrev fo : ℕ → ℕ
  fo = old_fresh g x

  abbrev fn : ℕ → ℕ
  fn = new_fresh g x

  abbrev z : CutAgrees g c b s k ks
  z = ev.cuts c b s k ks r q own fz

  abbrev loss : ℕ × Entry
  loss = (z.at, entry.Loss c sb z.lost)

  whole : Alike fo fn (z.before ++ loss ∷ z.behind)
  whole = subst (Alike fo fn) z.was (alike g x ev)

  front : Alike fo fn z.before
  front = each-front (λ y. fo y.0 ≡ fn y.0) z.before (loss ∷ z.behind) whole

  kept-before : kept (base_of g) z.before ≡ kept B z.before
  kept-before = kept-same g.origin fo fn z.before front

  -- the clerk stands before its loss
  pub is-at-cut : IsAt B z.before c sb k.cache k.owed (first_id k.ids)
  is-at-cut = record {
    shows = subst (λ v. Shows k.cache (first_id k.ids) v) volume (shows-all k.cache (seen_by g k) sees.images (first_id k.ids) (fresh-gone g k sees));
    owes = sym (owed_from-same g.origin fo fn c sb [] [] z.before front) ∙ z.owes;
    no_zero = sees.no_zero;
  }
    where
      volume : seen_by g k ≡ after g.origin (updates (kept B z.before))
      volume =
          ap (λ y. after g.origin (updates (seen_ops y g.ghost.kept))) (ap (cut_in g) ses ∙ fz)
          ∙ ap (after g.origin) (sym (shown-updates g ks) ∙ ap updates (sym (sym kept-before ∙ z.keeps)))

  count : length (filter (is_op_of c sb) z.before) + 1 ≡ k.log.next
  count = ap (λ n. n + 1) (sym all) ∙ ev.counts c b k r q
    where
      sum : (n m j : ℕ) → m ≡ n + j → j ≡ 0 → m ≡ n
      sum n m j e f = omega (arith, e, f)

      all : length (filter (is_op_of c sb) g.ghost.history) ≡ length (filter (is_op_of c sb) z.before)
      all = sum (length (filter (is_op_of c sb) z.before)) (length (filter (is_op_of c sb) g.ghost.history)) (length (filter (is_op_of c sb) z.behind))
          (ap (λ h. length (filter (is_op_of c sb) h)) z.was ∙ ap length (filter-append (is_op_of c sb) z.before (loss ∷ z.behind)) ∙ length-append (filter (is_op_of c sb) z.before) (filter (is_op_of c sb) z.behind))
          (no-ops c sb z.behind z.alone)

  module _ (l : ℕ) (cl : Call) (a : Answer) (op : Option ℕ) (rest : Owed) (gives : Gives g.durable.max_objects k (verdict cl k) a op rest) where
    abbrev e : ℕ × Entry
    e = entry_next g c b l cl a op

    -- the answer may stand there, and leaves owed what the clerk owes then
    pub late-answered : IsAnswered B g.durable.max_objects z.before c sb (length g.ghost.shown + 1) l (begun_at g c b l) cl a op rest
    late-answered = given-answered B g.durable.max_objects z.before c sb (length g.ghost.shown + 1) l (begun_at g c b l) cl k is-at-cut (fresh-here g x) count (verdict cl k) a op rest refl gives

    module _ (tok : TokensAgree (view g)) (i : clerk_in g s ≡ Some k) (hidden : Each (λ o. (o.clerk == c) ≡ false → T (member x (operands o.update)) → ⊥) (kept B z.before)) where
      abbrev passes : Op → Bool
      passes y = not (list_any (λ j. member j (touched B (kept B z.before) e)) (operands y.update))

      one : (y : Op) → Frees g s y → (T (member x (operands y.update)) → ⊥) → T (passes y)
      one y f h = none-such (λ j. member j (touched B (kept B z.before) e)) (operands y.update) (λ j m t. elim (cases_eq j x) [
        | inl d ↦ h (subst (λ v. T (member v (operands y.update))) d m)
        | inr d ↦
            let own = held-token k.cache j (touched-held B g.durable.max_objects z.before c sb (length g.ghost.shown + 1) cl k is-at-cut (fresh-here g x) (verdict cl k) a op rest refl gives j t d) in
            free-low (own.0).hold (eff_hold (eff (view g) s j)) (tok.holds s j (side k) (ap side_in i) own.0 own.1) (token-of g tok s j k i own.0 own.1)
            (each-member (λ v. T (is_free (eff_hold (eff (view g) s v)))) j (operands y.update) f m)
      ])

      all : (d f : ℕ) (ms : List ℕ) → (d == c) ≡ false → (ys : List Op) → Each (Frees g s) (filter (is_one_of d f ms) ys) → Each (λ o. (o.clerk == c) ≡ false → T (member x (operands o.update)) → ⊥) ys
          → Each (λ y. T (passes y)) (filter (is_one_of d f ms) ys)
      all d f ms n [] u h = tt
      all d f ms n (y ∷ ys) u h = go (is_one_of d f ms y) refl u (λ v. all d f ms n ys v h.1)
        where
          go : (t : Bool) → is_one_of d f ms y ≡ t → Each (Frees g s) (cond t (y ∷ filter (is_one_of d f ms) ys) (filter (is_one_of d f ms) ys))
              → (Each (Frees g s) (filter (is_one_of d f ms) ys) → Each (λ y. T (passes y)) (filter (is_one_of d f ms) ys))
              → Each (λ y. T (passes y)) (cond t (y ∷ filter (is_one_of d f ms) ys) (filter (is_one_of d f ms) ys))
          go false m u rec = rec u
          go true m u rec =
              let start = and_parts (d == y.clerk) (f == y.boot) (and_parts (of_start d f y) (member y.number ms) m).0 in
              (one y u.0 (h.0 (ap (λ j. j == c) (sym (equal d y.clerk start.0)) ∙ n)), rec u.1)

      leaves-later : Each (λ j. (m d f : ℕ) (ms : List ℕ) → j ≡ (m, entry.Loss d f ms) → T (leaves B (kept B z.before) d (filter (is_one_of d f ms) (kept B z.before)) e)) z.behind
      leaves-later = each-map (λ j. (m d f : ℕ) (ms : List ℕ) → j ≡ (m, entry.Loss d f ms) → Each (Frees g s) (filter (is_one_of d f ms) (kept (base_of g) z.before)))
          (λ j. (m d f : ℕ) (ms : List ℕ) → j ≡ (m, entry.Loss d f ms) → T (leaves B (kept B z.before) d (filter (is_one_of d f ms) (kept B z.before)) e)) z.behind
          (λ j h m d f ms w. go d f ms (d == c) refl (subst (λ y. Each (Frees g s) (filter (is_one_of d f ms) y)) kept-before (h m d f ms w))) z.later
        where
          go : (d f : ℕ) (ms : List ℕ) (t : Bool) → (d == c) ≡ t → Each (Frees g s) (filter (is_one_of d f ms) (kept B z.before)) → T (leaves B (kept B z.before) d (filter (is_one_of d f ms) (kept B z.before)) e)
          go d f ms true w u = subst (λ y. T (not (not y) || list_all passes (filter (is_one_of d f ms) (kept B z.before)))) (sym w) tt
          go d f ms false w u = or-right (not (is_call_of_other d e.1)) (list_all passes (filter (is_one_of d f ms) (kept B z.before))) (each-holds passes (filter (is_one_of d f ms) (kept B z.before)) (all d f ms w (kept B z.before) u hidden))

      -- the history with the answer before the loss, which names its operation too
      pub late-legal : Each (λ n. ¬ (Covers B z.before e c sb n)) z.lost → IsLegal B g.durable.max_objects (z.before ++ e ∷ [] ++ (z.at, entry.Loss c sb (z.lost ++ listed op)) ∷ z.behind)
      late-legal uncovered = insertion B g.durable.max_objects c sb (length g.ghost.shown + 1) l (begun_at g c b l) z.at cl a op z.lost z.before z.behind
          (subst (IsLegal B g.durable.max_objects) z.was (legal-same g.origin fo fn g.durable.max_objects g.ghost.history (alike g x ev) ev.legal)) late-answered.0 z.alone uncovered leaves-later
