-- A clerk that sees what is kept, and owes what the history says, answers by the rules.
use Rattle.std.proofs.Common.{◌≡◌, refl, sym, ap, subst, ◌∙◌, arith, ◌≤◌, ◌+◌, ℕ, T, false, ◌==◌, ◌||◌, cond, map, List, [], ◌∷◌, length, Option, Some, None}
use Rattle.std.specs.Prelude.{is_some}
use Rattle.std.specs.List.{filter}
use Rattle.ec_base.specs.Tables.{at, at_or, or_else, put}
use Rattle.ec_volume.specs.Update.{member}
use Rattle.ec_volume.specs.Volume.{after}
use Rattle.ec_volume.specs.declared.image.Image.TheVariants.{Gone}
use Rattle.ec_volume.specs.declared.update.Update.{Update}
use Rattle.ec_plain.specs.declared.call.Call.{Call}
use Rattle.ec_history.specs.History.{Base, History, Op, Each, updates, outcome, kept, issued_by}
use Rattle.ec_history.specs.Legal.{IsNext, is_op_of}
use Rattle.ec_history.specs.Placing.{place}
use Rattle.ec_history.specs.declared.entry.Answer.{Answer}
use Rattle.ec_history.specs.declared.entry.Answer.TheVariants as answer
use Rattle.ec_history.specs.declared.entry.Entry.TheVariants as entry
use Rattle.ec_cache.specs.OfReport.Report.{Owed, clear}
use Rattle.ec_cache.specs.declared.resolve.verdict.Verdict.{Verdict}
use Rattle.ec_cache.specs.declared.resolve.verdict.Verdict.TheVariants.{Need, Lost, NeedIds, Done}
use Rattle.ec_history.proofs.OfLaws.ForPlacing.Places.{places-within}
use Rattle.ec_coherence.specs.Answers.{IsAt, IsAnswered}
use Rattle.ec_cache.specs.OfResolve.Agreement.{Shows}
use Rattle.ec_coherence.proofs.ForCommits.Judged.{done-comes, done-answered, lost-answered, full-answered, shows-all}
use Rattle.ec_coherence.proofs.ForCommits.Rebased.{Alike, kept-same, owed_from-same}
use Rattle.ec_protocol.specs.Clerk.{first_id, verdict}
use Rattle.ec_protocol.specs.declared.clerk.Clerk.{Clerk}
use Rattle.ec_coherence.specs.System.{System, seen_ops}
use Rattle.ec_coherence.specs.Events.{EventsAgree, shown_boot, shown_op}
use Rattle.ec_coherence.proofs.ForServer.Tables.{at-put, differ, same_some}
use Rattle.ec_coherence.specs.Answers.{IsLive, Sees, Gives, seen_by, fresh_of, op_given, based}
use Rattle.ec_base.proofs.Numbers.{same-self as same}
use Rattle.ec_base.proofs.Options.{none_some}

-- An answer by a verdict, on plain variables.
module _ (base : Base) (most : ℕ) (past : History) (c b p l begun : ℕ) (cl : Call) (k : Clerk)
    (here : IsAt base past c b k.cache k.owed (first_id k.ids)) (fresh : base.fresh p ≡ fresh_of k) (count : length (filter (is_op_of c b) past) + 1 ≡ k.log.next) where
  abbrev Answers : Answer → Option ℕ → Owed → Type 0
  Answers a op rest = IsAnswered base most past c b p l begun cl a op rest

  same-answer : (a a' : Answer) (op op' : Option ℕ) (rest rest' : Owed) → a ≡ a' → op ≡ op' → rest ≡ rest' → Answers a' op' rest' → Answers a op rest
  same-answer a a' op op' rest rest' x y z t = subst (λ w. Answers w op rest) (sym x) (subst (λ w. Answers a' w rest) (sym y) (subst (λ w. Answers a' op' w) (sym z) t))

  abbrev number_of : Option Update → Option ℕ
  number_of u = elim u [ None ↦ None | Some w ↦ Some k.log.next ]

  next : (u : Option Update) → IsNext c b past (number_of u) × (is_some (number_of u) ≡ is_some u)
  next None = (tt, refl)
  next (Some w) = (sym count, refl)

  pub given-answered : (v : Verdict) (a : Answer) (op : Option ℕ) (rest : Owed) → verdict cl k ≡ v → Gives most k v a op rest → Answers a op rest
  given-answered (Need x h) a op rest e q = absurd q
  given-answered (Lost ns xs) a op rest e q =
      same-answer a (answer.Lost ns) op None rest (clear xs k.owed) q.0 q.1 q.2 (lost-answered base most past c b p l begun cl k.cache k.owed (first_id k.ids) here fresh ns xs e)
  given-answered (NeedIds xs) a op rest e q =
      same-answer a (answer.NoRoom q.0 q.1) op None rest k.owed q.2 q.4 q.5 (full-answered base most past c b p l begun cl k.cache k.owed (first_id k.ids) here fresh xs e q.0 q.1 q.3)
  given-answered (Done o) a op rest e q =
      same-answer a (answer.Reply o.reply) op (number_of o.update) rest k.owed q.0 q.1 q.2
      (done-answered base most past c b p l begun cl k.cache k.owed (first_id k.ids) here fresh o e (number_of o.update) (next o.update).0 (next o.update).1)

  -- its operation is the one that the history issues
  pub given-issued : (v : Verdict) (a : Answer) (op : Option ℕ) (rest : Owed) → verdict cl k ≡ v → Gives most k v a op rest
      → issued_by base (kept base past) (p, entry.Call c b l begun cl a op) ≡ op_given c b p k v
  given-issued (Need x h) a op rest e q = absurd q
  given-issued (Lost ns xs) a op rest e q = ap (λ w. issued_by base (kept base past) (p, entry.Call c b l begun cl a w)) q.1
  given-issued (NeedIds xs) a op rest e q = ap (λ w. issued_by base (kept base past) (p, entry.Call c b l begun cl a w)) q.4
  given-issued (Done o) a op rest e q = ap (λ w. issued_by base (kept base past) (p, entry.Call c b l begun cl a w)) q.1 ∙ go o.update refl
    where
      comes : outcome base (kept base past) p cl ≡ o
      comes = done-comes base most past c b p l begun cl k.cache k.owed (first_id k.ids) here fresh o e

      go : (u : Option Update) → o.update ≡ u → issued_by base (kept base past) (p, entry.Call c b l begun cl a (number_of u))
          ≡ elim u as (λ z. List Op) [ None ↦ [] | Some w ↦ record { clerk = c; boot = b; number = k.log.next; place = p; update = w } ∷ [] ]
      go None m = refl
      go (Some w) m = ap (λ z. elim z as (λ x. List Op) [ None ↦ [] | Some u ↦ record { clerk = c; boot = b; number = k.log.next; place = p; update = u } ∷ [] ]) (ap (λ x. x.update) comes ∙ m)

-- The clerk of an open session, or of none, stands behind the whole history.

pub shown-updates : (g : System) (ks : List Op) → updates (map (shown_op g) ks) ≡ updates ks
shown-updates g [] = refl
shown-updates g (k ∷ ks) = ap (λ x. k.update ∷ x) (shown-updates g ks)

-- the next free id is Gone
pub fresh-gone : (g : System) (k : Clerk) → Sees g k → (x : ℕ) → first_id k.ids ≡ Some x → seen_by g k x ≡ Gone
fresh-gone g k s = go k.ids refl
  where
    first : (y : ℕ) (ys : List ℕ) → T (member y (y ∷ ys))
    first y ys = subst T (sym (ap (λ b. b || member y ys) (same y))) tt

    go : (xs : List ℕ) → k.ids ≡ xs → (x : ℕ) → first_id xs ≡ Some x → seen_by g k x ≡ Gone
    go [] e x q = absurd (none_some q)
    go (y ∷ xs) e x q = s.free x (subst (λ z. T (member x z)) (sym e) (subst (λ z. T (member z (y ∷ xs))) (same_some q) (first y xs)))

module _ (g : System) (x : ℕ) where
  abbrev pub old_fresh : ℕ → ℕ
  old_fresh = λ p. at_or 0 p g.ghost.fresh

  abbrev pub new_fresh : ℕ → ℕ
  new_fresh = λ p. at_or 0 p (put (length g.ghost.shown + 1) x g.ghost.fresh)

  pub fresh-here : (based g x).fresh (length g.ghost.shown + 1) ≡ x
  fresh-here = ap (or_else 0) (at-put (length g.ghost.shown + 1) (length g.ghost.shown + 1) x g.ghost.fresh ∙ ap (λ b. cond b (Some x) (at (length g.ghost.shown + 1) g.ghost.fresh)) (same (length g.ghost.shown + 1)))

  -- the entries so far have places before the next line's
  pub alike : EventsAgree g → Alike old_fresh new_fresh g.ghost.history
  alike ev = subst (Alike old_fresh new_fresh) ev.placed (go (place g.ghost.shown) (places-within g.ghost.shown))
    where
      before : (p n : ℕ) → p ≤ n → (p == n + 1) ≡ false
      before p n le = differ p (n + 1) (λ e. omega (arith, le, e))

      go : (h : History) → Each (λ p. (1 ≤ p) × (p ≤ length g.ghost.shown)) (map (λ e. e.0) h) → Alike old_fresh new_fresh h
      go [] all = tt
      go (e ∷ h) all = (sym (ap (or_else 0) (at-put e.0 (length g.ghost.shown + 1) x g.ghost.fresh ∙ ap (λ b. cond b (Some x) (at e.0 g.ghost.fresh)) (before e.0 (length g.ghost.shown) all.0.1))), go h all.1)

  pub kept-now : EventsAgree g → kept (based g x) g.ghost.history ≡ map (shown_op g) g.ghost.kept
  kept-now ev = sym (kept-same g.origin old_fresh new_fresh g.ghost.history (alike ev)) ∙ ev.keeps

  pub is-at : EventsAgree g → (c b : ℕ) (k : Clerk) → g.running c ≡ Some b → g.clerks c b ≡ Some k → IsLive g c k → Sees g k
      → IsAt (based g x) g.ghost.history c (shown_boot g c b) k.cache k.owed (first_id k.ids)
  is-at ev c b k r q n s = record {
    shows = subst (λ v. Shows k.cache (first_id k.ids) v) volume (shows-all k.cache (seen_by g k) s.images (first_id k.ids) (fresh-gone g k s));
    owes = sym (owed_from-same g.origin old_fresh new_fresh c (shown_boot g c b) [] [] g.ghost.history (alike ev)) ∙ ev.owes c b k r q n.uncut;
    no_zero = s.no_zero;
  }
    where
      volume : seen_by g k ≡ after g.origin (updates (kept (based g x) g.ghost.history))
      volume =
          ap (λ z. after g.origin (updates (seen_ops z g.ghost.kept))) n.sees_all
          ∙ ap (after g.origin) (sym (shown-updates g g.ghost.kept) ∙ ap updates (sym (kept-now ev)))

  -- so an answer may stand at the end of the history
  pub answers-stand : EventsAgree g → (c b : ℕ) (k : Clerk) → g.running c ≡ Some b → g.clerks c b ≡ Some k → IsLive g c k → Sees g k → x ≡ fresh_of k
      → (most l begun : ℕ) (cl : Call) (a : Answer) (op : Option ℕ) (rest : Owed) → Gives most k (verdict cl k) a op rest
      → IsAnswered (based g x) most g.ghost.history c (shown_boot g c b) (length g.ghost.shown + 1) l begun cl a op rest
  answers-stand ev c b k r q n s f most l begun cl a op rest w =
      given-answered (based g x) most g.ghost.history c (shown_boot g c b) (length g.ghost.shown + 1) l begun cl k (is-at ev c b k r q n s) (fresh-here ∙ f) (ev.counts c b k r q) (verdict cl k) a op rest refl w
