-- The line of an answer may follow.
use Rattle.std.proofs.Common.{◌≡◌, refl, sym, ap, subst, ◌∙◌, inl, inr, ◌⊎◌, ◌+◌, ℕ, T, true, false, not, ◌==◌, ◌||◌, List, Option, Some, None, is_some, is_none}
use Rattle.std.proofs.lemmas.Bool.{cond_both}
use Rattle.ec_volume.specs.Image.{is_id}
use Rattle.ec_plain.specs.declared.call.Call.{Call}
use Rattle.ec_history.specs.History.{Op}
use Rattle.ec_history.specs.Placing.{MayFollow, begun, may_show, shows, watch}
use Rattle.ec_history.specs.declared.entry.Answer.{Answer}
use Rattle.ec_history.specs.declared.shown.Shown.TheVariants as show
use Rattle.ec_history.specs.declared.watch.Watch.{Watch}
use Rattle.ec_protocol.specs.declared.clerk.Clerk.{Clerk}
use Rattle.ec_coherence.specs.System.{System, is_open}
use Rattle.ec_coherence.specs.Events.{shown_boot}
use Rattle.ec_coherence.specs.Steps.{call_of}
use Rattle.ec_coherence.proofs.ForServer.Tables.{same_some, some-of}
use Rattle.ec_coherence.specs.CommitLaws.{AllAgree}
use Rattle.ec_lawful.specs.OfClerkSteps.Calls.{CallsAgree}
use Rattle.ec_base.proofs.Numbers.{same-self as same}
use Rattle.ec_base.proofs.Bools.{or_true}

begun-untold : (w : Watch) → (begun w).untold ≡ w.untold
begun-untold w = cond_both w.running w (record w { starts = w.starts + 1; running = true }) (λ v. v.untold ≡ w.untold) (λ e. refl) (λ e. refl)

begun-open : (w : Watch) → (begun w).open_start ≡ w.open_start
begun-open w = cond_both w.running w (record w { starts = w.starts + 1; running = true }) (λ v. v.open_start ≡ w.open_start) (λ e. refl) (λ e. refl)

-- where something is untold it may show a session
untold-may : (w : Watch) (ns : List ℕ) → w.untold ≡ Some ns → may_show (begun w) ≡ true
untold-may w ns e = ap (λ z. is_some z || (is_none (begun w).open_start || is_id (begun w).starts (begun w).open_start)) (begun-untold w ∙ e)

-- where the open start is the one that answers it may show it
open-may : (w : Watch) → ((b : ℕ) → w.open_start ≡ Some b → b ≡ (begun w).starts) → may_show (begun w) ≡ true
open-may w h = ap (λ z. is_some (begun w).untold || (is_none z || is_id (begun w).starts z)) (begun-open w) ∙ ap (λ z. is_some (begun w).untold || z) (go w.open_start refl) ∙ or_true (is_some (begun w).untold)
  where
    go : (o : Option ℕ) → w.open_start ≡ o → (is_none o || is_id (begun w).starts o) ≡ true
    go None e = refl
    go (Some b) e = ap (λ z. (begun w).starts == z) (h b e) ∙ same (begun w).starts

module _ (g : System) (all : AllAgree g) (q : CallsAgree g) (c b n l : ℕ) (cl : Call) (k : Clerk) (run : g.running c ≡ Some b) (there : g.clerks c b ≡ Some k) (x : call_of c n g.calls ≡ Some (l, cl)) (a : Answer) (op : Option ℕ) where
  abbrev w : Watch
  w = watch c g.ghost.shown

  -- in a session
  in-session : (s : ℕ) → k.session ≡ Some s → may_show (begun w) ≡ true
  in-session s at = go ((all.0).images.cut_off s (some-of mine.0))
    where
      mine : (g.ghost.owner s ≡ Some (c, k.age)) × T (g.ghost.taken s)
      mine = (all.0).sessions.in_session c b s k there at

      shows-own : (b' : ℕ) → w.open_start ≡ Some b' → b' ≡ (begun w).starts
      shows-own b' o =
          let at-slot = (all.0).sessions.current c b s k run there at in
          let seen = (all.1 c).open_start b' o in
          let one : seen.0 ≡ at-slot.0 = same_some (sym seen.1 ∙ at-slot.1) in
          let age : (seen.0).age ≡ k.age = ap (λ z. z.1) (same_some (sym ((all.0).sessions.slots c seen.0 seen.1).2 ∙ ap g.ghost.owner (ap (λ z. z.session) one ∙ at-slot.2) ∙ mine.0)) in
          let boot : k.age.boot ≡ b = ((all.0).sessions.starts c b k there).1 in
          seen.3 ∙ ap (λ z. shown_boot g c z.boot) age ∙ ap (shown_boot g c) boot ∙ sym ((all.0).events.starts c b run)

      go : T (is_open g s) ⊎ T (is_some (g.ghost.frozen s)) → may_show (begun w) ≡ true
      go (inl o) = open-may w shows-own
      go (inr f) = by (g.ghost.frozen s) refl f
        where
          by : (o : Option (List Op)) → g.ghost.frozen s ≡ o → T (is_some o) → may_show (begun w) ≡ true
          by None e t = absurd t
          by (Some ks) e t = let z = (all.0).events.cuts c b s k ks run there mine.0 e in untold-may w z.lost z.untold

  pub follows : (k.session ≡ None → shows cl a ≡ false) → MayFollow g.ghost.shown (show.Answered l c cl a op)
  follows none = let o = q.calls c n l cl x in (o.own, o.unanswered, subst T (sym (go k.session refl)) tt)
    where
      go : (o : Option ℕ) → k.session ≡ o → (not (shows cl a) || may_show (begun w)) ≡ true
      go None e = ap (λ z. not z || may_show (begun w)) (none e)
      go (Some s) e = ap (λ z. not (shows cl a) || z) (in-session s e) ∙ or_true (not (shows cl a))
