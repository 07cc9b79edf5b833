-- All facts behind an answer of a clerk without a session, where those on the history stand.
use Rattle.std.proofs.Common.{◌≡◌, refl, sym, ap, subst, ◌∙◌, ℕ, Bool, true, false, not, ◌==◌, ◌&&◌, ◌||◌, cond, map, T, List, [], ◌∷◌, ◌++◌, Option, Some, None, append-nil}
use Rattle.std.specs.List.{filter}
use Rattle.std.proofs.lemmas.Bool.{true≢false}
use Rattle.ec_base.specs.Tables.{Table, once, or_else}
use Rattle.ec_base.specs.declared.ids.Hold.TheVariants.{Read, Write}
use Rattle.ec_volume.specs.Image.{is_id}
use Rattle.ec_volume.specs.Update.{member}
use Rattle.ec_plain.specs.Plain.{is_sync, plain}
use Rattle.ec_plain.specs.declared.call.Call.{Call}
use Rattle.ec_plain.specs.declared.call.Call.TheVariants as call
use Rattle.ec_cache.specs.Cache.{holds, images_held}
use Rattle.ec_history.specs.History.{History, Op}
use Rattle.ec_history.specs.Placing.{answered, begun, shows, watch}
use Rattle.ec_history.specs.declared.entry.Answer.{Answer}
use Rattle.ec_history.specs.declared.entry.Answer.TheVariants as answer
use Rattle.ec_history.specs.declared.shown.Shown.{Shown}
use Rattle.ec_history.specs.declared.shown.Shown.TheVariants.{Answered}
use Rattle.ec_history.specs.declared.watch.Watch.{Watch}
use Rattle.ec_history.proofs.OfLaws.ForPlacing.More.{watch-step}
use Rattle.ec_durable.specs.Durable.{slot}
use Rattle.ec_cache.specs.OfReport.Report.{Owed, due}
use Rattle.ec_cache.specs.OfResolve.Agreement.{IsFor, IsOwed, Shows}
use Rattle.ec_cache.specs.OfResolve.Resolve.{met}
use Rattle.ec_cache.specs.declared.resolve.verdict.Verdict.{Verdict}
use Rattle.ec_cache.specs.declared.resolve.verdict.Verdict.TheVariants.{Need, Lost, NeedIds, Done}
use Rattle.ec_cache.proofs.OfResolve.Verdicts.{done-ready, done-says, ids-says, lost-says}
use Rattle.ec_protocol.specs.Clerk.{first_id, verdict}
use Rattle.ec_protocol.specs.declared.clerk.Clerk.{Clerk}
use Rattle.ec_coherence.specs.System.{System, with_start}
use Rattle.ec_coherence.specs.Sessions.{HasNone}
use Rattle.ec_coherence.specs.Tokens.{IsWrite}
use Rattle.ec_coherence.proofs.ForCommits.Needs.{holds-write}
use Rattle.ec_coherence.proofs.ForServer.Tables.{by-session}
use Rattle.ec_coherence.specs.Watches.{WatchAgrees, WatchesAgree, still_in}
use Rattle.ec_coherence.specs.Answers.{Gives}
use Rattle.ec_lawful.specs.OfClerkSteps.Answering.{Suits}
use Rattle.ec_lawful.specs.OfClerkSteps.AnswerLaws.{IsBegun}
use Rattle.ec_lawful.proofs.OfClerkSteps.OutsideAnswers.{holds-none, no-update, reads-none}
use Rattle.ec_lawful.proofs.OfClerkSteps.Rootless.{touches-nothing}
use Rattle.ec_base.proofs.Numbers.{same-self as same}
use Rattle.ec_base.proofs.Bools.{is-true}

-- A clerk that holds nothing shows no session.

pub no-members : (xs : List ℕ) → ((x : ℕ) → T (member x xs) → ⊥) → xs ≡ []
no-members [] f = refl
no-members (y ∷ ys) f = absurd (f y (subst (λ b. T (b || member y ys)) (sym (same y)) tt))

none-due : (qs : Owed) → due [] qs ≡ []
none-due qs = ap (λ z. once (map (λ q. q.0) z)) (none qs)
  where
    none : (qs : Owed) → filter (λ q. member q.1 []) qs ≡ []
    none [] = refl
    none (q ∷ qs) = none qs

module _ (k : Clerk) (none : HasNone k) (cl : Call) where
  abbrev id : ℕ
  id = or_else 0 (first_id k.ids)

  shown : Shows k.cache (first_id k.ids) (images_held k.cache)
  shown = record { images = λ x t. refl; unmade = λ x t. refl }

  its : IsFor (first_id k.ids) id
  its x q = ap (or_else 0) q

  -- all that isn't unread is held
  unread : (x : ℕ) → Rattle.ec_cache.specs.OfResolve.Agreement.is_unread k.cache (first_id k.ids) x ≡ false → ⊥
  unread x e = reads-none k none x (twice (holds x Read k.cache) (sym (ap (λ z. not (is_id x z) && not (holds x Read k.cache)) (ap first_id none.ids)) ∙ e))
    where
      twice : (b : Bool) → not b ≡ false → T b
      twice true e = tt
      twice false e = absurd (true≢false e)

  sync-shows : (c2 : Call) (a : Answer) → is_sync c2 ≡ true → shows c2 a ≡ false
  sync-shows call.Sync a e = refl
  sync-shows c2 a e = absurd (true≢false (sym e))

  lost-sync : (ns xs : List ℕ) → verdict cl k ≡ Lost ns xs → is_sync cl ≡ true
  lost-sync ns xs e = go (is_sync cl) refl
    where
      w : IsOwed k.cache k.owed cl (first_id k.ids) id (plain (images_held k.cache) cl id) ns xs
      w = lost-says k.cache k.owed cl (first_id k.ids) ns xs e (images_held k.cache) shown id its

      empty : w.touched ≡ []
      empty = no-members w.touched (λ x m. unread x (w.read.held x m))

      go : (b : Bool) → is_sync cl ≡ b → is_sync cl ≡ true
      go true s = s
      go false s = absurd (w.some (w.reported ∙ ap (λ z. due z k.owed) (w.shown ∙ ap (λ z. met k.owed cl z) empty ∙ ap (λ b. elim b as (λ z. List ℕ) [ true ↦ Rattle.ec_cache.specs.OfReport.Report.objects k.owed | false ↦ [] ]) s) ∙ none-due k.owed))

  pub shows-none : (most : ℕ) (a : Answer) (op : Option ℕ) (rest : Owed) (v : Verdict) → verdict cl k ≡ v → Suits v k → Gives most k v a op rest → shows cl a ≡ false
  shows-none most a op rest (Need x h) e f g = absurd g
  shows-none most a op rest (Lost ns xs) e f g = sync-shows cl a (lost-sync ns xs e)
  shows-none most a op rest (NeedIds xs) e f g =
      let w = ids-says k.cache k.owed cl (first_id k.ids) xs e (images_held k.cache) shown id its in
      absurd (subst IsWrite (holds-none k none w.dir) (holds-write w.dir k.cache (is-true (holds w.dir Write k.cache) w.written)))
  shows-none most a op rest (Done o) e f g =
      let is : plain (images_held k.cache) cl id ≡ o = done-says k.cache k.owed cl (first_id k.ids) o e (images_held k.cache) shown id its in
      let r = done-ready k.cache k.owed cl (first_id k.ids) o e in
      ap (shows cl) g.0 ∙ ap (λ z. shows cl (answer.Reply z.reply)) (sym is)
      ∙ touches-nothing (images_held k.cache) cl id (ap (λ z. z.touched) is ∙ no-members o.touched (λ x m. unread x (r.read x m))) (ap (λ z. z.update) is ∙ no-update k none cl o e f)

-- What the lines show of each clerk then. Of its own start they may show no line before.

module _ (g : System) (c : ℕ) (ws : IsBegun g c) (l : ℕ) (cl : Call) (a : Answer) (op : Option ℕ) (no_op : op ≡ None) (quiet : shows cl a ≡ false)
    (f : ℕ → ℕ → Option Clerk) (calls : Rattle.ec_coherence.specs.ChangeLaws.Calls) (p : List (ℕ × Rattle.ec_wire.specs.declared.msg.Msg.Msg)) (ks : List Op) (same_kept : ks ≡ g.ghost.kept) (hi : History) (fr : Table ℕ) where
  abbrev line : Shown
  line = Answered l c cl a op

  abbrev now : Rattle.ec_coherence.specs.System.Ghost
  now = record (g.ghost) { kept = ks; shown = g.ghost.shown ++ line ∷ []; history = hi; fresh = fr }

  abbrev pub h : System
  h = record g { clerks = f; calls = calls; pool = p; ghost = now }

  still-same : (d : ℕ) → still_in g.ghost (slot g.durable d) ≡ still_in now (slot g.durable d)
  still-same d = ap (λ z. still_in (record (g.ghost) { kept = z }) (slot g.durable d)) (sym same_kept)

  -- a watch that reads the same
  again : (d : ℕ) (w v : Watch) → WatchAgrees g d w → v.running ≡ w.running → v.early ≡ w.early → v.undurable ≡ w.undurable → v.open_start ≡ w.open_start → v.crashed ≡ w.crashed → WatchAgrees h d v
  again d w v x a1 a2 a3 a4 a5 = record {
    running = a1 ∙ x.running;
    early = a2 ∙ x.early;
    still = a3 ∙ x.still ∙ still-same d;
    unseen = λ n. a3 ∙ x.unseen (sym a4 ∙ n);
    open_start = λ b q. x.open_start b (sym a4 ∙ q);
    crashed = λ b m n r. a5 ∙ x.crashed b m n r;
  }

  abbrev w : Watch
  w = begun (watch c g.ghost.shown)

  abbrev placed : Option (List ℕ) → Bool → Watch
  placed o own = elim o as (λ z. Watch) [
    | Some ns ↦ record w { untold = Some (ns ++ []) }
    | None ↦ cond own (record w { undurable = w.undurable ++ [] }) (record w { early = w.early ++ [] })
  ]

  answered-is : answered w (shows cl a) op ≡ placed w.untold (is_id w.starts w.open_start)
  answered-is = ap (λ z. answered w z op) quiet ∙ ap (λ z. answered w false z) no_op

  own-watch : (o : Option (List ℕ)) (own : Bool) → WatchAgrees h c (placed o own)
  own-watch (Some ns) own = again c w (record w { untold = Some (ns ++ []) }) ws.1 refl refl refl refl refl
  own-watch None true = again c w (record w { undurable = w.undurable ++ [] }) ws.1 refl refl (append-nil w.undurable) refl refl
  own-watch None false = again c w (record w { early = w.early ++ [] }) ws.1 refl (append-nil w.early) refl refl refl

  watched : (d : ℕ) → watch d (g.ghost.shown ++ line ∷ []) ≡ cond (d == c) (answered (begun (watch d g.ghost.shown)) (shows cl a) op) (watch d g.ghost.shown)
  watched d = watch-step d g.ghost.shown line

  pub quiet-watches : WatchesAgree h
  quiet-watches d = by-session c d (λ z. WatchAgrees h z (watch z (g.ghost.shown ++ line ∷ [])))
      (subst (WatchAgrees h c) (sym (watched c ∙ ap (λ z. cond z (answered w (shows cl a) op) (watch c g.ghost.shown)) (same c) ∙ answered-is)) (own-watch w.untold (is_id w.starts w.open_start)))
      (λ n. subst (WatchAgrees h d) (sym (watched d ∙ ap (λ z. cond z (answered (begun (watch d g.ghost.shown)) (shows cl a) op) (watch d g.ghost.shown)) n)) (again d (watch d g.ghost.shown) (watch d g.ghost.shown) (ws.0 d n) refl refl refl refl refl))
