-- A run over lines without faults writes behind.
use Rattle.std.proofs.Common.{◌≡◌, refl, sym, ap, ◌∙◌, subst, arith, ◌≤◌, ◌+◌, ℕ, suc, T, Bool, true, false, not, List, [], ◌∷◌, ◌++◌, length}
use Rattle.std.specs.Prelude.{Option, None, Some, is_some, nat_lt}
use Rattle.ec_base.specs.Tables.{once}
use Rattle.ec_volume.specs.Image.{is_gone}
use Rattle.ec_volume.specs.Update.{member}
use Rattle.ec_volume.specs.Volume.{Images, WellFormed}
use Rattle.ec_history.specs.History.{Base, Each}
use Rattle.ec_history.specs.declared.shown.Shown.{Shown}
use Rattle.ec_protocol.specs.Drill.{Fates, Ran, Read, TooMany, carry_out, clerk_in, ending_of, ends, first_fates, later_fates, line_happens, max_pending, named_in, onward, piece_before, reads, rest_fates, run_from, settle, unfit}
use Rattle.ec_protocol.specs.World.{Moving, forget, moving, pending, runs}
use Rattle.ec_protocol.specs.declared.script.Line.{Line}
use Rattle.ec_protocol.specs.declared.world.World.{World}
use Rattle.ec_protocol.specs.declared.world.WorldFault.{WorldFault}
use Rattle.ec_lawful.specs.Headline.{placed_on}
use Rattle.ec_lawful.specs.Drills.{lines_in}
use Rattle.ec_lawful.specs.DrillRuns.{AreFit}
use Rattle.ec_quiet.proofs.Ending as ending
use Rattle.ec_quiet.specs.OfDeliveries.Runs.{AllRun, HasEnded, HasSettled}
use Rattle.ec_quiet.proofs.OfDeliveries.Running.{settles-alike, first-runs, later-run}
use Rattle.ec_complete.specs.Begins.{bound_for, most_sent}
use Rattle.ec_complete.specs.Complete.{IsFaultless, IsFaultlessRead}
use Rattle.ec_complete.specs.Goes.{LineGoesOn, LinesGoOn}
use Rattle.ec_complete.specs.Worlds.{Outset}
use Rattle.ec_complete.specs.Ready.{IsReady}
use Rattle.ec_complete.specs.Scripts.{AreNamed}
use Rattle.ec_complete.specs.Pieces.{ArePiecesBehind}
use Rattle.ec_complete.specs.RunsBehind.{WritesBehind}
use Rattle.ec_complete.proofs.Begins.{goes-behind}
use Rattle.ec_complete.proofs.Line.{IsAtWorkOrIdle, IsBehindIn, line-behind, line-ended}
use Rattle.ec_complete.proofs.ForLines.Fronts.{each-first, each-rest}

-- The disk runs in each step.

carries-alike : (k : ℕ) (fates : Fates) (number : ℕ) (l : Line) (w : World) → AllRun fates → carry_out k fates number l w ≡ carry_out k [] number l w
carries-alike k fates number l w a =
    ap (λ f. elim (onward (moving w) (line_happens f number l w)).fault as (λ z. Moving) [ Some g ↦ onward (moving w) (line_happens f number l w) | None ↦ settle k (later_fates fates) (onward (moving w) (line_happens f number l w)) ]) (first-runs fates a)
    ∙ ap (λ (z : Moving). elim (onward (moving w) (line_happens runs number l w)).fault as (λ z. Moving) [ Some g ↦ onward (moving w) (line_happens runs number l w) | None ↦ z ]) (settles-alike k (later_fates fates) (onward (moving w) (line_happens runs number l w)) (later-run fates a))

-- Names.

each-left : (P : ℕ → Type 0) (xs ys : List ℕ) → Each P (xs ++ ys) → Each P xs
each-left P [] ys a = tt
each-left P (x ∷ xs) ys a = (a.0, each-left P xs ys a.1)

each-right : (P : ℕ → Type 0) (xs ys : List ℕ) → Each P (xs ++ ys) → Each P ys
each-right P [] ys a = a
each-right P (x ∷ xs) ys a = each-right P xs ys a.1

-- One line, and the rest of the run.
module _ (k : ℕ) (l : Line) (column : ℕ) (ls : List Read) (fs : List Fates) (number : ℕ) (w : World) (all : Each AllRun fs) where
  abbrev m : Moving
  m = line_happens runs number l w

  abbrev r : Moving
  r = settle k [] m

  abbrev rest : Moving → Ran
  rest x = piece_before x.shown (run_from k (number + 1) ls (rest_fates fs) (forget x.world))

  abbrev behind : Moving → Ran
  behind x = elim x.fault as (λ z. Ran) [
    | Some f ↦ ends x.world x.shown (ending_of number column f)
    | None ↦ elim (nat_lt max_pending (pending x.world)) as (λ z. Ran) [ true ↦ ends x.world x.shown (TooMany (pending x.world)) | false ↦ rest x ]
  ]

  abbrev carried : Moving → Moving
  carried x = elim x.fault as (λ z. Moving) [ Some f ↦ x | None ↦ settle k [] x ]

  is-behind : run_from k number (reads l column ∷ ls) fs w ≡ behind (carried (onward (moving w) m))
  is-behind = ap behind (carries-alike k (first_fates fs) number l w (each-first fs all))

  pub goes-on : m.fault ≡ None → r.fault ≡ None → pending r.world ≡ 0 → run_from k number (reads l column ∷ ls) fs w ≡ rest r
  goes-on fine fault none = is-behind
      ∙ ap (λ x. behind (carried x)) (ap (λ o. elim o as (λ z. Moving) [ Some f ↦ record (moving w) { fault = Some f } | None ↦ record { world = m.world; shown = [] ++ m.shown; fault = None } ]) fine ∙ ap (λ o. record m { fault = o }) (sym fine))
      ∙ ap (λ o. behind (elim o as (λ z. Moving) [ Some f ↦ m | None ↦ r ])) fine
      ∙ ap (λ o. elim o as (λ z. Ran) [ Some f ↦ ends r.world r.shown (ending_of number column f) | None ↦ elim (nat_lt max_pending (pending r.world)) as (λ z. Ran) [ true ↦ ends r.world r.shown (TooMany (pending r.world)) | false ↦ rest r ] ]) fault
      ∙ ap (λ b. elim b as (λ z. Ran) [ true ↦ ends r.world r.shown (TooMany (pending r.world)) | false ↦ rest r ]) (ap (nat_lt max_pending) none)

  pub ends-at : m.fault ≡ None → (f : WorldFault) → r.fault ≡ Some f → run_from k number (reads l column ∷ ls) fs w ≡ ends r.world r.shown (ending_of number column f)
  ends-at fine f e = is-behind
      ∙ ap (λ x. behind (carried x)) (ap (λ o. elim o as (λ z. Moving) [ Some f ↦ record (moving w) { fault = Some f } | None ↦ record { world = m.world; shown = [] ++ m.shown; fault = None } ]) fine ∙ ap (λ o. record m { fault = o }) (sym fine))
      ∙ ap (λ o. behind (elim o as (λ z. Moving) [ Some f ↦ m | None ↦ r ])) fine
      ∙ ap (λ o. elim o as (λ z. Ran) [ Some f ↦ ends r.world r.shown (ending_of number column f) | None ↦ elim (nat_lt max_pending (pending r.world)) as (λ z. Ran) [ true ↦ ends r.world r.shown (TooMany (pending r.world)) | false ↦ rest r ] ]) e

  pub stops-at : (f : WorldFault) → m.fault ≡ Some f → run_from k number (reads l column ∷ ls) fs w ≡ ends w [] (ending_of number column f)
  stops-at f e = is-behind
      ∙ ap (λ x. behind (carried x)) (ap (λ o. elim o as (λ z. Moving) [ Some f ↦ record (moving w) { fault = Some f } | None ↦ record { world = m.world; shown = [] ++ m.shown; fault = None } ]) e)

module _ (go-on : LinesGoOn) (outset : Outset) (v : Images) (most : ℕ) (names : List ℕ) (top : ℕ) (formed : WellFormed v) (bound : (x : ℕ) → T (not (is_gone (v x))) → x ≤ top) (sixteen : length (once names) ≤ 16) where
  abbrev k : ℕ
  k = bound_for (length (once names))

  abbrev base : Base
  base = placed_on v top

  up : (number : ℕ) (w : World) → IsReady outset v most names number w → T (is_some w.server)
  up number w q = subst (λ o. T (is_some o)) (sym q.stands.server) tt

  -- a line that goes on
  module _ (l : Line) (column : ℕ) (ls : List Read) (fs : List Fates) (number : ℕ) (w : World) (q : IsReady outset v most names number w) (few : number ≤ 65536) (faultless : IsFaultless l) (goes : LineGoesOn outset v most names number l w q) where
    abbrev then : Moving
    then = settle k [] (line_happens runs number l w)

    abbrev At : Ran → Type 0
    At ran = WritesBehind base (l ∷ lines_in ls) w.shown ran

    at-work : IsAtWorkOrIdle outset l v number (line_happens runs number l w)
    at-work = goes-behind outset v most names number w q l faultless goes

    -- it settled
    module _ (settled : HasSettled k (line_happens runs number l w) then) where
      its : IsBehindIn base l w then
      its = line-behind outset v top formed bound number few l faultless w goes.fine at-work k settled.reached few-sent
        where
          few-sent : then.world.sent ≤ most_sent
          few-sent = omega (arith, (goes.next settled).sent, few)

      over : pending then.world ≡ 0
      over = (ending.ends then.world settled.scene settled.stands settled.idle.mail).0

      pub one-more : Each AllRun fs → WritesBehind base (lines_in ls) then.world.shown (run_from k (number + 1) ls (rest_fates fs) (forget then.world)) → At (run_from k number (reads l column ∷ ls) fs w)
      one-more all b = subst At (sym (goes-on k l column ls fs number w all goes.fine settled.fault over)) (record {
        pieces = (its.behind, subst (λ z. ArePiecesBehind base (lines_in ls) z (run_from k (number + 1) ls (rest_fates fs) (forget then.world)).pieces) its.adds b.pieces);
        up = b.up;
      })

    -- it ended in a delivery
    pub last-one : Each AllRun fs → (f : WorldFault) → then.fault ≡ Some f → At (run_from k number (reads l column ∷ ls) fs w)
    last-one all f e =
        let h : HasEnded most_sent (line_happens runs number l w) then = goes.ended f e in
        let i : IsBehindIn base l w then = line-ended outset v top formed bound number few l faultless w goes.fine at-work k f e h in
        subst At (sym (ends-at k l column ls fs number w all goes.fine f e)) (record { pieces = (i.behind, tt); up = subst (λ (u : World). T (is_some u.server)) (sym h.world) (subst (λ o. T (is_some o)) (sym h.stands.server) tt) })

  pub runs-behind : (ls : List Read) (fs : List Fates) (number : ℕ) (w : World) → IsReady outset v most names number w → 1 ≤ number → number + length ls ≤ 65537 → Each IsFaultlessRead ls → AreFit ls → AreNamed names ls → Each AllRun fs
      → WritesBehind base (lines_in ls) w.shown (run_from k number ls fs w)
  runs-behind [] fs number w q first few a fit named all = record { pieces = tt; up = up number w q }
  runs-behind (unfit column ∷ ls) fs number w q first few a fit named all = absurd a.0
  runs-behind (reads l column ∷ ls) fs number w q first few a fit named all = by (line_happens runs number l w).fault refl (λ fs number w q first few named all. runs-behind ls fs number w q first few a.1 fit.1 named all)
    where
      less : (n m : ℕ) → n + suc m ≤ 65537 → n ≤ 65536
      less n m e = omega (arith, e)

      more : (n m : ℕ) → n + suc m ≤ 65537 → (n + 1) + m ≤ 65537
      more n m e = omega (arith, e)

      by : (o : Option WorldFault) → (line_happens runs number l w).fault ≡ o
          → ((fs : List Fates) (number : ℕ) (w : World) → IsReady outset v most names number w → 1 ≤ number → number + length ls ≤ 65537 → AreNamed names ls → Each AllRun fs → WritesBehind base (lines_in ls) w.shown (run_from k number ls fs w))
          → WritesBehind base (l ∷ lines_in ls) w.shown (run_from k number (reads l column ∷ ls) fs w)
      by (Some f) e rest = subst (WritesBehind base (l ∷ lines_in ls) w.shown) (sym (stops-at k l column ls fs number w all f e)) (record { pieces = (tt, tt); up = up number w q })
      by None e rest = then-by (settle k [] (line_happens runs number l w)).fault refl
        where
          small : number ≤ 65536
          small = less number (length ls) few

          goes : LineGoesOn outset v most names number l w q
          goes = go-on outset v most names number l column w q sixteen first small a.0 fit.0 (each-left (λ c. T (member c names)) (clerk_in l) (named_in ls) named) e

          then-by : (o : Option WorldFault) → (settle k [] (line_happens runs number l w)).fault ≡ o → WritesBehind base (l ∷ lines_in ls) w.shown (run_from k number (reads l column ∷ ls) fs w)
          then-by (Some f) g = last-one l column ls fs number w q small a.0 goes all f g
          then-by None g =
              let settled = goes.ends g in
              one-more l column ls fs number w q small a.0 goes settled all
              (rest (rest_fates fs) (number + 1) (forget (settle k [] (line_happens runs number l w)).world) (goes.next settled) (omega arith) (more number (length ls) few) (each-right (λ c. T (member c names)) (clerk_in l) (named_in ls) named) (each-rest fs all))
