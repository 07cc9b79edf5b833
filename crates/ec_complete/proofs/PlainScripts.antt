-- A script without faults is answered plainly: line by line, each push names an operation that its clerk issued, each line goes on, and no call is refused.
use Rattle.std.proofs.Common.{◌≡◌, refl, sym, ap, ◌∙◌, subst, arith, ◌≤◌, ◌+◌, ◌*◌, ℕ, T, Bool, true, false, ◌==◌, ◌||◌, List, [], ◌∷◌, ◌++◌, inl, inr, ◌⊎◌, length, length-append}
use Rattle.std.specs.Prelude.{Option, None, Some, Ok, Result, is_some}
use Rattle.std.proofs.lemmas.Bool.{eq-eqb}
use Rattle.ec_base.specs.Tables.{at, once}
use Rattle.ec_base.specs.declared.counter.Counter.{Counter}
use Rattle.ec_history.specs.History.{Each}
use Rattle.ec_history.specs.Placing.{EachLine}
use Rattle.ec_history.specs.declared.shown.Shown.{Shown}
use Rattle.ec_volume.specs.Update.{member}
use Rattle.ec_volume.specs.Volume.{images}
use Rattle.ec_durable.specs.Durable.{formatted}
use Rattle.ec_durable.specs.WellFormed.{WellFormed}
use Rattle.ec_durable.specs.declared.state.Durable.{Durable}
use Rattle.ec_protocol.specs.Drill as drills
use Rattle.ec_protocol.specs.Drill.{Done, Fates, Ran, Read, bound, carry_out, clerk_in, close, drill, drill_in, is_stopped, last_line, last_restart, line_happens, named_in, reads, rest_fates, run_from, settle, status, unfit}
use Rattle.ec_protocol.specs.World.{Moving, forget, moving, open_world, pending, runs}
use Rattle.ec_protocol.specs.declared.clerk.Clerk.{Clerk}
use Rattle.ec_protocol.specs.declared.script.Line.{Line}
use Rattle.ec_protocol.specs.declared.script.Line.TheVariants as line
use Rattle.ec_protocol.specs.declared.server.Server.{Server}
use Rattle.ec_protocol.specs.declared.world.Event.TheVariants as event
use Rattle.ec_protocol.specs.declared.world.World.{World}
use Rattle.ec_lawful.specs.Headline.{joined}
use Rattle.ec_lawful.specs.Drills.{lines_in}
use Rattle.ec_lawful.specs.DrillRuns.{AreFit, IsFit}
use Rattle.ec_lawful.specs.Steps.{HoldsIn, IsNewIn}
use Rattle.ec_lawful.proofs.Events.{event-holds}
use Rattle.ec_lawful.specs.Runs.{OfRun}
use Rattle.ec_lawful.proofs.Runs.{keep}
use Rattle.ec_lawful.proofs.Clerks.{clerks-keep-all}
use Rattle.ec_lawful.proofs.Worlds.{no-lines}
use Rattle.ec_quiet.specs.Scenes.{IsScene}
use Rattle.ec_quiet.specs.Works.{Work}
use Rattle.ec_quiet.specs.Bounds.{IsFirstPhase as IsFirst}
use Rattle.ec_quiet.proofs.Delivering as delivering
use Rattle.ec_quiet.specs.Settling.{IsSettled}
use Rattle.ec_quiet.proofs.Showing as settling
use Rattle.ec_quiet.proofs.Ending.{ends}
use Rattle.ec_quiet.specs.OfDeliveries.Runs.{AllRun, HasSettled}
use Rattle.ec_machine_laws.specs.Answers.{Asking, asked_from, asking_in, none_yet}
use Rattle.ec_machine_laws.specs.PlainLines.{asked_in}
use Rattle.ec_complete.specs.Begins.{most_sent}
use Rattle.ec_complete.specs.Complete.{IsComplete, IsFaultless, IsFaultlessRead}
use Rattle.ec_complete.specs.SettledRuns.{EachSettles, HasRoom}
use Rattle.ec_complete.proofs.ForLines.Lines as lines
use Rattle.ec_complete.proofs.ForLines.Plainness.{NoEnd}
use Rattle.ec_complete.proofs.ForLines.Runs.{completes}
use Rattle.ec_complete.specs.Worlds.{LineIsKnown as IsKnown, new_outset}
use Rattle.ec_complete.specs.Goes.{LineGoesOn, GoesThrough, IsWorkOf, PushGoes}
use Rattle.ec_complete.specs.Ready.{IsReady}
use Rattle.ec_complete.proofs.ForFaultless.Going.{lines-go-through, pushes-go}
use Rattle.ec_complete.proofs.ForFaultless.Opening.{new-early, new-ready}
use Rattle.ec_complete.specs.ScriptRooms.{HasStock, IsRoomFor, KeepsRoom, sum_below}
use Rattle.ec_complete.proofs.Firsts.{calls-keep-room, pushes-keep-room}
use Rattle.ec_complete.proofs.LinesHaveRoom.{lines-keep-room, same-scene}
use Rattle.ec_complete.proofs.Showing as showing
use Rattle.ec_complete.proofs.Stocks.{more-stock}
use Rattle.ec_complete.specs.PlainScripts.{ArePushed, IsPlainScript, IsPushed, behind_line, makes}
use Rattle.ec_complete.specs.PlainRuns.{PlainScriptsAreComplete}
use Rattle.ec_complete.proofs.Folding.{asked-more, behind_lines, callers, callers-more, fold-more, in-back, issuers-call, makes-both, makes-more, makes-sum, makes_by, own-make}
use Rattle.ec_complete.proofs.ForLines.Fronts.{ahead, each-rest, front-no-end, joined-both, line-more}
use Rattle.ec_complete.proofs.Issued.{has-issued, v}
use Rattle.ec_complete.proofs.Named.{names-few}
use Rattle.ec_complete.proofs.NobodyRuns.{none-run, opens}
use Rattle.ec_base.proofs.Lists.{regroup, no-more}
use Rattle.ec_complete.proofs.OfAgreedLines.Showing.{asked-both}
use Rattle.ec_log.proofs.OfChains.Chained.{member-left as in-front}
use Rattle.ec_quiet.proofs.Settled.{stops}

-- each number of a list is in it
all-members : (cs names : List ℕ) → ((c : ℕ) → T (member c cs) → T (member c names)) → Each (λ c. T (member c names)) cs
all-members [] names f = tt
all-members (c ∷ cs) names f = (f c (subst (λ b. T (b || member c cs)) (sym (eq-eqb c c refl)) tt), all-members cs names (λ d m. f d (later (d == c) (member d cs) m)))
  where
    later : (a b : Bool) → T b → T (a || b)
    later true b m = tt
    later false b m = m

-- more objects were asked for, perhaps
module _ (names : List ℕ) (m : Moving) where
  raised : (cs ds : List ℕ) (f g : ℕ → ℕ) → cs ≡ ds → ((c : ℕ) → f c ≤ g c) → KeepsRoom names cs f m → KeepsRoom names ds g m
  raised cs ds f g e l k = record {
    scene = k.scene;
    stands = k.stands;
    stock = record {
      clerks = λ c a q. more-stock (f c) (g c) a (l c) (k.stock.clerks c a q);
      named = k.stock.named;
      run = subst (λ (xs : List ℕ). (c : ℕ) → T (member c xs) → T (is_some (at c k.scene.clerks))) e k.stock.run;
      mail = k.stock.mail;
    };
    shown = k.shown;
  }

module _ (most : ℕ) (formed : WellFormed (formatted most)) (w : World) (opened : open_world (formatted most) ≡ Ok w) (ls : List Read) (fs : List Fates) (few : length ls ≤ 65536) (fit : AreFit ls) (all-run : Each AllRun fs) (script : IsPlainScript most ls) where
  abbrev d : Durable
  d = formatted most

  abbrev names : List ℕ
  names = named_in ls

  abbrev k : ℕ
  k = bound ls

  abbrev G : World → Type 0
  G u = HoldsIn (OfRun (v most) most) u

  few-names : length (once names) ≤ 16
  few-names = names-few (v most) ls script.faultless fit script.pushes

  -- what is known before the line of this number, of which the rest of the script is known
  record Known (number : ℕ) (u : World) (rest : List Read) : Type 0 where
    past : List Line
    whole : past ++ lines_in rest ≡ lines_in ls
    count : number ≡ 1 + length past
    left : number + length rest ≤ 65537
    ready : IsReady new_outset (v most) most names number u
    stock : HasStock names (callers past) (λ c. makes_by past c) ready.scene
    asked : asked_in u.shown ≡ asked_from 1 past
    settled : EachLine IsSettled u.shown
    room : EachLine HasRoom u.shown
    no-faults : Each IsFaultlessRead rest
    fits : AreFit rest
    named : (c : ℕ) → T (member c (named_in rest)) → T (member c names)
    pushes : ArePushed (v most) 1 number (behind_lines (v most) 1 1 past none_yet) (lines_in rest)
    pieces : List (List Shown)
    told : u.shown ≡ joined pieces
    fates : List Fates
    all-left : Each AllRun fates
    run-is : run_from k 1 ls fs w ≡ ahead pieces (run_from k number rest fates u)

  begins : Known 1 w ls
  begins = record {
    past = [];
    whole = refl;
    count = refl;
    left = omega (arith, few);
    ready = ready;
    stock = record {
      clerks = λ c a e. absurd (Rattle.ec_base.proofs.Options.none_some (none c ∙ e));
      named = λ c a e. absurd (Rattle.ec_base.proofs.Options.none_some (none c ∙ e));
      run = λ c m. absurd m;
      mail = subst (λ ms. Each {A = ℕ × Rattle.ec_wire.specs.declared.msg.Msg.Msg} (λ m. Rattle.ec_complete.specs.Rooms.GrantsRoom m.1) ms) (sym ready.idle.mail) tt;
    };
    asked = ap asked_in shown;
    settled = subst (EachLine IsSettled) (sym shown) tt;
    room = subst (EachLine HasRoom) (sym shown) tt;
    no-faults = script.faultless;
    fits = fit;
    named = λ c m. m;
    pushes = script.pushes;
    pieces = [];
    told = shown;
    fates = fs;
    all-left = all-run;
    run-is = refl;
  }
    where
      ready : IsReady new_outset (v most) most names 1 w
      ready = new-ready most formed names w opened

      shown : w.shown ≡ []
      shown = no-lines d formed refl refl w opened

      none : (c : ℕ) → None ≡ at c ready.scene.clerks
      none c = ap (at c) (sym (no-clerks w opened) ∙ ready.stands.clerks)
        where
          no-clerks : (w : World) → open_world d ≡ Ok w → w.clerks ≡ []
          no-clerks w e = none-run most w e

  -- One line.
  module _ (number : ℕ) (u : World) (l : Line) (column : ℕ) (rest : List Read) (q : Known number u (reads l column ∷ rest)) where
    abbrev past-then : List Line
    past-then = q.past ++ l ∷ []

    abbrev m : Moving
    m = line_happens runs number l u

    abbrev r : Moving
    r = settle k [] m

    holds : G u
    holds = (q.ready.system, q.ready.facts, q.ready.in_system)

    whole-then : past-then ++ lines_in rest ≡ lines_in ls
    whole-then = regroup q.past (l ∷ []) (lines_in rest) ∙ q.whole

    -- the push names an operation that was issued
    no-end : EachLine NoEnd u.shown
    no-end = subst (EachLine NoEnd) (sym q.told) (front-no-end d formed refl refl w opened ls fs fit script.faultless q.pieces (run_from k number (reads l column ∷ rest) q.fates u) q.run-is)

    goes : (l : Line) → IsPushed (behind_lines (v most) 1 1 q.past none_yet) l → PushGoes number l u
    goes line.Comment p = tt
    goes (line.Call c cl) p = tt
    goes (line.Push c n) p = by (at c q.ready.scene.clerks) refl (q.stock.run c (issuers-call (v most) 1 c 1 q.past none_yet refl (omega (arith, p.0, p.1))))
      where
        by : (o : Option Clerk) → at c q.ready.scene.clerks ≡ o → T (is_some o) → PushGoes number (line.Push c n) u
        by None e t = absurd t
        by (Some a) e t =
            let there : at c u.clerks ≡ Some a = ap (at c) q.ready.stands.clerks ∙ e in
            pushes-go new_outset (v most) most names number u q.ready (omega (arith, q.count)) (omega (arith, q.left)) c n a there (has-issued most u holds q.settled q.room no-end q.past q.asked formed.volume c n a there p.0 p.1)
    goes (line.Cut c) p = tt
    goes (line.Uncut c) p = tt
    goes (line.Drop c i j) p = tt
    goes (line.Repeat c i j) p = tt
    goes (line.Deliver c i j) p = tt
    goes (line.Resend c) p = tt
    goes (line.Crash c) p = tt
    goes (line.End c) p = tt
    goes line.Stop p = tt
    goes (line.Arm i j) p = tt
    goes line.Restart p = tt

    through : GoesThrough new_outset (v most) most names number l u q.ready
    through = lines-go-through new_outset (v most) most names number l column u q.ready new-early few-names (omega (arith, q.count)) (omega (arith, q.left)) q.no-faults.0 q.fits.0 (all-members (clerk_in l) names (λ c t. q.named c (in-front c (clerk_in l) (named_in rest) t)))
        (goes l q.pushes.0)

    abbrev go-on : LineGoesOn new_outset (v most) most names number l u q.ready
    go-on = through.goes

    hs : HasSettled k m r
    hs = through.settled

    before : lines.Before d formed refl refl number u
    before = record { holds = holds; shown = q.ready.shown; scene = q.ready.scene; stands = q.ready.stands; idle = q.ready.idle }

    along : lines.Along d formed refl refl number u r
    along = lines.behind d formed refl refl number u before l go-on.fine k hs column q.no-faults.0 q.fits.0

    over : (pending r.world ≡ 0) × IsScene (forget r.world) hs.scene
    over = ends r.world hs.scene hs.stands hs.idle.mail

    -- Room.

    abbrev Keeps : Moving → Type 0
    Keeps x = KeepsRoom names (callers past-then) (λ c. makes_by past-then c) x

    more-makes : (c : ℕ) → makes_by q.past c ≤ makes_by past-then c
    more-makes c = omega (arith, makes-more q.past l c)

    room-for : IsRoomFor names (λ c. makes_by past-then c) most
    room-for = together (sum_below 16 (λ c. makes_by past-then c)) (makes past-then) (makes (lines_in rest)) (makes (lines_in ls)) (length (once names)) most (makes-sum past-then) (ap makes (sym whole-then) ∙ makes-both past-then (lines_in rest)) script.room
      where
        together : (s a b all n most : ℕ) → s ≤ a → all ≡ a + b → all + 16 * n + 1 ≤ most → s + 16 * n + 1 ≤ most
        together s a b all n most e f g = omega (arith, e, f, g)

    still : KeepsRoom names (callers q.past) (λ c. makes_by q.past c) (moving u)
    still = record { scene = q.ready.scene; stands = q.ready.stands; stock = q.stock; shown = tt }

    first : (l : Line) → IsFaultless l → IsFit (reads l column) → ((c : ℕ) → T (member c (clerk_in l)) → T (member c names)) → IsNewIn u number → (line_happens runs number l u).fault ≡ None
        → KeepsRoom names (callers (q.past ++ l ∷ [])) (λ c. makes_by (q.past ++ l ∷ []) c) (line_happens runs number l u) × G (line_happens runs number l u).world
    first line.Comment a b n new f = (raised names (moving u) (callers q.past) (callers (q.past ++ line.Comment ∷ [])) (λ c. makes_by q.past c) (λ c. makes_by (q.past ++ line.Comment ∷ []) c) (sym (callers-more q.past line.Comment)) (λ c. omega (arith, makes-more q.past line.Comment c)) still, holds)
    first (line.Call c cl) a b n new f = (
      subst (λ cs. KeepsRoom names cs (λ e. makes_by (q.past ++ line.Call c cl ∷ []) e) (line_happens runs number (line.Call c cl) u)) (sym (callers-more q.past (line.Call c cl)))
          (calls-keep-room names (callers q.past) (λ e. makes_by q.past e) (λ e. makes_by (q.past ++ line.Call c cl ∷ []) e) u q.ready.scene c number cl q.ready.stands q.ready.idle q.stock (n c (own c)) (λ e. omega (arith, makes-more q.past (line.Call c cl) e))
          (omega (arith, makes-more q.past (line.Call c cl) c, own-make c cl)) f),
      event-holds (OfRun (v most) most) (keep clerks-keep-all (v most) most) runs (event.Call c number cl) u holds (new, b.0, b.1) f,
    )
      where
        own : (c : ℕ) → T (member c (c ∷ []))
        own c = subst (λ b. T (b || false)) (sym (eq-eqb c c refl)) tt
    first (line.Push c i) a b n new f = (
      raised names (line_happens runs number (line.Push c i) u) (callers q.past) (callers (q.past ++ line.Push c i ∷ [])) (λ e. makes_by q.past e) (λ e. makes_by (q.past ++ line.Push c i ∷ []) e) (sym (callers-more q.past (line.Push c i)))
          (λ e. omega (arith, makes-more q.past (line.Push c i) e)) (pushes-keep-room names (callers q.past) (λ e. makes_by q.past e) u q.ready.scene c i q.ready.stands q.stock f),
      event-holds (OfRun (v most) most) (keep clerks-keep-all (v most) most) runs (event.Push c i) u holds tt f,
    )
    first (line.Cut c) a b n new f = absurd a
    first (line.Uncut c) a b n new f = absurd a
    first (line.Drop c i j) a b n new f = absurd a
    first (line.Repeat c i j) a b n new f = absurd a
    first (line.Deliver c i j) a b n new f = absurd a
    first (line.Resend c) a b n new f = absurd a
    first (line.Crash c) a b n new f = absurd a
    first (line.End c) a b n new f = absurd a
    first line.Stop a b n new f = absurd a
    first (line.Arm i j) a b n new f = absurd a
    first line.Restart a b n new f = absurd a

    first-keeps : Keeps m × G m.world
    first-keeps = first l q.no-faults.0 q.fits.0 (λ c t. q.named c (in-front c (clerk_in l) (named_in rest) t)) go-on.new go-on.fine

    few-sent : r.world.sent ≤ most_sent
    few-sent = omega (arith, through.next.sent, q.left)

    keeps : Keeps r
    keeps = go go-on.known
      where
        go : ((j : Work) × IsWorkOf l u q.ready.scene q.ready.system j × (x : IsKnown new_outset j number m) × IsFirst x.phase) ⊎ IsScene m.world q.ready.scene → Keeps r
        go (inl t) = lines-keep-room (v most) most names (callers past-then) (λ c. makes_by past-then c) t.0 number m r t.2 (omega (arith, q.left)) first-keeps.1 room-for first-keeps.0 hs.reached few-sent
        go (inr i) = subst Keeps (sym (stops k m (delivering.none-due m.world q.ready.scene i q.ready.idle.mail))) first-keeps.0

    stock-then : HasStock names (callers past-then) (λ c. makes_by past-then c) through.next.scene
    stock-then = subst (HasStock names (callers past-then) (λ c. makes_by past-then c)) (same-scene r.world keeps.scene hs.scene keeps.stands hs.stands ∙ same-scene (forget r.world) hs.scene through.next.scene over.1 through.next.stands) keeps.stock

    -- Behind the line.

    settles : ((line_happens runs number l u).fault ≡ None) × HasSettled k (line_happens runs number l u) (settle k [] (line_happens runs number l u))
    settles = (go-on.fine, hs)

    next-number : number + 1 ≡ 1 + length past-then
    next-number = omega (arith, q.count, length-append q.past (l ∷ []))

    next : Known (number + 1) (forget (settle k [] (line_happens runs number l u)).world) rest
    next = record {
      past = past-then;
      whole = whole-then;
      count = next-number;
      left = omega (arith, q.left);
      ready = through.next;
      stock = stock-then;
      asked = ap asked_in along.lines ∙ asked-both u.shown r.shown ∙ (λ z. q.asked z ++ lines.answered d formed refl refl number u before l go-on.fine k hs column q.no-faults.0 q.fits.0 z) ∙ ap (λ n. asked_from 1 q.past ++ asking_in n l) q.count
          ∙ sym (asked-more 1 q.past l);
      settled = subst (EachLine IsSettled) (sym along.lines) (settling.both u.shown r.shown q.settled hs.shown);
      room = subst (EachLine HasRoom) (sym along.lines) (showing.both u.shown r.shown q.room keeps.shown);
      no-faults = q.no-faults.1;
      fits = q.fits.1;
      named = λ c t. q.named c (in-back c (clerk_in l) (named_in rest) t);
      pushes = subst (λ s. ArePushed (v most) 1 (number + 1) s (lines_in rest)) (ap (λ n. behind_line (v most) 1 n l (behind_lines (v most) 1 1 q.past none_yet)) q.count ∙ sym (fold-more (v most) 1 1 q.past l none_yet)) q.pushes.1;
      pieces = q.pieces ++ r.shown ∷ [];
      told = along.lines ∙ ap (λ l. l ++ r.shown) q.told ∙ ap (λ l. joined q.pieces ++ l) (sym (no-more r.shown)) ∙ sym (joined-both q.pieces (r.shown ∷ []));
      fates = rest_fates q.fates;
      all-left = each-rest q.fates q.all-left;
      run-is = q.run-is ∙ ap (ahead q.pieces) (line-more k number l column rest q.fates u q.all-left r (lines.carries d formed refl refl number u before l go-on.fine k hs column) hs.fault over.0)
          ∙ ap (λ ps. record (run_from k (number + 1) rest (rest_fates q.fates) (forget r.world)) { pieces = ps }) (sym (regroup q.pieces (r.shown ∷ []) (run_from k (number + 1) rest (rest_fates q.fates) (forget r.world)).pieces));
    }

  -- All lines.

  each : (number : ℕ) (u : World) (rest : List Read) → Known number u rest → EachSettles k number rest u × (n : ℕ) × (x : World) × Known n x []
  each number u [] q = (tt, number, u, q)
  each number u (unfit column ∷ rest) q = absurd q.no-faults.0
  each number u (reads l column ∷ rest) q =
      let s = settles number u l column rest q in
      let more = each (number + 1) (forget (settle k [] (line_happens runs number l u)).world) rest (next number u l column rest q) in
      ((s.0, s.1, more.0), more.1, more.2, more.3)

  all : EachSettles k 1 ls w × (n : ℕ) × (x : World) × Known n x []
  all = each 1 w ls begins

  -- the whole run shows the lines of the last world
  abbrev last : World
  last = all.2

  known : Known all.1 last []
  known = all.3

  ran-is : run_from k 1 ls fs w ≡ record { world = last; pieces = known.pieces ++ []; ending = Done }
  ran-is = known.run-is

  drill-is : (drill ls fs d).0 ≡ last.shown
  drill-is = ap (λ (o : Result World Counter). (drill_in ls fs o).0) opened ∙ ap (λ (x : Ran). let y = close x.ending x in drills.joined y.pieces ++ last_line y.ending) (ran-is ∙ ap (λ ps. record { world = last; pieces = ps; ending = Done }) (no-more known.pieces))
      ∙ ap (λ (o : Option Server). let x : Ran = record { world = last; pieces = known.pieces; ending = Done } in let y : Ran = elim (elim o as (λ z. Bool) [ None ↦ true | Some s ↦ false ]) as (λ z. Ran) [ true ↦ last_restart x | false ↦ x ] in drills.joined y.pieces ++ last_line y.ending) known.ready.stands.server
      ∙ no-more (drills.joined known.pieces) ∙ same-joined known.pieces ∙ sym known.told
    where
      same-joined : (ps : List (List Shown)) → drills.joined ps ≡ joined ps
      same-joined [] = refl
      same-joined (p ∷ ps) = ap (λ l. p ++ l) (same-joined ps)

  pub complete : IsComplete (images (formatted most).volume) (lines_in ls) (drill ls fs (formatted most)).0 (drill ls fs (formatted most)).1
  complete =
      let ready = begins.ready in
      completes d formed refl refl w ready.scene opened ready.stands ready.idle ls fs fit script.faultless all-run all.0 (subst (EachLine HasRoom) (sym drill-is) known.room)

pub plain-scripts-complete : PlainScriptsAreComplete
plain-scripts-complete most ls fs formed few fit all-run script = complete most formed opening.0 opening.1 ls fs few fit all-run script
  where
    opening : (w : World) × (open_world (formatted most) ≡ Ok w)
    opening = opens most
