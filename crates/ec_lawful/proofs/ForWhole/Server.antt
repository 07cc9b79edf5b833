-- All facts behind each step of a running server.
use Rattle.std.proofs.Common.{◌≡◌, refl, sym, ap, subst, ◌∙◌, inl, inr, arith, ◌≤◌, ◌||◌, ℕ, suc, Bool, true, false, length, List, [], ◌∷◌, ◌++◌, Option, Some, None, append-nil}
use Rattle.std.specs.Prelude.{is_some, Contains}
use Rattle.ec_base.specs.Tables.{at_or}
use Rattle.ec_history.specs.Placing.{watch}
use Rattle.ec_history.specs.declared.shown.Shown.{Shown}
use Rattle.ec_history.specs.declared.shown.Shown.TheVariants as show
use Rattle.ec_sessions.specs.declared.slot.Slot.{Slot}
use Rattle.ec_wire.specs.declared.msg.Msg.{Msg}
use Rattle.ec_durable.specs.Durable.{slot}
use Rattle.ec_durable.specs.declared.state.Durable.{Durable}
use Rattle.ec_durable.specs.declared.record.Record.{Record}
use Rattle.ec_durable.specs.declared.record.Record.TheVariants.{Batch, Open, End, Ids, Epoch}
use Rattle.ec_protocol.specs.Server.{Serving, end, take}
use Rattle.ec_protocol.specs.declared.server.Server.{Server}
use Rattle.ec_coherence.specs.System.{System, Ghost}
use Rattle.ec_coherence.specs.Stops.{RunsOn}
use Rattle.ec_coherence.specs.Steps.{Committed, open_session, end_lines, ended_line, record_lines, runs, serving_in}
use Rattle.ec_coherence.specs.CommitLaws.{AllAgree, StepStands}
use Rattle.ec_coherence.specs.Ends.{show_end}
use Rattle.ec_coherence.specs.Makes.{IsMade, Makes, beginning}
use Rattle.ec_coherence.proofs.TakesMaking.{end-stands, takes-any}
use Rattle.ec_lawful.proofs.OfClerkSteps.ForCalls.CallFrames.{served-calls, served-rest}
use Rattle.ec_lawful.specs.OfClerkSteps.Frames.{RecordMakes}
use Rattle.ec_lawful.proofs.OfClerkSteps.ForJoins.Records.{records-counts, records-cuts}
use Rattle.ec_lawful.proofs.OfClerkSteps.ForJoins.Steps.{step-most}
use Rattle.ec_lawful.proofs.OfClerkSteps.ForNames.Serving.{servers-keep}
use Rattle.ec_lawful.specs.OfClerkSteps.Frees.{FullsAgree}
use Rattle.ec_lawful.specs.OfClerkSteps.Fulls.{IsFullAt, AreFullAt}
use Rattle.ec_lawful.proofs.OfClerkSteps.ForNames.ZerosBehind.{records-keep}
use Rattle.ec_lawful.proofs.OfClerkSteps.ForNames.Served.{end-right, take-right}
use Rattle.ec_coherence.proofs.ForServer.Lists.{each-more}
use Rattle.ec_lawful.specs.Doubts.{ComesFromAny}
use Rattle.ec_lawful.specs.HeadlineLaws.{GoesBy, TellsAll}
use Rattle.ec_lawful.specs.FreshIds.{AreQuiet}
use Rattle.ec_lawful.proofs.ForWhole.FreshSteps.{record-fresh}
use Rattle.ec_lawful.proofs.ForWhole.LinesTell.{line-tells, quiet-tells}
use Rattle.ec_lawful.specs.Steps.{IsServed}
use Rattle.ec_lawful.specs.Whole.{Whole}
use Rattle.ec_lawful.proofs.ForWhole.Follows.{Moves, next-grows, record-moves}
use Rattle.ec_lawful.proofs.ForWhole.Stores.{frees-behind}

-- At most one line is shown by a record.
abbrev pub AreFew : List Shown → Type 0
AreFew ls = length ls ≤ 1

few-ends : (g : System) (c : ℕ) (o : Option Slot) → AreFew (end_lines g c o)
few-ends g c None = omega arith
few-ends g c (Some sl) = go sl.is_open
  where
    go : (b : Bool) → AreFew (elim b as (λ z. List Shown) [ true ↦ ended_line g c (sl.age).boot ∷ [] | false ↦ [] ])
    go true = omega arith
    go false = omega arith

pub few-lines : (g : System) (r : Option Record) → AreFew (record_lines g r)
few-lines g None = omega arith
few-lines g (Some (Batch c s b ops)) = omega arith
few-lines g (Some (Open c age s)) = few-ends g c (slot g.durable c)
few-lines g (Some (End c s)) = few-ends g c (slot g.durable c)
few-lines g (Some (Ids c s got x)) = omega arith
few-lines g (Some (Epoch e)) = omega arith

-- none is an answer
quiet-ends : (g : System) (c : ℕ) (o : Option Slot) → AreQuiet (end_lines g c o)
quiet-ends g c None = tt
quiet-ends g c (Some sl) = go sl.is_open (is_some ((watch c g.ghost.shown).open_start) || runs g c (sl.age).boot)
  where
    go : (x y : Bool) → AreQuiet (elim x as (λ z. List Shown) [ true ↦ elim y as (λ z. Shown) [ true ↦ show.Ended c ((watch c g.ghost.shown).undurable) | false ↦ show.Unseen c ] ∷ [] | false ↦ [] ])
    go false y = tt
    go true true = tt
    go true false = tt

pub quiet-lines : (g : System) (r : Option Record) → AreQuiet (record_lines g r)
quiet-lines g None = tt
quiet-lines g (Some (Batch c s b ops)) = tt
quiet-lines g (Some (Open c age s)) = quiet-ends g c (slot g.durable c)
quiet-lines g (Some (End c s)) = quiet-ends g c (slot g.durable c)
quiet-lines g (Some (Ids c s got x)) = tt
quiet-lines g (Some (Epoch e)) = tt

-- the lines go on to tell behind at most one
pub tells-on : (g h : System) → AllAgree g → AllAgree h → (ls : List Shown) → AreFew ls → GoesBy g h ls → TellsAll g → TellsAll h
tells-on g h a b [] few go t = quiet-tells g h go t
tells-on g h a b (s ∷ []) few go t = line-tells g h a b s go t
tells-on g h a b (s ∷ r ∷ ls) few go t = absurd (too-many (length ls) few)
  where
    too-many : (n : ℕ) → suc (suc n) ≤ 1 → ⊥
    too-many n p = omega (arith, p)

pub most-stays : (g : System) (r : Option Record) (d : Durable) → Committed g.durable r d → d.max_objects ≡ g.durable.max_objects
most-stays g None d q = ap (λ x. x.max_objects) q
most-stays g (Some r) d q = step-most r g.durable d q

-- A step of a running server.
module _ (g : System) (v : Server) (w : Whole g) (up : g.server ≡ Some v) where
  on : (v.durable ≡ g.durable) × (g.unshown ≡ None)
  on = subst (RunsOn g) up (w.all.0).stops.runs

  begins-in : beginning g v ≡ g
  begins-in = ap (λ d. record g { durable = d; server = Some v; pool = g.pool ++ [] }) on.0 ∙ ap (λ s. record g { server = s; pool = g.pool ++ [] }) (sym up) ∙ ap (λ p. record g { pool = p }) (append-nil g.pool)

  in-slot : (c : ℕ) (sl : Slot) → slot v.durable c ≡ Some sl → slot g.durable c ≡ Some sl
  in-slot c sl q = subst (λ d. slot d c ≡ Some sl) on.0 q

  to-record : (r : Option Record) (γ : Ghost) → Makes g v r γ → RecordMakes g r γ
  to-record None γ m = m
  to-record (Some (Batch c s b ops)) γ m = (m.0, in-slot c m.0 m.1, m.2, m.3, m.4)
  to-record (Some (End c s)) γ m = (m.0, in-slot c m.0 m.1, m.2, m.3, m.4 ∙ ap (λ x. show_end x c m.0) begins-in)
  to-record (Some (Open c age s)) γ (inl m) = inl (λ sl q. m.0 sl (subst (λ d. slot d c ≡ Some sl) (sym on.0) q), m.1)
  to-record (Some (Open c age s)) γ (inr m) = inr (m.0, in-slot c m.0 m.1, m.2, m.3 ∙ ap (λ x. open_session c age s (show_end x c m.0)) begins-in)
  to-record (Some (Ids c s got x)) γ m = m
  to-record (Some (Epoch e)) γ m = absurd m

  module _ (t : Serving) (γ : Ghost) (st : StepStands g t γ) (made : Makes g v t.rec γ) (full : FullsAgree (serving_in t γ g)) where
    abbrev h : System
    h = serving_in t γ g

    now : AllAgree h
    now = ((st.0).invariant, st.1, st.2, st.3)

    makes : RecordMakes g t.rec γ
    makes = to-record t.rec γ made

    moves : Moves g γ
    moves = record-moves g w.all t.rec t.server.durable γ (st.0).committed makes

    goes : GoesBy g h (record_lines g t.rec)
    goes = record { origin = refl; most = most-stays g t.rec t.server.durable (st.0).committed; shown = (st.0).shown; fresh = λ p le. ap (at_or 0 p) moves.fresh }

    pub whole-served : Whole h
    whole-served = record {
      all = now;
      calls = served-calls g w.all γ t st w.calls;
      rest = served-rest g w.all γ t st w.rest;
      orderly = record { each = w.orderly.each };
      names = servers-keep g v t γ w.all up st w.names made;
      zeros = records-keep g w.zeros t.server.durable (Some t.server) (g.pool ++ t.sent) t.rec γ (st.0).committed makes;
      frees = frees-behind g w.all t.server.durable (Some t.server) (g.pool ++ t.sent) γ (next-grows g w.all t.rec t.server.durable (st.0).committed) moves w.names w.frees;
      cuts = records-cuts g w.all t.server.durable (Some t.server) (g.pool ++ t.sent) w.cuts t.rec γ (st.0).committed makes now;
      counts = records-counts g w.all t.server.durable (Some t.server) (g.pool ++ t.sent) t.rec γ makes w.counts;
      fulls = full;
      doubts = subst (ComesFromAny h) (sym on.1) tt;
      shows = record {
        tells = tells-on g h w.all now (record_lines g t.rec) (few-lines g t.rec) goes w.shows.tells;
        fresh = record-fresh g h w.all now w.names (record_lines g t.rec)
            (record { quiet = quiet-lines g t.rec; origin = refl; first_boot = refl; next = next-grows g w.all t.rec t.server.durable (st.0).committed; shown = (st.0).shown; fresh = moves.fresh }) refl moves.given w.shows.fresh;
      };
    }

  pub takes-whole : (c : ℕ) (m : Msg) → Contains g.pool (c, m) → IsServed Whole g (take c m v)
  takes-whole c m p = by (takes-any g v w.all up c m p)
    where
      full : (γ : Ghost) → FullsAgree (serving_in (take c m v) γ g)
      full γ = let q = take-right g.durable.max_objects c m v (ap (λ d. d.max_objects) on.0) in
          subst (λ n. AreFullAt n (g.pool ++ (take c m v).sent)) (sym q.0) (each-more (λ x. IsFullAt g.durable.max_objects x.1) g.pool (take c m v).sent w.fulls q.1)

      by : IsMade g v (take c m v) → IsServed Whole g (take c m v)
      by (inl s) = inl s
      by (inr (γ, st, mk)) = inr (γ, st, whole-served (take c m v) γ st mk (full γ))

  pub ends-whole : (c : ℕ) → IsServed Whole g (end c v)
  ends-whole c = by (end-stands g v w.all up c)
    where
      full : (γ : Ghost) → FullsAgree (serving_in (end c v) γ g)
      full γ = let q = end-right g.durable.max_objects c v (ap (λ d. d.max_objects) on.0) in
          subst (λ n. AreFullAt n (g.pool ++ (end c v).sent)) (sym q.0) (each-more (λ x. IsFullAt g.durable.max_objects x.1) g.pool (end c v).sent w.fulls q.1)

      by : IsMade g v (end c v) → IsServed Whole g (end c v)
      by (inl s) = inl s
      by (inr (γ, st, mk)) = inr (γ, st, whole-served (end c v) γ st mk (full γ))
