-- Why a server ends so, from the parts of its work.
use Rattle.std.proofs.Common.{◌≡◌, ◌⊎◌, ◌≤◌, ℕ, Bool, true, false, List, [], ◌++◌, Option, Some, None, is_some, Result, Err, refl, sym, ◌∙◌, subst, inl, inr, arith}
use mathlib.Core.List.{IsPrefix}
use Rattle.ec_disk.specs.Disk.{Counts}
use Rattle.ec_disk.specs.Effects.{Counted}
use Rattle.ec_durable.specs.declared.state.Durable.{Durable}
use Rattle.ec_durable.specs.declared.record.Record.{Record}
use Rattle.ec_wire.specs.declared.msg.Msg.{Msg}
use Rattle.ec_protocol.specs.Server.{Serving, start}
use Rattle.ec_protocol.specs.declared.server.Server.{Server as State}
use Rattle.ec_protocol.specs.declared.server.Served.{Served}
use Rattle.ec_server.specs.Keepers.{Did, Hurts, SpendsNothing}
use Rattle.ec_server.specs.Servers.{standing, Does, Unstarted}
use Rattle.ec_server.specs.declared.server.Server.{Server}
use Rattle.ec_server.specs.declared.fault.ServerFault.{ServerFault}
use Rattle.ec_server.specs.declared.fault.ServerFault.TheVariants as fault
use Rattle.ec_servernode.specs.declared.step.Halt.{Halt}
use Rattle.ec_servernode.specs.declared.step.Halt.TheVariants as halt
use Rattle.ec_servernode.specs.declared.step.Step.{Step}
use Rattle.ec_servernode.specs.declared.state.Node.{Node}
use Rattle.ec_servernode.specs.Run.{number_of, halted, records, record_of}
use Rattle.ec_servernode.specs.Node.{queue_at, state_of, Chain, CountsUp}
use Rattle.ec_servernode.specs.TurnSteps.{RunsFrom, Finished}
use Rattle.ec_lock.specs.Steps.{Member, of}
use Rattle.ec_serve.specs.OfThreads.Goings.{served_later}
use Rattle.ec_serve.specs.Serve.{Outer, AllBack, RanOut, Spends, boxes_of}
use Rattle.ec_serve.specs.ServerRuns.{Tends, KeeperEnds, RanWhole, EndsAs, RanServer as Ran, RanFrom, EndsBy}
use Rattle.ec_serve.specs.Endings.{ending_of, unstarted}
use Rattle.ec_serve.specs.declared.ending.Ending.{Ending}
use Rattle.ec_serve.specs.declared.ending.Ending.TheVariants as ending
use Rattle.ec_serve.specs.declared.ending.Tended.{Tended}
use Rattle.ec_serve.specs.declared.ending.Tended.TheVariants as tended
use Rattle.ec_serve.proofs.Keepers.{starts_chain, starts_in_doubt, unstarted_in_doubt}
use Rattle.ec_base.proofs.OutsideLemmas.{rose_later}

pub has_some : {A : Type 0} (o : Option A) (b : Bool) → b ≡ is_some o → b ≡ true → (x : A) × (o ≡ Some x)
has_some None b is e = absurd (cc (sym is ∙ e))
has_some (Some x) b is e = (x, refl)

-- the whole list has the steps of each link's pass as the server's own pass knew them
back_later : (count : ℕ) (joined : List ℕ) (steps run : List Step) (old later : Outer) → IsPrefix steps run → ((n : ℕ) → Member n joined → of number_of n steps ≡ of number_of n run) → Tends count tended.Done joined steps old later → AllBack count run old later
back_later count joined steps run old later pre same t = record {
  links = t.0.links;
  number = t.0.number;
  ended = t.0.ended;
  bad = t.0.bad;
  passes = t.0.passes;
  distinct = t.0.distinct;
  own = served_later steps run t.0.passes t.0.links pre (λ n m. same n (t.1 n m)) t.0.own;
}

module _ {K : Type 0} (kept : K → Durable) (counts : K → Counts) (did breaks : K → Record → K → Type 0) where
  -- a keeper that nothing was done with
  pub keeper_same : (k : K) → KeeperEnds kept counts did breaks k k
  keeper_same k = record { records = []; doubt = (k, refl, inl refl); faults = omega arith; stops = omega arith }

  -- The shared server was ended.
  pub ends : (first : Node K) (run : List Step) (back : Option Server) (new : K) (h : Option Halt) (t : Tended) (count : ℕ) (is_back : Bool) (old later : Outer) (joined : List ℕ) (steps : List Step) → RunsFrom kept first run → Finished kept counts did breaks first run back new → h ≡ halted run
      → IsPrefix steps run → ((n : ℕ) → Member n joined → of number_of n steps ≡ of number_of n run) → Tends count t joined steps old later → (is_back ≡ true → (server : Server) × (back ≡ Some server)) → Ran kept counts did breaks (state_of kept first) (queue_at first.boxes.items) count (ending_of h is_back t) first.keeper new old later
  ends first run back new h t count is_back old later joined steps is_run finished is pre same tends has = (keeper_ends back finished, by h t is_back is tends has)
    where
      up_of : (b : Option Server) → Finished kept counts did breaks first run b new → CountsUp (halted run) (counts first.keeper) (counts new)
      up_of None f = f.1
      up_of (Some server) f = f.2

      keeper_ends : (b : Option Server) → Finished kept counts did breaks first run b new → KeeperEnds kept counts did breaks first.keeper new
      keeper_ends None f = record { records = records run; doubt = f.0; faults = f.1.faults; stops = f.1.stops }
      keeper_ends (Some server) f = record { records = records run; doubt = (new, f.1, inl refl); faults = f.2.faults; stops = f.2.stops }

      chain_of : (b : Option Server) (server : Server) → b ≡ Some server → Finished kept counts did breaks first run b new → Chain did (records run) first.keeper new
      chain_of None server e f = absurd (cc e)
      chain_of (Some s) server e f = f.1

      Goal : Ending → Type 0
      Goal e = EndsAs ((ran : RanWhole kept counts did breaks (state_of kept first) (queue_at first.boxes.items) [] first.keeper new) × AllBack count ran.run old later) (λ n. RanOut (state_of kept first) (queue_at first.boxes.items) n) (counts first.keeper).faults (counts new).faults old later e

      by : (h : Option Halt) (t : Tended) (is_back : Bool) → h ≡ halted run → Tends count t joined steps old later → (is_back ≡ true → (server : Server) × (back ≡ Some server)) → Goal (ending_of h is_back t)
      by (Some halt.DiskFailed) t is_back is tends has = (up_of back finished).failed (sym is)
      by (Some halt.DiskStopped) t is_back is tends has = tt
      by (Some (halt.Spent n)) t is_back is tends has = record { run = run; is_run = is_run; spent = sym is }
      by None tended.Done true is tends has =
          let some = has refl in
          (record { run = run; is_run = is_run; up = sym is; chain = chain_of back some.0 some.1 finished }, back_later count joined steps run old later pre same tends)
      by None tended.NetFailed true is tends has = tends
      by None tended.NotStarted true is tends has = tends
      by None tended.Cut true is tends has = tt
      by None t false is tends has = tt

  -- The same from the start of the server on.
  pub started : (st : Serving) (old mid new : K) (server : Server) (served : Served) (count : ℕ) (e : Ending) (links later : Outer) → Does st (kept mid) server served → Did did served.rec old mid
      → (counts old).faults ≤ (counts mid).faults → (counts old).stops ≤ (counts mid).stops → RanFrom kept counts did breaks server served.sent count e mid new links later
      → KeeperEnds kept counts did breaks old new
      × EndsAs ((ran : RanWhole kept counts did breaks st.server (boxes_of st.sent) (record_of st.rec) old new) × AllBack count ran.run links later) (λ n. (st.spent ≡ Some n) ⊎ RanOut st.server (boxes_of st.sent) n) (counts old).faults (counts new).faults links later e
  started st old mid new server served count e links later does did_so faults stops ran =
      subst (λ (s : Serving). KeeperEnds kept counts did breaks old new
      × EndsAs ((ran : RanWhole kept counts did breaks s.server (boxes_of s.sent) (record_of s.rec) old new) × AllBack count ran.run links later) (λ n. (s.spent ≡ Some n) ⊎ RanOut s.server (boxes_of s.sent) n) (counts old).faults (counts new).faults links later e) (sym does) (
        record {
          records = record_of served.rec ++ ran.0.records;
          doubt = starts_in_doubt did breaks served.rec ran.0.records old mid new did_so ran.0.doubt;
          faults = (let more = ran.0.faults in omega (arith, more, faults));
          stops = (let more = ran.0.stops in omega (arith, more, stops));
        },
        by e ran.1,
      )
    where
      s0 : State
      s0 = standing (kept mid) server

      Old : Ending → Type 0
      Old e = EndsAs ((ran : RanWhole kept counts did breaks s0 (boxes_of served.sent) [] mid new) × AllBack count ran.run links later) (λ n. RanOut s0 (boxes_of served.sent) n) (counts mid).faults (counts new).faults links later e

      New : Ending → Type 0
      New e = EndsAs ((ran : RanWhole kept counts did breaks s0 (boxes_of served.sent) (record_of served.rec) old new) × AllBack count ran.run links later) (λ n. (None ≡ Some n) ⊎ RanOut s0 (boxes_of served.sent) n) (counts old).faults (counts new).faults links later e

      by : (e : Ending) → Old e → New e
      by ending.Done w = (record { run = w.0.run; is_run = w.0.is_run; up = w.0.up; chain = starts_chain did breaks served.rec (records w.0.run) old mid new did_so w.0.chain }, w.1)
      by ending.DiskFailed w = rose_later (counts old).faults (counts mid).faults (counts new).faults faults w
      by (ending.BadDisk place) w = w
      by ending.NetFailed w = w
      by ending.NoMemory w = w
      by ending.NotStarted w = w
      by (ending.Spent n) w = inr w

  -- A server that isn't started.
  pub not_started : (f : ServerFault) (r : Result (Server × Served) ServerFault) (old new : K) (count : ℕ) (links later : Outer) → r ≡ Err f → Unstarted f (start (kept old)) (kept old) (kept new) → Counted (counts old) (counts new) (r ≡ Err fault.DiskFailed) (r ≡ Err fault.DiskStopped)
      → Hurts SpendsNothing did breaks f (start (kept old)) old new → EndsBy kept counts did breaks count (unstarted f) old new links later
  not_started f r old new count links later is why counted hurts = (keeper_ends f hurts, by f is why)
    where
      keeper_ends : (f : ServerFault) → Hurts SpendsNothing did breaks f (start (kept old)) old new → KeeperEnds kept counts did breaks old new
      keeper_ends f hurts = record { records = []; doubt = unstarted_in_doubt did breaks f (start (kept old)) old new hurts; faults = counted.faults_later; stops = counted.stops_later }

      Goal : Ending → Type 0
      Goal e = EndsAs ((ran : RanWhole kept counts did breaks (start (kept old)).server (boxes_of (start (kept old)).sent) (record_of (start (kept old)).rec) old new) × AllBack count ran.run links later) (λ n. Spends (kept old) n) (counts old).faults (counts new).faults links later e

      by : (f : ServerFault) → r ≡ Err f → Unstarted f (start (kept old)) (kept old) (kept new) → Goal (unstarted f)
      by fault.DiskFailed is why = counted.failed is
      by fault.DiskStopped is why = tt
      by (fault.Spent n) is why = inl why.0
      by fault.NoMemory is why = tt

  -- The shared server was made of a server that was started.
  pub from_shared : (first : Node K) (server : Server) (k : K) (sent : List (ℕ × Msg)) (count : ℕ) (e : Ending) (new : K) (links later : Outer) → first.server ≡ server → first.keeper ≡ k → ((c : ℕ) → queue_at first.boxes.items c ≡ boxes_of sent c)
      → Ran kept counts did breaks (state_of kept first) (queue_at first.boxes.items) count e first.keeper new links later → RanFrom kept counts did breaks server sent count e k new links later
  from_shared first server k sent count e new links later is keeps boxes ran =
      let by_keeper : Ran kept counts did breaks (standing (kept k) first.server) (queue_at first.boxes.items) count e k new links later = subst (λ x. Ran kept counts did breaks (standing (kept x) first.server) (queue_at first.boxes.items) count e x new links later) keeps ran in
      let by_server : Ran kept counts did breaks (standing (kept k) server) (queue_at first.boxes.items) count e k new links later = subst (λ x. Ran kept counts did breaks (standing (kept k) x) (queue_at first.boxes.items) count e k new links later) is by_keeper in
      subst (λ q. Ran kept counts did breaks (standing (kept k) server) q count e k new links later) all by_server
    where
      all : queue_at first.boxes.items ≡ boxes_of sent
      all = λ i c. boxes c i
