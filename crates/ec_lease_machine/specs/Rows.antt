-- Worked scripts, one for each rule of leases.
use Rattle.std.specs.Prelude.{[], ◌∷◌, None, Some, codes}
use Rattle.ec_volume.specs.declared.image.Kind.TheVariants as kind
use Rattle.ec_plain.specs.declared.call.Call.TheVariants as call
use Rattle.ec_plain.specs.declared.call.Reply.TheVariants as reply
use Rattle.ec_plain.specs.declared.call.Refusal.TheVariants as no
use Rattle.ec_history.specs.declared.entry.Answer.TheVariants as answer
use Rattle.ec_history.specs.declared.shown.Shown.TheVariants.{Waits, Answered, Durable, Ended, Told, Crashed, Stopped, Started, Nothing}
use Rattle.ec_wire.specs.declared.msg.MsgKind.TheVariants as msg
use Rattle.ec_protocol.specs.declared.script.Line.TheVariants as line
use Rattle.ec_protocol.specs.Runs.{A, B}
use Rattle.ec_lease_machine.specs.declared.world.LeaseShown.TheVariants.{Line, Held}
use Rattle.ec_lease_machine.specs.declared.script.LeaseLine.TheVariants.{Drill, Tick, Skew, Grant, Hand}
use Rattle.ec_lease_machine.specs.Drill.{reads}
use Rattle.ec_lease_machine.specs.Runs.{LeaseRun}

-- a session ends once its moment is past on each clock that may be, and not before
abbrev pub late_end : LeaseRun
late_end =
    record {
      length = 100;
      most = 10;
      lines =
          reads (Drill (line.Call A (call.Create (codes "f" ∷ [])))) 10 ∷ reads (Drill (line.Cut A)) 5
          ∷ reads (Drill (line.Call A (call.Write (codes "f" ∷ []) 0 (codes "x")))) 14 ∷ reads (Drill (line.End A)) 5 ∷ reads (Tick 109) 6
          ∷ reads (Drill (line.Call A (call.Read (codes "f" ∷ []) 0 9))) 13 ∷ reads (Drill (line.End A)) 5 ∷ reads (Tick 1) 6
          ∷ reads (Drill (line.End A)) 5 ∷ reads (Drill (line.Call B (call.Stat (codes "f" ∷ [])))) 8 ∷ reads (Drill (line.Uncut A)) 7
          ∷ reads (Drill (line.Call A (call.Stat (codes "f" ∷ [])))) 8 ∷ [];
      shown =
          Line (Waits 1 A (call.Create (codes "f" ∷ [])))
          ∷ Line (Answered 1 A (call.Create (codes "f" ∷ [])) (answer.Reply reply.Ok) (Some 1))
          ∷ Line (Answered 3 A (call.Write (codes "f" ∷ []) 0 (codes "x")) (answer.Reply reply.Ok) (Some 2)) ∷ Held A 110
          ∷ Line (Waits 6 A (call.Read (codes "f" ∷ []) 0 9)) ∷ Held A 110 ∷ Line (Ended A (1 ∷ 2 ∷ []))
          ∷ Line (Waits 10 B (call.Stat (codes "f" ∷ [])))
          ∷ Line (Answered 10 B (call.Stat (codes "f" ∷ [])) (answer.Reply (reply.Refused (no.NotFound 1))) None)
          ∷ Line (Told A (1 ∷ 2 ∷ [])) ∷ Line (Answered 6 A (call.Read (codes "f" ∷ []) 0 9) (answer.Lost (1 ∷ [])) None)
          ∷ Line (Answered 12 A (call.Stat (codes "f" ∷ [])) (answer.Reply (reply.Refused (no.NotFound 1))) None) ∷ [];
      status = 0;
    }

-- a Lease comes late, and the queued call begins
abbrev pub late_lease : LeaseRun
late_lease =
    record {
      length = 100;
      most = 10;
      lines =
          reads (Drill (line.Call A (call.Create (codes "f" ∷ [])))) 10 ∷ reads (Drill (line.Cut A)) 5 ∷ reads (Tick 60) 6
          ∷ reads (Grant A) 7 ∷ reads (Tick 50) 6 ∷ reads (Drill (line.Call A (call.Touch (codes "f" ∷ []) 7))) 12
          ∷ reads (Drill (line.End A)) 5 ∷ reads (Hand A 2) 8 ∷ [];
      shown =
          Line (Waits 1 A (call.Create (codes "f" ∷ [])))
          ∷ Line (Answered 1 A (call.Create (codes "f" ∷ [])) (answer.Reply reply.Ok) (Some 1))
          ∷ Line (Waits 6 A (call.Touch (codes "f" ∷ []) 7)) ∷ Held A 170
          ∷ Line (Answered 6 A (call.Touch (codes "f" ∷ []) 7) (answer.Reply reply.Ok) (Some 2)) ∷ [];
      status = 0;
    }

-- without faults a run is that of a drill
abbrev pub no_fault : LeaseRun
no_fault =
    record {
      length = 100;
      most = 10;
      lines =
          reads (Drill (line.Call A (call.Create (codes "f" ∷ [])))) 10
          ∷ reads (Drill (line.Call A (call.Write (codes "f" ∷ []) 0 (codes "hi")))) 14
          ∷ reads (Drill (line.Call A (call.Read (codes "f" ∷ []) 0 9))) 13 ∷ [];
      shown =
          Line (Waits 1 A (call.Create (codes "f" ∷ [])))
          ∷ Line (Answered 1 A (call.Create (codes "f" ∷ [])) (answer.Reply reply.Ok) (Some 1))
          ∷ Line (Answered 2 A (call.Write (codes "f" ∷ []) 0 (codes "hi")) (answer.Reply reply.Ok) (Some 2))
          ∷ Line (Answered 3 A (call.Read (codes "f" ∷ []) 0 9) (answer.Reply (reply.Data (codes "hi"))) None) ∷ [];
      status = 0;
    }

-- a clerk that didn't take its session isn't held, and answers what needs none behind the end of that session
abbrev pub no_session : LeaseRun
no_session =
    record {
      length = 100;
      most = 10;
      lines =
          reads (Drill (line.Cut A)) 5 ∷ reads (Drill (line.Call A (call.Stat []))) 8 ∷ reads (Drill (line.Deliver A msg.Hello 1)) 17
          ∷ reads (Drill (line.End A)) 5 ∷ reads (Drill (line.Call A call.Sync)) 3 ∷ reads (Drill (line.Call A (call.Remove []))) 10
          ∷ reads (Drill (line.Uncut A)) 7 ∷ reads (Drill (line.Call A (call.Stat []))) 8 ∷ [];
      shown =
          Line (Waits 2 A (call.Stat [])) ∷ Line (Ended A []) ∷ Line (Answered 5 A call.Sync (answer.Reply reply.Ok) None)
          ∷ Line (Answered 6 A (call.Remove []) (answer.Reply (reply.Refused no.Root)) None) ∷ Line (Told A [])
          ∷ Line (Answered 2 A (call.Stat []) (answer.Reply (reply.Stat kind.Dir 493 0 0 0)) None)
          ∷ Line (Answered 8 A (call.Stat []) (answer.Reply (reply.Stat kind.Dir 493 0 0 0)) None) ∷ [];
      status = 0;
    }

-- a slow clock, and a fast one
abbrev pub slow_clock : LeaseRun
slow_clock =
    record {
      length = 100;
      most = 10;
      lines =
          reads (Drill (line.Call A (call.Create (codes "f" ∷ [])))) 10 ∷ reads (Drill (line.Cut A)) 5 ∷ reads (Skew A 0) 8
          ∷ reads (Tick 109) 6 ∷ reads (Drill (line.Call A (call.Write (codes "f" ∷ []) 0 (codes "x")))) 14 ∷ reads (Drill (line.End A)) 5
          ∷ reads (Skew A 20) 8 ∷ reads (Drill (line.Call A (call.Read (codes "f" ∷ []) 0 9))) 13 ∷ reads (Skew A 0) 8 ∷ reads (Tick 1) 6
          ∷ reads (Drill (line.Call A (call.Stat (codes "f" ∷ [])))) 8 ∷ reads (Drill (line.End A)) 5 ∷ reads (Drill (line.Uncut A)) 7
          ∷ reads (Drill (line.Call A call.Sync)) 3 ∷ [];
      shown =
          Line (Waits 1 A (call.Create (codes "f" ∷ [])))
          ∷ Line (Answered 1 A (call.Create (codes "f" ∷ [])) (answer.Reply reply.Ok) (Some 1))
          ∷ Line (Answered 5 A (call.Write (codes "f" ∷ []) 0 (codes "x")) (answer.Reply reply.Ok) (Some 2)) ∷ Held A 110
          ∷ Line (Waits 8 A (call.Read (codes "f" ∷ []) 0 9))
          ∷ Line (Answered 8 A (call.Read (codes "f" ∷ []) 0 9) (answer.Reply (reply.Data (codes "x"))) None)
          ∷ Line (Waits 11 A (call.Stat (codes "f" ∷ []))) ∷ Line (Ended A (1 ∷ 2 ∷ [])) ∷ Line (Told A (1 ∷ 2 ∷ []))
          ∷ Line (Answered 11 A (call.Stat (codes "f" ∷ [])) (answer.Lost (1 ∷ [])) None)
          ∷ Line (Answered 14 A call.Sync (answer.Lost (1 ∷ 2 ∷ [])) None) ∷ [];
      status = 0;
    }

-- queued calls begin in order
abbrev pub first_queued : LeaseRun
first_queued =
    record {
      length = 100;
      most = 10;
      lines =
          reads (Drill (line.Call A (call.Create (codes "f" ∷ [])))) 10
          ∷ reads (Drill (line.Call A (call.Write (codes "f" ∷ []) 0 (codes "a")))) 14 ∷ reads (Drill (line.Cut A)) 5 ∷ reads (Tick 60) 6
          ∷ reads (Grant A) 7 ∷ reads (Tick 50) 6 ∷ reads (Drill (line.Call A (call.Write (codes "f" ∷ []) 0 (codes "x")))) 14
          ∷ reads (Drill (line.Call A (call.Read (codes "f" ∷ []) 0 9))) 13 ∷ reads (Drill (line.Call A (call.Touch (codes "f" ∷ []) 7))) 12
          ∷ reads (Hand A 2) 8 ∷ [];
      shown =
          Line (Waits 1 A (call.Create (codes "f" ∷ [])))
          ∷ Line (Answered 1 A (call.Create (codes "f" ∷ [])) (answer.Reply reply.Ok) (Some 1))
          ∷ Line (Answered 2 A (call.Write (codes "f" ∷ []) 0 (codes "a")) (answer.Reply reply.Ok) (Some 2))
          ∷ Line (Waits 7 A (call.Write (codes "f" ∷ []) 0 (codes "x"))) ∷ Line (Waits 8 A (call.Read (codes "f" ∷ []) 0 9))
          ∷ Line (Waits 9 A (call.Touch (codes "f" ∷ []) 7))
          ∷ Line (Answered 7 A (call.Write (codes "f" ∷ []) 0 (codes "x")) (answer.Reply reply.Ok) (Some 3))
          ∷ Line (Answered 8 A (call.Read (codes "f" ∷ []) 0 9) (answer.Reply (reply.Data (codes "x"))) None)
          ∷ Line (Answered 9 A (call.Touch (codes "f" ∷ []) 7) (answer.Reply reply.Ok) (Some 4)) ∷ [];
      status = 0;
    }

-- queued calls vanish in a crash
abbrev pub lost_queue : LeaseRun
lost_queue =
    record {
      length = 100;
      most = 10;
      lines =
          reads (Drill (line.Call A (call.Create (codes "f" ∷ [])))) 10 ∷ reads (Drill (line.Cut A)) 5 ∷ reads (Tick 200) 6
          ∷ reads (Drill (line.Call A (call.Write (codes "f" ∷ []) 0 (codes "x")))) 14
          ∷ reads (Drill (line.Call A (call.Stat (codes "f" ∷ [])))) 8 ∷ reads (Drill (line.Crash A)) 7 ∷ reads (Drill (line.End A)) 5
          ∷ reads (Drill (line.Uncut A)) 7 ∷ reads (Drill (line.Call B (call.Stat (codes "f" ∷ [])))) 8
          ∷ reads (Drill (line.Call A (call.Stat (codes "f" ∷ [])))) 8 ∷ [];
      shown =
          Line (Waits 1 A (call.Create (codes "f" ∷ [])))
          ∷ Line (Answered 1 A (call.Create (codes "f" ∷ [])) (answer.Reply reply.Ok) (Some 1))
          ∷ Line (Waits 4 A (call.Write (codes "f" ∷ []) 0 (codes "x"))) ∷ Line (Waits 5 A (call.Stat (codes "f" ∷ []))) ∷ Line (Crashed A)
          ∷ Line (Ended A (1 ∷ [])) ∷ Line (Waits 9 B (call.Stat (codes "f" ∷ [])))
          ∷ Line (Answered 9 B (call.Stat (codes "f" ∷ [])) (answer.Reply (reply.Refused (no.NotFound 1))) None)
          ∷ Line (Waits 10 A (call.Stat (codes "f" ∷ [])))
          ∷ Line (Answered 10 A (call.Stat (codes "f" ∷ [])) (answer.Reply (reply.Refused (no.NotFound 1))) None) ∷ [];
      status = 0;
    }

-- a restart notes open sessions anew
abbrev pub noted_again : LeaseRun
noted_again =
    record {
      length = 100;
      most = 10;
      lines =
          reads (Drill (line.Call A (call.Create (codes "f" ∷ [])))) 10 ∷ reads (Drill (line.Call B (call.Stat (codes "f" ∷ [])))) 8
          ∷ reads (Drill (line.Cut A)) 5 ∷ reads (Tick 90) 6 ∷ reads (Drill line.Stop) 1
          ∷ reads (Drill (line.Call A (call.Write (codes "f" ∷ []) 0 (codes "x")))) 14 ∷ reads (Tick 30) 6 ∷ reads (Grant A) 7
          ∷ reads (Drill line.Restart) 1 ∷ reads (Drill (line.End A)) 5 ∷ reads (Tick 109) 6 ∷ reads (Drill (line.End A)) 5
          ∷ reads (Tick 1) 6 ∷ reads (Drill (line.End A)) 5 ∷ reads (Hand A 1) 8
          ∷ reads (Drill (line.Call A (call.Stat (codes "f" ∷ [])))) 8 ∷ reads (Drill (line.Uncut A)) 7
          ∷ reads (Drill (line.Call A (call.Stat (codes "f" ∷ [])))) 8 ∷ [];
      shown =
          Line (Waits 1 A (call.Create (codes "f" ∷ [])))
          ∷ Line (Answered 1 A (call.Create (codes "f" ∷ [])) (answer.Reply reply.Ok) (Some 1))
          ∷ Line (Waits 2 B (call.Stat (codes "f" ∷ []))) ∷ Line (Durable A (1 ∷ []))
          ∷ Line (Answered 2 B (call.Stat (codes "f" ∷ [])) (answer.Reply (reply.Stat kind.File 420 0 0 0)) None) ∷ Line Stopped
          ∷ Line (Waits 6 A (call.Write (codes "f" ∷ []) 0 (codes "x"))) ∷ Line Nothing ∷ Line Started ∷ Held A 230 ∷ Held A 230
          ∷ Line (Ended A []) ∷ Line Nothing ∷ Line (Waits 16 A (call.Stat (codes "f" ∷ []))) ∷ Line (Told A [])
          ∷ Line (Answered 16 A (call.Stat (codes "f" ∷ [])) (answer.Reply (reply.Stat kind.File 420 0 0 0)) None)
          ∷ Line (Answered 6 A (call.Write (codes "f" ∷ []) 0 (codes "x")) (answer.Reply reply.Ok) (Some 2))
          ∷ Line (Answered 18 A (call.Stat (codes "f" ∷ [])) (answer.Reply (reply.Stat kind.File 420 0 0 1)) None) ∷ [];
      status = 0;
    }

-- a recall isn't delivered to a held clerk
abbrev pub kept_recall : LeaseRun
kept_recall =
    record {
      length = 100;
      most = 10;
      lines =
          reads (Drill (line.Call A (call.Create (codes "f" ∷ [])))) 10 ∷ reads (Drill (line.Cut A)) 5 ∷ reads (Tick 100) 6
          ∷ reads (Drill (line.Call A (call.Stat (codes "f" ∷ [])))) 8 ∷ reads (Drill (line.Call B (call.Stat (codes "f" ∷ [])))) 8
          ∷ reads (Drill (line.Deliver A msg.Recall 1)) 18 ∷ reads (Drill (line.Uncut A)) 7
          ∷ reads (Drill (line.Call B (call.Stat (codes "f" ∷ [])))) 8 ∷ reads (Drill (line.Call A call.Sync)) 3 ∷ [];
      shown =
          Line (Waits 1 A (call.Create (codes "f" ∷ [])))
          ∷ Line (Answered 1 A (call.Create (codes "f" ∷ [])) (answer.Reply reply.Ok) (Some 1))
          ∷ Line (Waits 4 A (call.Stat (codes "f" ∷ []))) ∷ Line (Waits 5 B (call.Stat (codes "f" ∷ []))) ∷ Line Nothing
          ∷ Line (Answered 4 A (call.Stat (codes "f" ∷ [])) (answer.Reply (reply.Stat kind.File 420 0 0 0)) None)
          ∷ Line (Durable A (1 ∷ []))
          ∷ Line (Answered 5 B (call.Stat (codes "f" ∷ [])) (answer.Reply (reply.Stat kind.File 420 0 0 0)) None)
          ∷ Line (Answered 8 B (call.Stat (codes "f" ∷ [])) (answer.Reply (reply.Stat kind.File 420 0 0 0)) None)
          ∷ Line (Answered 9 A call.Sync (answer.Reply reply.Ok) None) ∷ [];
      status = 0;
    }
