-- Scripts in which the server stops.
use Rattle.std.specs.Prelude.{[], ◌∷◌, None, Some, codes}
use Rattle.ec_volume.specs.declared.image.Kind.TheVariants as kind
use Rattle.ec_plain.specs.declared.call.Call.TheVariants as call
use Rattle.ec_plain.specs.declared.call.Reply.TheVariants as reply
use Rattle.ec_plain.specs.declared.call.Refusal.TheVariants as no
use Rattle.ec_history.specs.declared.entry.Answer.TheVariants as answer
use Rattle.ec_history.specs.declared.shown.Shown.TheVariants.{Waits, Answered, Durable, Ended, Told, Stopped, Started}
use Rattle.ec_disk.specs.declared.disk.Choice.TheVariants as choice
use Rattle.ec_wire.specs.declared.msg.MsgKind.TheVariants as msg
use Rattle.ec_protocol.specs.declared.script.Line.TheVariants as line
use Rattle.ec_protocol.specs.World.{runs, stops_without, stops_with}
use Rattle.ec_protocol.specs.Drill.{reads}
use Rattle.ec_protocol.specs.Runs.{Run, A, B}

-- the server stops before the record of an fsync is whole, and the batch travels again
abbrev pub closed_gate : Run
closed_gate =
    record {
      lines =
          reads (line.Call A (call.Create (codes "f" ∷ []))) 10
          ∷ reads (line.Arm 3 choice.Old) 7
          ∷ reads (line.Call A (call.Fsync (codes "f" ∷ []))) 9
          ∷ reads line.Restart 1
          ∷ [];
      fates = [] ∷ [] ∷ (runs ∷ stops_without ∷ []) ∷ [];
      max_objects = 1024;
      shown =
          Waits 1 A (call.Create (codes "f" ∷ []))
          ∷ Answered 1 A (call.Create (codes "f" ∷ [])) (answer.Reply reply.Ok) (Some 1)
          ∷ Waits 3 A (call.Fsync (codes "f" ∷ []))
          ∷ Stopped
          ∷ Started
          ∷ Durable A (1 ∷ [])
          ∷ Answered 3 A (call.Fsync (codes "f" ∷ [])) (answer.Reply reply.Ok) None
          ∷ [];
      status = 0;
    }

-- the server stops behind the record of an fsync, and the restart finds it
abbrev pub behind_open_gate : Run
behind_open_gate =
    record {
      lines =
          reads (line.Call A (call.Create (codes "f" ∷ []))) 10
          ∷ reads (line.Arm 3 choice.New) 7
          ∷ reads (line.Call A (call.Fsync (codes "f" ∷ []))) 9
          ∷ reads line.Restart 1
          ∷ [];
      fates = [] ∷ [] ∷ (runs ∷ stops_with ∷ []) ∷ [];
      max_objects = 1024;
      shown =
          Waits 1 A (call.Create (codes "f" ∷ []))
          ∷ Answered 1 A (call.Create (codes "f" ∷ [])) (answer.Reply reply.Ok) (Some 1)
          ∷ Waits 3 A (call.Fsync (codes "f" ∷ []))
          ∷ Stopped
          ∷ Durable A (1 ∷ [])
          ∷ Started
          ∷ Answered 3 A (call.Fsync (codes "f" ∷ [])) (answer.Reply reply.Ok) None
          ∷ [];
      status = 0;
    }

-- a restart stops too, and the next one comes up
abbrev pub two_stops : Run
two_stops =
    record {
      lines =
          reads (line.Call A (call.Create (codes "f" ∷ []))) 10
          ∷ reads line.Stop 1
          ∷ reads (line.Arm 1 choice.Old) 7
          ∷ reads line.Restart 1
          ∷ reads line.Restart 1
          ∷ reads (line.Call A (call.Stat (codes "f" ∷ []))) 8
          ∷ [];
      fates = [] ∷ [] ∷ [] ∷ (stops_without ∷ []) ∷ [];
      max_objects = 1024;
      shown =
          Waits 1 A (call.Create (codes "f" ∷ []))
          ∷ Answered 1 A (call.Create (codes "f" ∷ [])) (answer.Reply reply.Ok) (Some 1)
          ∷ Stopped
          ∷ Stopped
          ∷ Started
          ∷ Answered 6 A (call.Stat (codes "f" ∷ [])) (answer.Reply (reply.Stat kind.File 420 0 0 0)) None
          ∷ [];
      status = 0;
    }

-- a repeated Restarted lets no old grant in
abbrev pub claimed_tokens : Run
claimed_tokens =
    record {
      lines =
          reads (line.Call A (call.Create (codes "f" ∷ []))) 10
          ∷ reads (line.Call B (call.Stat [])) 8
          ∷ reads line.Stop 1
          ∷ reads line.Restart 1
          ∷ reads (line.Call B (call.Read (codes "f" ∷ []) 0 1)) 13
          ∷ reads (line.Call A (call.Write (codes "f" ∷ []) 0 (codes "x"))) 14
          ∷ reads (line.Repeat B msg.Restarted 1) 20
          ∷ reads (line.Repeat B msg.Grant 2) 16
          ∷ reads (line.Call B (call.Read (codes "f" ∷ []) 0 1)) 13
          ∷ [];
      fates = [];
      max_objects = 1024;
      shown =
          Waits 1 A (call.Create (codes "f" ∷ []))
          ∷ Answered 1 A (call.Create (codes "f" ∷ [])) (answer.Reply reply.Ok) (Some 1)
          ∷ Waits 2 B (call.Stat [])
          ∷ Durable A (1 ∷ [])
          ∷ Answered 2 B (call.Stat []) (answer.Reply (reply.Stat kind.Dir 493 0 0 1)) None
          ∷ Stopped
          ∷ Started
          ∷ Waits 5 B (call.Read (codes "f" ∷ []) 0 1)
          ∷ Answered 5 B (call.Read (codes "f" ∷ []) 0 1) (answer.Reply (reply.Data [])) None
          ∷ Waits 6 A (call.Write (codes "f" ∷ []) 0 (codes "x"))
          ∷ Answered 6 A (call.Write (codes "f" ∷ []) 0 (codes "x")) (answer.Reply reply.Ok) (Some 2)
          ∷ Waits 9 B (call.Read (codes "f" ∷ []) 0 1)
          ∷ Durable A (2 ∷ [])
          ∷ Answered 9 B (call.Read (codes "f" ∷ []) 0 1) (answer.Reply (reply.Data (codes "x"))) None
          ∷ [];
      status = 0;
    }

-- behind a restart no want is served before each open session has claimed or was ended
abbrev pub ended_behind_restart : Run
ended_behind_restart =
    record {
      lines =
          reads (line.Call A (call.Create (codes "f" ∷ []))) 10
          ∷ reads (line.Call A call.Sync) 3
          ∷ reads (line.Call B (call.Write (codes "f" ∷ []) 0 (codes "x"))) 14
          ∷ reads (line.Cut B) 5
          ∷ reads line.Stop 1
          ∷ reads line.Restart 1
          ∷ reads (line.Call A (call.Stat (codes "f" ∷ []))) 8
          ∷ reads (line.End B) 5
          ∷ reads (line.Uncut B) 7
          ∷ reads (line.Call B (call.Stat (codes "f" ∷ []))) 8
          ∷ [];
      fates = [];
      max_objects = 1024;
      shown =
          Waits 1 A (call.Create (codes "f" ∷ []))
          ∷ Answered 1 A (call.Create (codes "f" ∷ [])) (answer.Reply reply.Ok) (Some 1)
          ∷ Waits 2 A call.Sync
          ∷ Durable A (1 ∷ [])
          ∷ Answered 2 A call.Sync (answer.Reply reply.Ok) None
          ∷ Waits 3 B (call.Write (codes "f" ∷ []) 0 (codes "x"))
          ∷ Answered 3 B (call.Write (codes "f" ∷ []) 0 (codes "x")) (answer.Reply reply.Ok) (Some 1)
          ∷ Stopped
          ∷ Started
          ∷ Waits 7 A (call.Stat (codes "f" ∷ []))
          ∷ Ended B (1 ∷ [])
          ∷ Answered 7 A (call.Stat (codes "f" ∷ [])) (answer.Reply (reply.Stat kind.File 420 0 0 0)) None
          ∷ Told B (1 ∷ [])
          ∷ Waits 10 B (call.Stat (codes "f" ∷ []))
          ∷ Answered 10 B (call.Stat (codes "f" ∷ [])) (answer.Lost (1 ∷ [])) None
          ∷ [];
      status = 0;
    }

-- a session's end is in doubt when the server stops, and the restart finds it
abbrev pub found_at_restart : Run
found_at_restart =
    record {
      lines =
          reads (line.Call A (call.Create (codes "f" ∷ []))) 10
          ∷ reads (line.Arm 4 choice.New) 7
          ∷ reads (line.End A) 5
          ∷ reads line.Restart 1
          ∷ reads (line.Call A (call.Stat (codes "f" ∷ []))) 8
          ∷ reads (line.Call A (call.Stat (codes "f" ∷ []))) 8
          ∷ [];
      fates = [] ∷ [] ∷ (stops_with ∷ []) ∷ [];
      max_objects = 1024;
      shown =
          Waits 1 A (call.Create (codes "f" ∷ []))
          ∷ Answered 1 A (call.Create (codes "f" ∷ [])) (answer.Reply reply.Ok) (Some 1)
          ∷ Stopped
          ∷ Ended A (1 ∷ [])
          ∷ Started
          ∷ Told A (1 ∷ [])
          ∷ Waits 5 A (call.Stat (codes "f" ∷ []))
          ∷ Answered 5 A (call.Stat (codes "f" ∷ [])) (answer.Lost (1 ∷ [])) None
          ∷ Answered 6 A (call.Stat (codes "f" ∷ [])) (answer.Reply (reply.Refused (no.NotFound 1))) None
          ∷ [];
      status = 0;
    }
