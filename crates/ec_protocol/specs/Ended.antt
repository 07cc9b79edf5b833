-- Scripts in which sessions end.
use Rattle.std.specs.Prelude.{[], ◌∷◌, None, Some, codes}
use Rattle.ec_volume.specs.declared.image.Kind.TheVariants as kind
use Rattle.ec_plain.specs.declared.call.Call.TheVariants as call
use Rattle.ec_plain.specs.declared.call.Reply.TheVariants as reply
use Rattle.ec_plain.specs.declared.call.Refusal.TheVariants as no
use Rattle.ec_history.specs.declared.entry.Answer.TheVariants as answer
use Rattle.ec_history.specs.declared.shown.Shown.TheVariants.{Waits, Answered, Durable, Ended, Unseen, Told, Crashed}
use Rattle.ec_wire.specs.declared.msg.MsgKind.TheVariants as msg
use Rattle.ec_protocol.specs.declared.script.Line.TheVariants as line
use Rattle.ec_protocol.specs.Drill.{reads}
use Rattle.ec_protocol.specs.Runs.{Run, A, B}

-- a new start sees that the create of the one before it is lost
abbrev pub lost_create : Run
lost_create =
    record {
      lines =
          reads (line.Call A (call.Create (codes "f" ∷ []))) 10
          ∷ reads (line.Crash A) 7
          ∷ reads (line.Call A (call.Stat (codes "f" ∷ []))) 8
          ∷ [];
      fates = [];
      max_objects = 1024;
      shown =
          Waits 1 A (call.Create (codes "f" ∷ []))
          ∷ Answered 1 A (call.Create (codes "f" ∷ [])) (answer.Reply reply.Ok) (Some 1)
          ∷ Crashed A
          ∷ Waits 3 A (call.Stat (codes "f" ∷ []))
          ∷ Ended A (1 ∷ [])
          ∷ Answered 3 A (call.Stat (codes "f" ∷ [])) (answer.Reply (reply.Refused (no.NotFound 1))) None
          ∷ [];
      status = 0;
    }

-- a new start sees that the create and the write of the one before it are lost
abbrev pub lost_write : Run
lost_write =
    record {
      lines =
          reads (line.Call A (call.Create (codes "f" ∷ []))) 10
          ∷ reads (line.Call A (call.Write (codes "f" ∷ []) 0 (codes "hi"))) 14
          ∷ reads (line.Crash A) 7
          ∷ reads (line.Call A (call.Read (codes "f" ∷ []) 0 9)) 13
          ∷ [];
      fates = [];
      max_objects = 1024;
      shown =
          Waits 1 A (call.Create (codes "f" ∷ []))
          ∷ Answered 1 A (call.Create (codes "f" ∷ [])) (answer.Reply reply.Ok) (Some 1)
          ∷ Answered 2 A (call.Write (codes "f" ∷ []) 0 (codes "hi")) (answer.Reply reply.Ok) (Some 2)
          ∷ Crashed A
          ∷ Waits 4 A (call.Read (codes "f" ∷ []) 0 9)
          ∷ Ended A (1 ∷ 2 ∷ [])
          ∷ Answered 4 A (call.Read (codes "f" ∷ []) 0 9) (answer.Reply (reply.Refused (no.NotFound 1))) None
          ∷ [];
      status = 0;
    }

-- a session ends while its clerk is cut off and answers from what it holds
abbrev pub late_read : Run
late_read =
    record {
      lines =
          reads (line.Call A (call.Create (codes "f" ∷ []))) 10
          ∷ reads (line.Call A (call.Write (codes "f" ∷ []) 0 (codes "one"))) 14
          ∷ reads (line.Call A call.Sync) 3
          ∷ reads (line.Cut A) 5
          ∷ reads (line.Call A (call.Write (codes "f" ∷ []) 0 (codes "two"))) 14
          ∷ reads (line.Call A (call.Touch (codes "f" ∷ []) 7)) 12
          ∷ reads (line.End A) 5
          ∷ reads (line.Call B (call.Write (codes "f" ∷ []) 0 (codes "six"))) 14
          ∷ reads (line.Call A (call.Read (codes "f" ∷ []) 0 9)) 13
          ∷ reads (line.Uncut A) 7
          ∷ reads (line.Call A (call.Stat (codes "f" ∷ []))) 8
          ∷ reads (line.Call A (call.Stat (codes "f" ∷ []))) 8
          ∷ [];
      fates = [];
      max_objects = 1024;
      shown =
          Waits 1 A (call.Create (codes "f" ∷ []))
          ∷ Answered 1 A (call.Create (codes "f" ∷ [])) (answer.Reply reply.Ok) (Some 1)
          ∷ Answered 2 A (call.Write (codes "f" ∷ []) 0 (codes "one")) (answer.Reply reply.Ok) (Some 2)
          ∷ Waits 3 A call.Sync
          ∷ Durable A (1 ∷ 2 ∷ [])
          ∷ Answered 3 A call.Sync (answer.Reply reply.Ok) None
          ∷ Answered 5 A (call.Write (codes "f" ∷ []) 0 (codes "two")) (answer.Reply reply.Ok) (Some 3)
          ∷ Answered 6 A (call.Touch (codes "f" ∷ []) 7) (answer.Reply reply.Ok) (Some 4)
          ∷ Ended A (3 ∷ 4 ∷ [])
          ∷ Waits 8 B (call.Write (codes "f" ∷ []) 0 (codes "six"))
          ∷ Answered 8 B (call.Write (codes "f" ∷ []) 0 (codes "six")) (answer.Reply reply.Ok) (Some 1)
          ∷ Answered 9 A (call.Read (codes "f" ∷ []) 0 9) (answer.Reply (reply.Data (codes "two"))) None
          ∷ Told A (3 ∷ 4 ∷ [])
          ∷ Waits 11 A (call.Stat (codes "f" ∷ []))
          ∷ Durable B (1 ∷ [])
          ∷ Answered 11 A (call.Stat (codes "f" ∷ [])) (answer.Lost (3 ∷ 4 ∷ [])) None
          ∷ Answered 12 A (call.Stat (codes "f" ∷ [])) (answer.Reply (reply.Stat kind.File 420 0 0 3)) None
          ∷ [];
      status = 0;
    }

-- a lost rename gives back the old name, the victim and its bytes, and is reported on each operand
abbrev pub lost_rename : Run
lost_rename =
    record {
      lines =
          reads (line.Call A (call.Create (codes "f" ∷ []))) 10
          ∷ reads (line.Call A (call.Write (codes "f" ∷ []) 0 (codes "old"))) 14
          ∷ reads (line.Call A (call.Create (codes "g" ∷ []))) 10
          ∷ reads (line.Call A (call.Write (codes "g" ∷ []) 0 (codes "new"))) 14
          ∷ reads (line.Call A call.Sync) 3
          ∷ reads (line.Call A (call.Rename (codes "g" ∷ []) (codes "f" ∷ []))) 13
          ∷ reads (line.End A) 5
          ∷ reads (line.Call A (call.List [])) 8
          ∷ reads (line.Call A (call.Read (codes "f" ∷ []) 0 9)) 13
          ∷ reads (line.Call A (call.Read (codes "f" ∷ []) 0 9)) 13
          ∷ reads (line.Call A (call.Read (codes "g" ∷ []) 0 9)) 13
          ∷ reads (line.Call A (call.Read (codes "g" ∷ []) 0 9)) 13
          ∷ [];
      fates = [];
      max_objects = 1024;
      shown =
          Waits 1 A (call.Create (codes "f" ∷ []))
          ∷ Answered 1 A (call.Create (codes "f" ∷ [])) (answer.Reply reply.Ok) (Some 1)
          ∷ Answered 2 A (call.Write (codes "f" ∷ []) 0 (codes "old")) (answer.Reply reply.Ok) (Some 2)
          ∷ Answered 3 A (call.Create (codes "g" ∷ [])) (answer.Reply reply.Ok) (Some 3)
          ∷ Answered 4 A (call.Write (codes "g" ∷ []) 0 (codes "new")) (answer.Reply reply.Ok) (Some 4)
          ∷ Waits 5 A call.Sync
          ∷ Durable A (1 ∷ 2 ∷ 3 ∷ 4 ∷ [])
          ∷ Answered 5 A call.Sync (answer.Reply reply.Ok) None
          ∷ Answered 6 A (call.Rename (codes "g" ∷ []) (codes "f" ∷ [])) (answer.Reply reply.Ok) (Some 5)
          ∷ Ended A (5 ∷ [])
          ∷ Told A (5 ∷ [])
          ∷ Waits 8 A (call.List [])
          ∷ Answered 8 A (call.List []) (answer.Lost (5 ∷ [])) None
          ∷ Waits 9 A (call.Read (codes "f" ∷ []) 0 9)
          ∷ Answered 9 A (call.Read (codes "f" ∷ []) 0 9) (answer.Lost (5 ∷ [])) None
          ∷ Answered 10 A (call.Read (codes "f" ∷ []) 0 9) (answer.Reply (reply.Data (codes "old"))) None
          ∷ Waits 11 A (call.Read (codes "g" ∷ []) 0 9)
          ∷ Answered 11 A (call.Read (codes "g" ∷ []) 0 9) (answer.Lost (5 ∷ [])) None
          ∷ Answered 12 A (call.Read (codes "g" ∷ []) 0 9) (answer.Reply (reply.Data (codes "new"))) None
          ∷ [];
      status = 0;
    }

-- an answer of a second start, whose session has ended
abbrev pub second_start : Run
second_start =
    record {
      lines =
          reads (line.Call A (call.Create (codes "f" ∷ []))) 10
          ∷ reads (line.Crash A) 7
          ∷ reads (line.Cut A) 5
          ∷ reads (line.Call A (call.Stat [])) 8
          ∷ reads (line.Deliver A msg.Hello 2) 17
          ∷ reads (line.Deliver A msg.Opened 2) 18
          ∷ reads (line.Deliver A msg.Want 3) 16
          ∷ reads (line.End A) 5
          ∷ reads (line.Call B (call.Create (codes "g" ∷ []))) 10
          ∷ reads (line.Deliver A msg.Grant 3) 17
          ∷ [];
      fates = [];
      max_objects = 1024;
      shown =
          Waits 1 A (call.Create (codes "f" ∷ []))
          ∷ Answered 1 A (call.Create (codes "f" ∷ [])) (answer.Reply reply.Ok) (Some 1)
          ∷ Crashed A
          ∷ Waits 4 A (call.Stat [])
          ∷ Ended A (1 ∷ [])
          ∷ Ended A []
          ∷ Waits 9 B (call.Create (codes "g" ∷ []))
          ∷ Answered 9 B (call.Create (codes "g" ∷ [])) (answer.Reply reply.Ok) (Some 1)
          ∷ Answered 4 A (call.Stat []) (answer.Reply (reply.Stat kind.Dir 493 0 0 0)) None
          ∷ [];
      status = 0;
    }

-- a session ends before its clerk knows of it
abbrev pub ended_before_answer : Run
ended_before_answer =
    record {
      lines =
          reads (line.Cut A) 5
          ∷ reads (line.Call A (call.Stat [])) 8
          ∷ reads (line.Deliver A msg.Hello 1) 17
          ∷ reads (line.Drop A msg.Opened 1) 15
          ∷ reads (line.End A) 5
          ∷ reads (line.Uncut A) 7
          ∷ [];
      fates = [];
      max_objects = 1024;
      shown =
          Waits 2 A (call.Stat [])
          ∷ Ended A []
          ∷ Told A []
          ∷ Answered 2 A (call.Stat []) (answer.Reply (reply.Stat kind.Dir 493 0 0 0)) None
          ∷ [];
      status = 0;
    }

-- the session of a start ends that crashed before it showed one
abbrev pub unseen_start : Run
unseen_start =
    record {
      lines =
          reads (line.Cut A) 5
          ∷ reads (line.Call A (call.Stat [])) 8
          ∷ reads (line.Deliver A msg.Hello 1) 17
          ∷ reads (line.Crash A) 7
          ∷ reads (line.Uncut A) 7
          ∷ reads (line.Call A (call.Stat [])) 8
          ∷ [];
      fates = [];
      max_objects = 1024;
      shown =
          Waits 2 A (call.Stat [])
          ∷ Crashed A
          ∷ Waits 6 A (call.Stat [])
          ∷ Unseen A
          ∷ Answered 6 A (call.Stat []) (answer.Reply (reply.Stat kind.Dir 493 0 0 0)) None
          ∷ [];
      status = 0;
    }

-- the ids reserved for one clerk leave none for another one
abbrev pub reserved_ids : Run
reserved_ids =
    record {
      lines =
          reads (line.Call A (call.Create (codes "a" ∷ []))) 10
          ∷ reads (line.Call B (call.Create (codes "b" ∷ []))) 10
          ∷ reads (line.Call B (call.Create (codes "c" ∷ []))) 10
          ∷ reads (line.End A) 5
          ∷ reads (line.Call B (call.Create (codes "d" ∷ []))) 10
          ∷ [];
      fates = [];
      max_objects = 32;
      shown =
          Waits 1 A (call.Create (codes "a" ∷ []))
          ∷ Answered 1 A (call.Create (codes "a" ∷ [])) (answer.Reply reply.Ok) (Some 1)
          ∷ Waits 2 B (call.Create (codes "b" ∷ []))
          ∷ Durable A (1 ∷ [])
          ∷ Answered 2 B (call.Create (codes "b" ∷ [])) (answer.NoRoom 2 15) None
          ∷ Waits 3 B (call.Create (codes "c" ∷ []))
          ∷ Answered 3 B (call.Create (codes "c" ∷ [])) (answer.NoRoom 2 15) None
          ∷ Ended A []
          ∷ Told A []
          ∷ Waits 5 B (call.Create (codes "d" ∷ []))
          ∷ Answered 5 B (call.Create (codes "d" ∷ [])) (answer.Reply reply.Ok) (Some 1)
          ∷ [];
      status = 0;
    }

-- the ids that one clerk used leave none for it
abbrev pub used_ids : Run
used_ids =
    record {
      lines =
          reads (line.Call A (call.Create (codes "f1" ∷ []))) 10
          ∷ reads (line.Call A (call.Create (codes "f2" ∷ []))) 10
          ∷ reads (line.Call A (call.Create (codes "f3" ∷ []))) 10
          ∷ reads (line.Call A (call.Create (codes "f4" ∷ []))) 10
          ∷ reads (line.Call A (call.Create (codes "f5" ∷ []))) 10
          ∷ reads (line.Call A (call.Create (codes "f6" ∷ []))) 10
          ∷ reads (line.Call A (call.Create (codes "f7" ∷ []))) 10
          ∷ reads (line.Call A (call.Create (codes "f8" ∷ []))) 10
          ∷ reads (line.Call A (call.Create (codes "f9" ∷ []))) 10
          ∷ reads (line.Call A (call.Create (codes "f10" ∷ []))) 10
          ∷ reads (line.Call A (call.Create (codes "f11" ∷ []))) 10
          ∷ reads (line.Call A (call.Create (codes "f12" ∷ []))) 10
          ∷ reads (line.Call A (call.Create (codes "f13" ∷ []))) 10
          ∷ reads (line.Call A (call.Create (codes "f14" ∷ []))) 10
          ∷ reads (line.Call A (call.Create (codes "f15" ∷ []))) 10
          ∷ reads (line.Call A (call.Create (codes "f16" ∷ []))) 10
          ∷ reads (line.Call A (call.Create (codes "f17" ∷ []))) 10
          ∷ reads (line.Call A call.Sync) 3
          ∷ reads (line.Call A (call.Create (codes "f18" ∷ []))) 10
          ∷ [];
      fates = [];
      max_objects = 32;
      shown =
          Waits 1 A (call.Create (codes "f1" ∷ []))
          ∷ Answered 1 A (call.Create (codes "f1" ∷ [])) (answer.Reply reply.Ok) (Some 1)
          ∷ Answered 2 A (call.Create (codes "f2" ∷ [])) (answer.Reply reply.Ok) (Some 2)
          ∷ Answered 3 A (call.Create (codes "f3" ∷ [])) (answer.Reply reply.Ok) (Some 3)
          ∷ Answered 4 A (call.Create (codes "f4" ∷ [])) (answer.Reply reply.Ok) (Some 4)
          ∷ Answered 5 A (call.Create (codes "f5" ∷ [])) (answer.Reply reply.Ok) (Some 5)
          ∷ Answered 6 A (call.Create (codes "f6" ∷ [])) (answer.Reply reply.Ok) (Some 6)
          ∷ Answered 7 A (call.Create (codes "f7" ∷ [])) (answer.Reply reply.Ok) (Some 7)
          ∷ Answered 8 A (call.Create (codes "f8" ∷ [])) (answer.Reply reply.Ok) (Some 8)
          ∷ Answered 9 A (call.Create (codes "f9" ∷ [])) (answer.Reply reply.Ok) (Some 9)
          ∷ Answered 10 A (call.Create (codes "f10" ∷ [])) (answer.Reply reply.Ok) (Some 10)
          ∷ Answered 11 A (call.Create (codes "f11" ∷ [])) (answer.Reply reply.Ok) (Some 11)
          ∷ Answered 12 A (call.Create (codes "f12" ∷ [])) (answer.Reply reply.Ok) (Some 12)
          ∷ Answered 13 A (call.Create (codes "f13" ∷ [])) (answer.Reply reply.Ok) (Some 13)
          ∷ Answered 14 A (call.Create (codes "f14" ∷ [])) (answer.Reply reply.Ok) (Some 14)
          ∷ Answered 15 A (call.Create (codes "f15" ∷ [])) (answer.Reply reply.Ok) (Some 15)
          ∷ Answered 16 A (call.Create (codes "f16" ∷ [])) (answer.Reply reply.Ok) (Some 16)
          ∷ Waits 17 A (call.Create (codes "f17" ∷ []))
          ∷ Answered 17 A (call.Create (codes "f17" ∷ [])) (answer.NoRoom 1 16) None
          ∷ Waits 18 A call.Sync
          ∷ Durable A (1 ∷ 2 ∷ 3 ∷ 4 ∷ 5 ∷ 6 ∷ 7 ∷ 8 ∷ 9 ∷ 10 ∷ 11 ∷ 12 ∷ 13 ∷ 14 ∷ 15 ∷ 16 ∷ [])
          ∷ Answered 18 A call.Sync (answer.Reply reply.Ok) None
          ∷ Waits 19 A (call.Create (codes "f18" ∷ []))
          ∷ Answered 19 A (call.Create (codes "f18" ∷ [])) (answer.NoRoom 17 0) None
          ∷ [];
      status = 0;
    }
