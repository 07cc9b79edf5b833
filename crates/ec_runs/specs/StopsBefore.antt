-- Two files tied by forder, with a stop in each device call of the last batches; the power cut takes its writes back.
use Rattle.std.specs.Prelude.{[], ◌∷◌, None, Some, codes}
use Rattle.ec_plain.specs.declared.call.Call.TheVariants as call
use Rattle.ec_plain.specs.declared.call.Reply.TheVariants as reply
use Rattle.ec_history.specs.declared.entry.Answer.TheVariants as answer
use Rattle.ec_history.specs.declared.shown.Shown.TheVariants.{Waits, Answered, Durable, Stopped, Started}
use Rattle.ec_disk.specs.declared.disk.Choice.TheVariants as choice
use Rattle.ec_protocol.specs.declared.script.Line.TheVariants as line
use Rattle.ec_protocol.specs.World.{runs, stops_without}
use Rattle.ec_protocol.specs.Drill.{reads}
use Rattle.ec_protocol.specs.Runs.{Run, A}

abbrev pub call_1_old : Run
call_1_old =
    record {
      lines =
          reads (line.Call A (call.Create (codes "a" ∷ []))) 10 ∷ reads (line.Call A (call.Write (codes "a" ∷ []) 0 (codes "x"))) 14
          ∷ reads (line.Call A (call.Create (codes "b" ∷ []))) 10 ∷ reads (line.Call A (call.Write (codes "b" ∷ []) 0 (codes "x"))) 14
          ∷ reads (line.Arm 1 choice.Old) 7 ∷ reads (line.Call A call.Sync) 3 ∷ reads (line.Call A (call.Write (codes "a" ∷ []) 0 (codes "y"))) 14
          ∷ reads (line.Call A (call.Forder ((codes "a" ∷ []) ∷ (codes "b" ∷ []) ∷ []))) 13
          ∷ reads (line.Call A (call.Write (codes "b" ∷ []) 0 (codes "y"))) 14 ∷ reads (line.Call A (call.Fsync (codes "b" ∷ []))) 9
          ∷ reads line.Restart 1 ∷ [];
      fates = [] ∷ [] ∷ [] ∷ [] ∷ [] ∷ (runs ∷ stops_without ∷ []) ∷ [];
      max_objects = 1024;
      shown =
          Waits 1 A (call.Create (codes "a" ∷ [])) ∷ Answered 1 A (call.Create (codes "a" ∷ [])) (answer.Reply reply.Ok) (Some 1)
          ∷ Answered 2 A (call.Write (codes "a" ∷ []) 0 (codes "x")) (answer.Reply reply.Ok) (Some 2)
          ∷ Answered 3 A (call.Create (codes "b" ∷ [])) (answer.Reply reply.Ok) (Some 3)
          ∷ Answered 4 A (call.Write (codes "b" ∷ []) 0 (codes "x")) (answer.Reply reply.Ok) (Some 4) ∷ Waits 6 A call.Sync ∷ Stopped
          ∷ Answered 7 A (call.Write (codes "a" ∷ []) 0 (codes "y")) (answer.Reply reply.Ok) (Some 5)
          ∷ Answered 8 A (call.Forder ((codes "a" ∷ []) ∷ (codes "b" ∷ []) ∷ [])) (answer.Reply reply.Ok) (Some 6)
          ∷ Answered 9 A (call.Write (codes "b" ∷ []) 0 (codes "y")) (answer.Reply reply.Ok) (Some 7) ∷ Waits 10 A (call.Fsync (codes "b" ∷ []))
          ∷ Started ∷ Durable A (1 ∷ 2 ∷ 3 ∷ 4 ∷ []) ∷ Answered 6 A call.Sync (answer.Reply reply.Ok) None ∷ Durable A (5 ∷ 6 ∷ 7 ∷ [])
          ∷ Answered 10 A (call.Fsync (codes "b" ∷ [])) (answer.Reply reply.Ok) None ∷ [];
      status = 0;
    }

abbrev pub call_2_old : Run
call_2_old =
    record {
      lines =
          reads (line.Call A (call.Create (codes "a" ∷ []))) 10 ∷ reads (line.Call A (call.Write (codes "a" ∷ []) 0 (codes "x"))) 14
          ∷ reads (line.Call A (call.Create (codes "b" ∷ []))) 10 ∷ reads (line.Call A (call.Write (codes "b" ∷ []) 0 (codes "x"))) 14
          ∷ reads (line.Arm 2 choice.Old) 7 ∷ reads (line.Call A call.Sync) 3 ∷ reads (line.Call A (call.Write (codes "a" ∷ []) 0 (codes "y"))) 14
          ∷ reads (line.Call A (call.Forder ((codes "a" ∷ []) ∷ (codes "b" ∷ []) ∷ []))) 13
          ∷ reads (line.Call A (call.Write (codes "b" ∷ []) 0 (codes "y"))) 14 ∷ reads (line.Call A (call.Fsync (codes "b" ∷ []))) 9
          ∷ reads line.Restart 1 ∷ [];
      fates = [] ∷ [] ∷ [] ∷ [] ∷ [] ∷ (runs ∷ stops_without ∷ []) ∷ [];
      max_objects = 1024;
      shown =
          Waits 1 A (call.Create (codes "a" ∷ [])) ∷ Answered 1 A (call.Create (codes "a" ∷ [])) (answer.Reply reply.Ok) (Some 1)
          ∷ Answered 2 A (call.Write (codes "a" ∷ []) 0 (codes "x")) (answer.Reply reply.Ok) (Some 2)
          ∷ Answered 3 A (call.Create (codes "b" ∷ [])) (answer.Reply reply.Ok) (Some 3)
          ∷ Answered 4 A (call.Write (codes "b" ∷ []) 0 (codes "x")) (answer.Reply reply.Ok) (Some 4) ∷ Waits 6 A call.Sync ∷ Stopped
          ∷ Answered 7 A (call.Write (codes "a" ∷ []) 0 (codes "y")) (answer.Reply reply.Ok) (Some 5)
          ∷ Answered 8 A (call.Forder ((codes "a" ∷ []) ∷ (codes "b" ∷ []) ∷ [])) (answer.Reply reply.Ok) (Some 6)
          ∷ Answered 9 A (call.Write (codes "b" ∷ []) 0 (codes "y")) (answer.Reply reply.Ok) (Some 7) ∷ Waits 10 A (call.Fsync (codes "b" ∷ []))
          ∷ Started ∷ Durable A (1 ∷ 2 ∷ 3 ∷ 4 ∷ []) ∷ Answered 6 A call.Sync (answer.Reply reply.Ok) None ∷ Durable A (5 ∷ 6 ∷ 7 ∷ [])
          ∷ Answered 10 A (call.Fsync (codes "b" ∷ [])) (answer.Reply reply.Ok) None ∷ [];
      status = 0;
    }

abbrev pub call_3_old : Run
call_3_old =
    record {
      lines =
          reads (line.Call A (call.Create (codes "a" ∷ []))) 10 ∷ reads (line.Call A (call.Write (codes "a" ∷ []) 0 (codes "x"))) 14
          ∷ reads (line.Call A (call.Create (codes "b" ∷ []))) 10 ∷ reads (line.Call A (call.Write (codes "b" ∷ []) 0 (codes "x"))) 14
          ∷ reads (line.Arm 3 choice.Old) 7 ∷ reads (line.Call A call.Sync) 3 ∷ reads (line.Call A (call.Write (codes "a" ∷ []) 0 (codes "y"))) 14
          ∷ reads (line.Call A (call.Forder ((codes "a" ∷ []) ∷ (codes "b" ∷ []) ∷ []))) 13
          ∷ reads (line.Call A (call.Write (codes "b" ∷ []) 0 (codes "y"))) 14 ∷ reads (line.Call A (call.Fsync (codes "b" ∷ []))) 9
          ∷ reads line.Restart 1 ∷ [];
      fates = [] ∷ [] ∷ [] ∷ [] ∷ [] ∷ (runs ∷ stops_without ∷ []) ∷ [];
      max_objects = 1024;
      shown =
          Waits 1 A (call.Create (codes "a" ∷ [])) ∷ Answered 1 A (call.Create (codes "a" ∷ [])) (answer.Reply reply.Ok) (Some 1)
          ∷ Answered 2 A (call.Write (codes "a" ∷ []) 0 (codes "x")) (answer.Reply reply.Ok) (Some 2)
          ∷ Answered 3 A (call.Create (codes "b" ∷ [])) (answer.Reply reply.Ok) (Some 3)
          ∷ Answered 4 A (call.Write (codes "b" ∷ []) 0 (codes "x")) (answer.Reply reply.Ok) (Some 4) ∷ Waits 6 A call.Sync ∷ Stopped
          ∷ Answered 7 A (call.Write (codes "a" ∷ []) 0 (codes "y")) (answer.Reply reply.Ok) (Some 5)
          ∷ Answered 8 A (call.Forder ((codes "a" ∷ []) ∷ (codes "b" ∷ []) ∷ [])) (answer.Reply reply.Ok) (Some 6)
          ∷ Answered 9 A (call.Write (codes "b" ∷ []) 0 (codes "y")) (answer.Reply reply.Ok) (Some 7) ∷ Waits 10 A (call.Fsync (codes "b" ∷ []))
          ∷ Started ∷ Durable A (1 ∷ 2 ∷ 3 ∷ 4 ∷ []) ∷ Answered 6 A call.Sync (answer.Reply reply.Ok) None ∷ Durable A (5 ∷ 6 ∷ 7 ∷ [])
          ∷ Answered 10 A (call.Fsync (codes "b" ∷ [])) (answer.Reply reply.Ok) None ∷ [];
      status = 0;
    }

abbrev pub call_4_old : Run
call_4_old =
    record {
      lines =
          reads (line.Call A (call.Create (codes "a" ∷ []))) 10 ∷ reads (line.Call A (call.Write (codes "a" ∷ []) 0 (codes "x"))) 14
          ∷ reads (line.Call A (call.Create (codes "b" ∷ []))) 10 ∷ reads (line.Call A (call.Write (codes "b" ∷ []) 0 (codes "x"))) 14
          ∷ reads (line.Arm 4 choice.Old) 7 ∷ reads (line.Call A call.Sync) 3 ∷ reads (line.Call A (call.Write (codes "a" ∷ []) 0 (codes "y"))) 14
          ∷ reads (line.Call A (call.Forder ((codes "a" ∷ []) ∷ (codes "b" ∷ []) ∷ []))) 13
          ∷ reads (line.Call A (call.Write (codes "b" ∷ []) 0 (codes "y"))) 14 ∷ reads (line.Call A (call.Fsync (codes "b" ∷ []))) 9
          ∷ reads line.Restart 1 ∷ [];
      fates = [] ∷ [] ∷ [] ∷ [] ∷ [] ∷ (runs ∷ stops_without ∷ []) ∷ [];
      max_objects = 1024;
      shown =
          Waits 1 A (call.Create (codes "a" ∷ [])) ∷ Answered 1 A (call.Create (codes "a" ∷ [])) (answer.Reply reply.Ok) (Some 1)
          ∷ Answered 2 A (call.Write (codes "a" ∷ []) 0 (codes "x")) (answer.Reply reply.Ok) (Some 2)
          ∷ Answered 3 A (call.Create (codes "b" ∷ [])) (answer.Reply reply.Ok) (Some 3)
          ∷ Answered 4 A (call.Write (codes "b" ∷ []) 0 (codes "x")) (answer.Reply reply.Ok) (Some 4) ∷ Waits 6 A call.Sync ∷ Stopped
          ∷ Answered 7 A (call.Write (codes "a" ∷ []) 0 (codes "y")) (answer.Reply reply.Ok) (Some 5)
          ∷ Answered 8 A (call.Forder ((codes "a" ∷ []) ∷ (codes "b" ∷ []) ∷ [])) (answer.Reply reply.Ok) (Some 6)
          ∷ Answered 9 A (call.Write (codes "b" ∷ []) 0 (codes "y")) (answer.Reply reply.Ok) (Some 7) ∷ Waits 10 A (call.Fsync (codes "b" ∷ []))
          ∷ Started ∷ Durable A (1 ∷ 2 ∷ 3 ∷ 4 ∷ []) ∷ Answered 6 A call.Sync (answer.Reply reply.Ok) None ∷ Durable A (5 ∷ 6 ∷ 7 ∷ [])
          ∷ Answered 10 A (call.Fsync (codes "b" ∷ [])) (answer.Reply reply.Ok) None ∷ [];
      status = 0;
    }

abbrev pub call_5_old : Run
call_5_old =
    record {
      lines =
          reads (line.Call A (call.Create (codes "a" ∷ []))) 10 ∷ reads (line.Call A (call.Write (codes "a" ∷ []) 0 (codes "x"))) 14
          ∷ reads (line.Call A (call.Create (codes "b" ∷ []))) 10 ∷ reads (line.Call A (call.Write (codes "b" ∷ []) 0 (codes "x"))) 14
          ∷ reads (line.Arm 5 choice.Old) 7 ∷ reads (line.Call A call.Sync) 3 ∷ reads (line.Call A (call.Write (codes "a" ∷ []) 0 (codes "y"))) 14
          ∷ reads (line.Call A (call.Forder ((codes "a" ∷ []) ∷ (codes "b" ∷ []) ∷ []))) 13
          ∷ reads (line.Call A (call.Write (codes "b" ∷ []) 0 (codes "y"))) 14 ∷ reads (line.Call A (call.Fsync (codes "b" ∷ []))) 9
          ∷ reads line.Restart 1 ∷ [];
      fates = [] ∷ [] ∷ [] ∷ [] ∷ [] ∷ [] ∷ [] ∷ [] ∷ [] ∷ (runs ∷ stops_without ∷ []) ∷ [];
      max_objects = 1024;
      shown =
          Waits 1 A (call.Create (codes "a" ∷ [])) ∷ Answered 1 A (call.Create (codes "a" ∷ [])) (answer.Reply reply.Ok) (Some 1)
          ∷ Answered 2 A (call.Write (codes "a" ∷ []) 0 (codes "x")) (answer.Reply reply.Ok) (Some 2)
          ∷ Answered 3 A (call.Create (codes "b" ∷ [])) (answer.Reply reply.Ok) (Some 3)
          ∷ Answered 4 A (call.Write (codes "b" ∷ []) 0 (codes "x")) (answer.Reply reply.Ok) (Some 4) ∷ Waits 6 A call.Sync
          ∷ Durable A (1 ∷ 2 ∷ 3 ∷ 4 ∷ []) ∷ Answered 6 A call.Sync (answer.Reply reply.Ok) None
          ∷ Answered 7 A (call.Write (codes "a" ∷ []) 0 (codes "y")) (answer.Reply reply.Ok) (Some 5)
          ∷ Answered 8 A (call.Forder ((codes "a" ∷ []) ∷ (codes "b" ∷ []) ∷ [])) (answer.Reply reply.Ok) (Some 6)
          ∷ Answered 9 A (call.Write (codes "b" ∷ []) 0 (codes "y")) (answer.Reply reply.Ok) (Some 7) ∷ Waits 10 A (call.Fsync (codes "b" ∷ []))
          ∷ Stopped ∷ Started ∷ Durable A (5 ∷ 6 ∷ 7 ∷ []) ∷ Answered 10 A (call.Fsync (codes "b" ∷ [])) (answer.Reply reply.Ok) None ∷ [];
      status = 0;
    }

abbrev pub call_6_old : Run
call_6_old =
    record {
      lines =
          reads (line.Call A (call.Create (codes "a" ∷ []))) 10 ∷ reads (line.Call A (call.Write (codes "a" ∷ []) 0 (codes "x"))) 14
          ∷ reads (line.Call A (call.Create (codes "b" ∷ []))) 10 ∷ reads (line.Call A (call.Write (codes "b" ∷ []) 0 (codes "x"))) 14
          ∷ reads (line.Arm 6 choice.Old) 7 ∷ reads (line.Call A call.Sync) 3 ∷ reads (line.Call A (call.Write (codes "a" ∷ []) 0 (codes "y"))) 14
          ∷ reads (line.Call A (call.Forder ((codes "a" ∷ []) ∷ (codes "b" ∷ []) ∷ []))) 13
          ∷ reads (line.Call A (call.Write (codes "b" ∷ []) 0 (codes "y"))) 14 ∷ reads (line.Call A (call.Fsync (codes "b" ∷ []))) 9
          ∷ reads line.Restart 1 ∷ [];
      fates = [] ∷ [] ∷ [] ∷ [] ∷ [] ∷ [] ∷ [] ∷ [] ∷ [] ∷ (runs ∷ stops_without ∷ []) ∷ [];
      max_objects = 1024;
      shown =
          Waits 1 A (call.Create (codes "a" ∷ [])) ∷ Answered 1 A (call.Create (codes "a" ∷ [])) (answer.Reply reply.Ok) (Some 1)
          ∷ Answered 2 A (call.Write (codes "a" ∷ []) 0 (codes "x")) (answer.Reply reply.Ok) (Some 2)
          ∷ Answered 3 A (call.Create (codes "b" ∷ [])) (answer.Reply reply.Ok) (Some 3)
          ∷ Answered 4 A (call.Write (codes "b" ∷ []) 0 (codes "x")) (answer.Reply reply.Ok) (Some 4) ∷ Waits 6 A call.Sync
          ∷ Durable A (1 ∷ 2 ∷ 3 ∷ 4 ∷ []) ∷ Answered 6 A call.Sync (answer.Reply reply.Ok) None
          ∷ Answered 7 A (call.Write (codes "a" ∷ []) 0 (codes "y")) (answer.Reply reply.Ok) (Some 5)
          ∷ Answered 8 A (call.Forder ((codes "a" ∷ []) ∷ (codes "b" ∷ []) ∷ [])) (answer.Reply reply.Ok) (Some 6)
          ∷ Answered 9 A (call.Write (codes "b" ∷ []) 0 (codes "y")) (answer.Reply reply.Ok) (Some 7) ∷ Waits 10 A (call.Fsync (codes "b" ∷ []))
          ∷ Stopped ∷ Started ∷ Durable A (5 ∷ 6 ∷ 7 ∷ []) ∷ Answered 10 A (call.Fsync (codes "b" ∷ [])) (answer.Reply reply.Ok) None ∷ [];
      status = 0;
    }

abbrev pub call_7_old : Run
call_7_old =
    record {
      lines =
          reads (line.Call A (call.Create (codes "a" ∷ []))) 10 ∷ reads (line.Call A (call.Write (codes "a" ∷ []) 0 (codes "x"))) 14
          ∷ reads (line.Call A (call.Create (codes "b" ∷ []))) 10 ∷ reads (line.Call A (call.Write (codes "b" ∷ []) 0 (codes "x"))) 14
          ∷ reads (line.Arm 7 choice.Old) 7 ∷ reads (line.Call A call.Sync) 3 ∷ reads (line.Call A (call.Write (codes "a" ∷ []) 0 (codes "y"))) 14
          ∷ reads (line.Call A (call.Forder ((codes "a" ∷ []) ∷ (codes "b" ∷ []) ∷ []))) 13
          ∷ reads (line.Call A (call.Write (codes "b" ∷ []) 0 (codes "y"))) 14 ∷ reads (line.Call A (call.Fsync (codes "b" ∷ []))) 9
          ∷ reads line.Restart 1 ∷ [];
      fates = [] ∷ [] ∷ [] ∷ [] ∷ [] ∷ [] ∷ [] ∷ [] ∷ [] ∷ (runs ∷ stops_without ∷ []) ∷ [];
      max_objects = 1024;
      shown =
          Waits 1 A (call.Create (codes "a" ∷ [])) ∷ Answered 1 A (call.Create (codes "a" ∷ [])) (answer.Reply reply.Ok) (Some 1)
          ∷ Answered 2 A (call.Write (codes "a" ∷ []) 0 (codes "x")) (answer.Reply reply.Ok) (Some 2)
          ∷ Answered 3 A (call.Create (codes "b" ∷ [])) (answer.Reply reply.Ok) (Some 3)
          ∷ Answered 4 A (call.Write (codes "b" ∷ []) 0 (codes "x")) (answer.Reply reply.Ok) (Some 4) ∷ Waits 6 A call.Sync
          ∷ Durable A (1 ∷ 2 ∷ 3 ∷ 4 ∷ []) ∷ Answered 6 A call.Sync (answer.Reply reply.Ok) None
          ∷ Answered 7 A (call.Write (codes "a" ∷ []) 0 (codes "y")) (answer.Reply reply.Ok) (Some 5)
          ∷ Answered 8 A (call.Forder ((codes "a" ∷ []) ∷ (codes "b" ∷ []) ∷ [])) (answer.Reply reply.Ok) (Some 6)
          ∷ Answered 9 A (call.Write (codes "b" ∷ []) 0 (codes "y")) (answer.Reply reply.Ok) (Some 7) ∷ Waits 10 A (call.Fsync (codes "b" ∷ []))
          ∷ Stopped ∷ Started ∷ Durable A (5 ∷ 6 ∷ 7 ∷ []) ∷ Answered 10 A (call.Fsync (codes "b" ∷ [])) (answer.Reply reply.Ok) None ∷ [];
      status = 0;
    }

abbrev pub call_8_old : Run
call_8_old =
    record {
      lines =
          reads (line.Call A (call.Create (codes "a" ∷ []))) 10 ∷ reads (line.Call A (call.Write (codes "a" ∷ []) 0 (codes "x"))) 14
          ∷ reads (line.Call A (call.Create (codes "b" ∷ []))) 10 ∷ reads (line.Call A (call.Write (codes "b" ∷ []) 0 (codes "x"))) 14
          ∷ reads (line.Arm 8 choice.Old) 7 ∷ reads (line.Call A call.Sync) 3 ∷ reads (line.Call A (call.Write (codes "a" ∷ []) 0 (codes "y"))) 14
          ∷ reads (line.Call A (call.Forder ((codes "a" ∷ []) ∷ (codes "b" ∷ []) ∷ []))) 13
          ∷ reads (line.Call A (call.Write (codes "b" ∷ []) 0 (codes "y"))) 14 ∷ reads (line.Call A (call.Fsync (codes "b" ∷ []))) 9
          ∷ reads line.Restart 1 ∷ [];
      fates = [] ∷ [] ∷ [] ∷ [] ∷ [] ∷ [] ∷ [] ∷ [] ∷ [] ∷ (runs ∷ stops_without ∷ []) ∷ [];
      max_objects = 1024;
      shown =
          Waits 1 A (call.Create (codes "a" ∷ [])) ∷ Answered 1 A (call.Create (codes "a" ∷ [])) (answer.Reply reply.Ok) (Some 1)
          ∷ Answered 2 A (call.Write (codes "a" ∷ []) 0 (codes "x")) (answer.Reply reply.Ok) (Some 2)
          ∷ Answered 3 A (call.Create (codes "b" ∷ [])) (answer.Reply reply.Ok) (Some 3)
          ∷ Answered 4 A (call.Write (codes "b" ∷ []) 0 (codes "x")) (answer.Reply reply.Ok) (Some 4) ∷ Waits 6 A call.Sync
          ∷ Durable A (1 ∷ 2 ∷ 3 ∷ 4 ∷ []) ∷ Answered 6 A call.Sync (answer.Reply reply.Ok) None
          ∷ Answered 7 A (call.Write (codes "a" ∷ []) 0 (codes "y")) (answer.Reply reply.Ok) (Some 5)
          ∷ Answered 8 A (call.Forder ((codes "a" ∷ []) ∷ (codes "b" ∷ []) ∷ [])) (answer.Reply reply.Ok) (Some 6)
          ∷ Answered 9 A (call.Write (codes "b" ∷ []) 0 (codes "y")) (answer.Reply reply.Ok) (Some 7) ∷ Waits 10 A (call.Fsync (codes "b" ∷ []))
          ∷ Stopped ∷ Started ∷ Durable A (5 ∷ 6 ∷ 7 ∷ []) ∷ Answered 10 A (call.Fsync (codes "b" ∷ [])) (answer.Reply reply.Ok) None ∷ [];
      status = 0;
    }
