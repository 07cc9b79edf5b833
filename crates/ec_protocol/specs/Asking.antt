-- Scripts of what is asked for, and in which order.
use Rattle.std.specs.Prelude.{[], ◌∷◌, None, Some, codes}
use Rattle.ec_volume.specs.declared.image.Kind.TheVariants as kind
use Rattle.ec_plain.specs.declared.call.Call.TheVariants as call
use Rattle.ec_plain.specs.declared.call.Reply.TheVariants as reply
use Rattle.ec_history.specs.declared.entry.Answer.TheVariants as answer
use Rattle.ec_history.specs.declared.shown.Shown.TheVariants.{Waits, Answered, Durable, Ended, Told, Nothing, Unsettled}
use Rattle.ec_wire.specs.declared.msg.MsgKind.TheVariants as msg
use Rattle.ec_protocol.specs.declared.script.Line.TheVariants as line
use Rattle.ec_protocol.specs.Drill.{reads}
use Rattle.ec_protocol.specs.Runs.{Run, A, B}

-- recalls ask before waiting calls, and each closure once
abbrev pub closures_in_turn : Run
closures_in_turn =
    record {
      lines =
          reads (line.Call A (call.Create (codes "a" ∷ []))) 10
          ∷ reads (line.Call A (call.Create (codes "b" ∷ []))) 10
          ∷ reads (line.Call A (call.Write (codes "a" ∷ []) 0 (codes "x"))) 14
          ∷ reads (line.Call A (call.Write (codes "b" ∷ []) 0 (codes "y"))) 14
          ∷ reads (line.Cut A) 5
          ∷ reads (line.Call A (call.Fsync (codes "b" ∷ []))) 9
          ∷ reads (line.Call B (call.Stat [])) 8
          ∷ reads (line.Deliver A msg.Recall 1) 18
          ∷ reads (line.Call A call.Sync) 3
          ∷ reads (line.Uncut A) 7
          ∷ reads (line.Call B (call.Read (codes "a" ∷ []) 0 9)) 13
          ∷ reads (line.Call B (call.Read (codes "b" ∷ []) 0 9)) 13
          ∷ [];
      fates = [];
      max_objects = 1024;
      shown =
          Waits 1 A (call.Create (codes "a" ∷ []))
          ∷ Answered 1 A (call.Create (codes "a" ∷ [])) (answer.Reply reply.Ok) (Some 1)
          ∷ Answered 2 A (call.Create (codes "b" ∷ [])) (answer.Reply reply.Ok) (Some 2)
          ∷ Answered 3 A (call.Write (codes "a" ∷ []) 0 (codes "x")) (answer.Reply reply.Ok) (Some 3)
          ∷ Answered 4 A (call.Write (codes "b" ∷ []) 0 (codes "y")) (answer.Reply reply.Ok) (Some 4)
          ∷ Waits 6 A (call.Fsync (codes "b" ∷ []))
          ∷ Waits 7 B (call.Stat [])
          ∷ Waits 9 A call.Sync
          ∷ Durable A (1 ∷ 2 ∷ 4 ∷ [])
          ∷ Answered 6 A (call.Fsync (codes "b" ∷ [])) (answer.Reply reply.Ok) None
          ∷ Durable A (3 ∷ [])
          ∷ Answered 7 B (call.Stat []) (answer.Reply (reply.Stat kind.Dir 493 0 0 2)) None
          ∷ Answered 9 A call.Sync (answer.Reply reply.Ok) None
          ∷ Waits 11 B (call.Read (codes "a" ∷ []) 0 9)
          ∷ Answered 11 B (call.Read (codes "a" ∷ []) 0 9) (answer.Reply (reply.Data (codes "x"))) None
          ∷ Waits 12 B (call.Read (codes "b" ∷ []) 0 9)
          ∷ Answered 12 B (call.Read (codes "b" ∷ []) 0 9) (answer.Reply (reply.Data (codes "y"))) None
          ∷ [];
      status = 0;
    }

-- an fsync waits for what was issued before it began
abbrev pub fsync_before_write : Run
fsync_before_write =
    record {
      lines =
          reads (line.Call A (call.Create (codes "f" ∷ []))) 10
          ∷ reads (line.Call B (call.Stat (codes "f" ∷ []))) 8
          ∷ reads (line.Call A (call.Write (codes "f" ∷ []) 0 (codes "abcdefgh"))) 14
          ∷ reads (line.Call A call.Sync) 3
          ∷ reads (line.Call A (call.Write (codes "f" ∷ []) 0 (codes "x"))) 14
          ∷ reads (line.Call A (call.Write (codes "f" ∷ []) 4 (codes "y"))) 14
          ∷ reads (line.Cut A) 5
          ∷ reads (line.Push A 3) 8
          ∷ reads (line.Call A (call.Fsync (codes "f" ∷ []))) 9
          ∷ reads (line.Call A (call.Touch [] 1)) 11
          ∷ reads (line.Uncut A) 7
          ∷ [];
      fates = [];
      max_objects = 1024;
      shown =
          Waits 1 A (call.Create (codes "f" ∷ []))
          ∷ Answered 1 A (call.Create (codes "f" ∷ [])) (answer.Reply reply.Ok) (Some 1)
          ∷ Waits 2 B (call.Stat (codes "f" ∷ []))
          ∷ Durable A (1 ∷ [])
          ∷ Answered 2 B (call.Stat (codes "f" ∷ [])) (answer.Reply (reply.Stat kind.File 420 0 0 0)) None
          ∷ Waits 3 A (call.Write (codes "f" ∷ []) 0 (codes "abcdefgh"))
          ∷ Answered 3 A (call.Write (codes "f" ∷ []) 0 (codes "abcdefgh")) (answer.Reply reply.Ok) (Some 2)
          ∷ Waits 4 A call.Sync
          ∷ Durable A (2 ∷ [])
          ∷ Answered 4 A call.Sync (answer.Reply reply.Ok) None
          ∷ Answered 5 A (call.Write (codes "f" ∷ []) 0 (codes "x")) (answer.Reply reply.Ok) (Some 3)
          ∷ Answered 6 A (call.Write (codes "f" ∷ []) 4 (codes "y")) (answer.Reply reply.Ok) (Some 4)
          ∷ Waits 9 A (call.Fsync (codes "f" ∷ []))
          ∷ Waits 10 A (call.Touch [] 1)
          ∷ Durable A (3 ∷ [])
          ∷ Durable A (4 ∷ [])
          ∷ Answered 9 A (call.Fsync (codes "f" ∷ [])) (answer.Reply reply.Ok) None
          ∷ Answered 10 A (call.Touch [] 1) (answer.Reply reply.Ok) (Some 5)
          ∷ [];
      status = 0;
    }

-- a push of what is durable or lost does nothing
abbrev pub pushed_again : Run
pushed_again =
    record {
      lines =
          reads (line.Call A (call.Create (codes "f" ∷ []))) 10
          ∷ reads (line.Cut A) 5
          ∷ reads (line.Push A 1) 8
          ∷ reads (line.Deliver A msg.Flush 1) 17
          ∷ reads (line.Push A 1) 8
          ∷ reads (line.End A) 5
          ∷ reads (line.Call A (call.Write (codes "f" ∷ []) 0 (codes "x"))) 14
          ∷ reads (line.Push A 2) 8
          ∷ reads (line.Uncut A) 7
          ∷ reads (line.Push A 2) 8
          ∷ [];
      fates = [];
      max_objects = 1024;
      shown =
          Waits 1 A (call.Create (codes "f" ∷ []))
          ∷ Answered 1 A (call.Create (codes "f" ∷ [])) (answer.Reply reply.Ok) (Some 1)
          ∷ Durable A (1 ∷ [])
          ∷ Nothing
          ∷ Ended A []
          ∷ Answered 7 A (call.Write (codes "f" ∷ []) 0 (codes "x")) (answer.Reply reply.Ok) (Some 2)
          ∷ Nothing
          ∷ Told A (2 ∷ [])
          ∷ Nothing
          ∷ [];
      status = 0;
    }

-- a sync of a clerk that is cut off touches no object
abbrev pub sync_below_loss : Run
sync_below_loss =
    record {
      lines =
          reads (line.Call A (call.Create (codes "f" ∷ []))) 10
          ∷ reads (line.Call A call.Sync) 3
          ∷ reads (line.Call A (call.Write (codes "f" ∷ []) 0 (codes "a"))) 14
          ∷ reads (line.End A) 5
          ∷ reads (line.Call B (call.Write (codes "f" ∷ []) 0 (codes "b"))) 14
          ∷ reads (line.Call A call.Sync) 3
          ∷ reads (line.End B) 5
          ∷ [];
      fates = [];
      max_objects = 1024;
      shown =
          Waits 1 A (call.Create (codes "f" ∷ []))
          ∷ Answered 1 A (call.Create (codes "f" ∷ [])) (answer.Reply reply.Ok) (Some 1)
          ∷ Waits 2 A call.Sync
          ∷ Durable A (1 ∷ [])
          ∷ Answered 2 A call.Sync (answer.Reply reply.Ok) None
          ∷ Answered 3 A (call.Write (codes "f" ∷ []) 0 (codes "a")) (answer.Reply reply.Ok) (Some 2)
          ∷ Ended A (2 ∷ [])
          ∷ Told A (2 ∷ [])
          ∷ Waits 5 B (call.Write (codes "f" ∷ []) 0 (codes "b"))
          ∷ Answered 5 B (call.Write (codes "f" ∷ []) 0 (codes "b")) (answer.Reply reply.Ok) (Some 1)
          ∷ Answered 6 A call.Sync (answer.Lost (2 ∷ [])) None
          ∷ Ended B (1 ∷ [])
          ∷ Told B (1 ∷ [])
          ∷ [];
      status = 0;
    }

-- eight batches are under way, and no ninth goes out
abbrev pub full_window : Run
full_window =
    record {
      lines =
          reads (line.Call A (call.Create (codes "f" ∷ []))) 10
          ∷ reads (line.Call A (call.Write (codes "f" ∷ []) 0 (codes "aaaaaaaaaaaa"))) 14
          ∷ reads (line.Call A call.Sync) 3
          ∷ reads (line.Cut A) 5
          ∷ reads (line.Call A (call.Write (codes "f" ∷ []) 0 (codes "x"))) 14
          ∷ reads (line.Call A (call.Write (codes "f" ∷ []) 1 (codes "x"))) 14
          ∷ reads (line.Call A (call.Write (codes "f" ∷ []) 2 (codes "x"))) 14
          ∷ reads (line.Call A (call.Write (codes "f" ∷ []) 3 (codes "x"))) 14
          ∷ reads (line.Call A (call.Write (codes "f" ∷ []) 4 (codes "x"))) 14
          ∷ reads (line.Call A (call.Write (codes "f" ∷ []) 5 (codes "x"))) 14
          ∷ reads (line.Call A (call.Write (codes "f" ∷ []) 6 (codes "x"))) 14
          ∷ reads (line.Call A (call.Write (codes "f" ∷ []) 7 (codes "x"))) 14
          ∷ reads (line.Call A (call.Write (codes "f" ∷ []) 8 (codes "x"))) 14
          ∷ reads (line.Call A (call.Write (codes "f" ∷ []) 9 (codes "x"))) 14
          ∷ reads (line.Push A 3) 8
          ∷ reads (line.Push A 4) 8
          ∷ reads (line.Push A 5) 8
          ∷ reads (line.Push A 6) 8
          ∷ reads (line.Push A 7) 8
          ∷ reads (line.Push A 8) 8
          ∷ reads (line.Push A 9) 8
          ∷ reads (line.Push A 10) 8
          ∷ reads (line.Push A 11) 8
          ∷ reads (line.Push A 12) 8
          ∷ reads (line.Push A 3) 8
          ∷ reads (line.Deliver A msg.Flush 2) 17
          ∷ reads (line.Push A 3) 8
          ∷ reads (line.Deliver A msg.Flush 3) 17
          ∷ reads (line.Deliver A msg.Kept 3) 16
          ∷ reads (line.Deliver A msg.Kept 2) 16
          ∷ reads (line.Uncut A) 7
          ∷ reads (line.Call A call.Sync) 3
          ∷ [];
      fates = [];
      max_objects = 1024;
      shown =
          Waits 1 A (call.Create (codes "f" ∷ []))
          ∷ Answered 1 A (call.Create (codes "f" ∷ [])) (answer.Reply reply.Ok) (Some 1)
          ∷ Answered 2 A (call.Write (codes "f" ∷ []) 0 (codes "aaaaaaaaaaaa")) (answer.Reply reply.Ok) (Some 2)
          ∷ Waits 3 A call.Sync
          ∷ Durable A (1 ∷ 2 ∷ [])
          ∷ Answered 3 A call.Sync (answer.Reply reply.Ok) None
          ∷ Answered 5 A (call.Write (codes "f" ∷ []) 0 (codes "x")) (answer.Reply reply.Ok) (Some 3)
          ∷ Answered 6 A (call.Write (codes "f" ∷ []) 1 (codes "x")) (answer.Reply reply.Ok) (Some 4)
          ∷ Answered 7 A (call.Write (codes "f" ∷ []) 2 (codes "x")) (answer.Reply reply.Ok) (Some 5)
          ∷ Answered 8 A (call.Write (codes "f" ∷ []) 3 (codes "x")) (answer.Reply reply.Ok) (Some 6)
          ∷ Answered 9 A (call.Write (codes "f" ∷ []) 4 (codes "x")) (answer.Reply reply.Ok) (Some 7)
          ∷ Answered 10 A (call.Write (codes "f" ∷ []) 5 (codes "x")) (answer.Reply reply.Ok) (Some 8)
          ∷ Answered 11 A (call.Write (codes "f" ∷ []) 6 (codes "x")) (answer.Reply reply.Ok) (Some 9)
          ∷ Answered 12 A (call.Write (codes "f" ∷ []) 7 (codes "x")) (answer.Reply reply.Ok) (Some 10)
          ∷ Answered 13 A (call.Write (codes "f" ∷ []) 8 (codes "x")) (answer.Reply reply.Ok) (Some 11)
          ∷ Answered 14 A (call.Write (codes "f" ∷ []) 9 (codes "x")) (answer.Reply reply.Ok) (Some 12)
          ∷ Durable A (3 ∷ [])
          ∷ Nothing
          ∷ Durable A (4 ∷ [])
          ∷ Durable A (5 ∷ [])
          ∷ Durable A (6 ∷ [])
          ∷ Durable A (7 ∷ [])
          ∷ Durable A (8 ∷ [])
          ∷ Durable A (9 ∷ [])
          ∷ Durable A (10 ∷ [])
          ∷ Durable A (11 ∷ [])
          ∷ Durable A (12 ∷ [])
          ∷ Answered 32 A call.Sync (answer.Reply reply.Ok) None
          ∷ [];
      status = 0;
    }

-- two calls that make each other wait for ever
abbrev pub endless : Run
endless =
    record {
      lines =
          reads (line.Call A (call.Create (codes "f" ∷ []))) 10
          ∷ reads (line.Call A call.Sync) 3
          ∷ reads (line.Call B (call.Read (codes "f" ∷ []) 0 1)) 13
          ∷ reads (line.Cut A) 5
          ∷ reads (line.Cut B) 5
          ∷ reads (line.Call A (call.Write (codes "f" ∷ []) 0 (codes "x"))) 14
          ∷ reads (line.Call B (call.Remove (codes "f" ∷ []))) 10
          ∷ reads (line.Uncut A) 7
          ∷ reads (line.Uncut B) 7
          ∷ [];
      fates = [];
      max_objects = 1024;
      shown =
          Waits 1 A (call.Create (codes "f" ∷ []))
          ∷ Answered 1 A (call.Create (codes "f" ∷ [])) (answer.Reply reply.Ok) (Some 1)
          ∷ Waits 2 A call.Sync
          ∷ Durable A (1 ∷ [])
          ∷ Answered 2 A call.Sync (answer.Reply reply.Ok) None
          ∷ Waits 3 B (call.Read (codes "f" ∷ []) 0 1)
          ∷ Answered 3 B (call.Read (codes "f" ∷ []) 0 1) (answer.Reply (reply.Data [])) None
          ∷ Waits 6 A (call.Write (codes "f" ∷ []) 0 (codes "x"))
          ∷ Waits 7 B (call.Remove (codes "f" ∷ []))
          ∷ Unsettled
          ∷ [];
      status = 0;
    }
