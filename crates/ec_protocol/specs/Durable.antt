-- Scripts in which some operations become durable and others are lost.
use Rattle.std.specs.Prelude.{[], ◌∷◌, None, Some, codes}
use Rattle.ec_volume.specs.declared.image.Kind.TheVariants as kind
use Rattle.ec_plain.specs.declared.call.Call.TheVariants as call
use Rattle.ec_plain.specs.declared.call.Reply.TheVariants as reply
use Rattle.ec_plain.specs.declared.call.Refusal.TheVariants as no
use Rattle.ec_history.specs.declared.entry.Answer.TheVariants as answer
use Rattle.ec_history.specs.declared.shown.Shown.TheVariants.{Waits, Answered, Durable, Ended, Crashed}
use Rattle.ec_wire.specs.declared.msg.MsgKind.TheVariants as msg
use Rattle.ec_protocol.specs.declared.script.Line.TheVariants as line
use Rattle.ec_protocol.specs.Drill.{reads}
use Rattle.ec_protocol.specs.Runs.{Run, A, B}

-- an fsync of one file keeps it, and the create of another one is lost
abbrev pub fsynced_file : Run
fsynced_file =
    record {
      lines =
          reads (line.Call A (call.Create (codes "a" ∷ []))) 10
          ∷ reads (line.Call A (call.Create (codes "b" ∷ []))) 10
          ∷ reads (line.Call A (call.Write (codes "a" ∷ []) 0 (codes "x"))) 14
          ∷ reads (line.Call A (call.Fsync (codes "a" ∷ []))) 9
          ∷ reads (line.Crash A) 7
          ∷ reads (line.End A) 5
          ∷ [];
      fates = [];
      max_objects = 1024;
      shown =
          Waits 1 A (call.Create (codes "a" ∷ []))
          ∷ Answered 1 A (call.Create (codes "a" ∷ [])) (answer.Reply reply.Ok) (Some 1)
          ∷ Answered 2 A (call.Create (codes "b" ∷ [])) (answer.Reply reply.Ok) (Some 2)
          ∷ Answered 3 A (call.Write (codes "a" ∷ []) 0 (codes "x")) (answer.Reply reply.Ok) (Some 3)
          ∷ Waits 4 A (call.Fsync (codes "a" ∷ []))
          ∷ Durable A (1 ∷ 3 ∷ [])
          ∷ Answered 4 A (call.Fsync (codes "a" ∷ [])) (answer.Reply reply.Ok) None
          ∷ Crashed A
          ∷ Ended A (2 ∷ [])
          ∷ [];
      status = 0;
    }

-- the same, and the next start sees it
abbrev pub seen_by_next_start : Run
seen_by_next_start =
    record {
      lines =
          reads (line.Call A (call.Create (codes "a" ∷ []))) 10
          ∷ reads (line.Call A (call.Create (codes "b" ∷ []))) 10
          ∷ reads (line.Call A (call.Write (codes "a" ∷ []) 0 (codes "x"))) 14
          ∷ reads (line.Call A (call.Fsync (codes "a" ∷ []))) 9
          ∷ reads (line.Crash A) 7
          ∷ reads (line.Call A (call.Read (codes "b" ∷ []) 0 1)) 13
          ∷ [];
      fates = [];
      max_objects = 1024;
      shown =
          Waits 1 A (call.Create (codes "a" ∷ []))
          ∷ Answered 1 A (call.Create (codes "a" ∷ [])) (answer.Reply reply.Ok) (Some 1)
          ∷ Answered 2 A (call.Create (codes "b" ∷ [])) (answer.Reply reply.Ok) (Some 2)
          ∷ Answered 3 A (call.Write (codes "a" ∷ []) 0 (codes "x")) (answer.Reply reply.Ok) (Some 3)
          ∷ Waits 4 A (call.Fsync (codes "a" ∷ []))
          ∷ Durable A (1 ∷ 3 ∷ [])
          ∷ Answered 4 A (call.Fsync (codes "a" ∷ [])) (answer.Reply reply.Ok) None
          ∷ Crashed A
          ∷ Waits 6 A (call.Read (codes "b" ∷ []) 0 1)
          ∷ Ended A (2 ∷ [])
          ∷ Answered 6 A (call.Read (codes "b" ∷ []) 0 1) (answer.Reply (reply.Refused (no.NotFound 1))) None
          ∷ [];
      status = 0;
    }

-- a read of another clerk makes the write durable, and the clerk, cut off, answers from what it holds
abbrev pub recalled_write : Run
recalled_write =
    record {
      lines =
          reads (line.Call A (call.Create (codes "f" ∷ []))) 10
          ∷ reads (line.Call A (call.Write (codes "f" ∷ []) 0 (codes "hi"))) 14
          ∷ reads (line.Call A (call.Create (codes "g" ∷ []))) 10
          ∷ reads (line.Call B (call.Read (codes "f" ∷ []) 0 9)) 13
          ∷ reads (line.Cut A) 5
          ∷ reads (line.Call A (call.Read (codes "f" ∷ []) 0 9)) 13
          ∷ reads (line.Call A (call.Write (codes "g" ∷ []) 0 (codes "x"))) 14
          ∷ [];
      fates = [];
      max_objects = 1024;
      shown =
          Waits 1 A (call.Create (codes "f" ∷ []))
          ∷ Answered 1 A (call.Create (codes "f" ∷ [])) (answer.Reply reply.Ok) (Some 1)
          ∷ Answered 2 A (call.Write (codes "f" ∷ []) 0 (codes "hi")) (answer.Reply reply.Ok) (Some 2)
          ∷ Answered 3 A (call.Create (codes "g" ∷ [])) (answer.Reply reply.Ok) (Some 3)
          ∷ Waits 4 B (call.Read (codes "f" ∷ []) 0 9)
          ∷ Durable A (1 ∷ 3 ∷ [])
          ∷ Durable A (2 ∷ [])
          ∷ Answered 4 B (call.Read (codes "f" ∷ []) 0 9) (answer.Reply (reply.Data (codes "hi"))) None
          ∷ Answered 6 A (call.Read (codes "f" ∷ []) 0 9) (answer.Reply (reply.Data (codes "hi"))) None
          ∷ Answered 7 A (call.Write (codes "g" ∷ []) 0 (codes "x")) (answer.Reply reply.Ok) (Some 4)
          ∷ [];
      status = 0;
    }

-- of two overwrites of one file the later one is kept alone
abbrev pub disjoint_overwrites : Run
disjoint_overwrites =
    record {
      lines =
          reads (line.Call A (call.Create (codes "f" ∷ []))) 10
          ∷ reads (line.Call A (call.Write (codes "f" ∷ []) 0 (codes "aabb"))) 14
          ∷ reads (line.Call A call.Sync) 3
          ∷ reads (line.Call A (call.Write (codes "f" ∷ []) 0 (codes "cc"))) 14
          ∷ reads (line.Call A (call.Write (codes "f" ∷ []) 2 (codes "dd"))) 14
          ∷ reads (line.Push A 4) 8
          ∷ reads (line.Crash A) 7
          ∷ reads (line.Call A (call.Read (codes "f" ∷ []) 0 9)) 13
          ∷ [];
      fates = [];
      max_objects = 1024;
      shown =
          Waits 1 A (call.Create (codes "f" ∷ []))
          ∷ Answered 1 A (call.Create (codes "f" ∷ [])) (answer.Reply reply.Ok) (Some 1)
          ∷ Answered 2 A (call.Write (codes "f" ∷ []) 0 (codes "aabb")) (answer.Reply reply.Ok) (Some 2)
          ∷ Waits 3 A call.Sync
          ∷ Durable A (1 ∷ 2 ∷ [])
          ∷ Answered 3 A call.Sync (answer.Reply reply.Ok) None
          ∷ Answered 4 A (call.Write (codes "f" ∷ []) 0 (codes "cc")) (answer.Reply reply.Ok) (Some 3)
          ∷ Answered 5 A (call.Write (codes "f" ∷ []) 2 (codes "dd")) (answer.Reply reply.Ok) (Some 4)
          ∷ Durable A (4 ∷ [])
          ∷ Crashed A
          ∷ Waits 8 A (call.Read (codes "f" ∷ []) 0 9)
          ∷ Ended A (3 ∷ [])
          ∷ Answered 8 A (call.Read (codes "f" ∷ []) 0 9) (answer.Reply (reply.Data (codes "aadd"))) None
          ∷ [];
      status = 0;
    }

-- two overwrites of bytes that meet become durable together
abbrev pub meeting_overwrites : Run
meeting_overwrites =
    record {
      lines =
          reads (line.Call A (call.Create (codes "f" ∷ []))) 10
          ∷ reads (line.Call A (call.Write (codes "f" ∷ []) 0 (codes "aabb"))) 14
          ∷ reads (line.Call A call.Sync) 3
          ∷ reads (line.Call A (call.Write (codes "f" ∷ []) 0 (codes "cc"))) 14
          ∷ reads (line.Call A (call.Write (codes "f" ∷ []) 1 (codes "dd"))) 14
          ∷ reads (line.Push A 4) 8
          ∷ reads (line.Crash A) 7
          ∷ reads (line.Call A (call.Read (codes "f" ∷ []) 0 9)) 13
          ∷ [];
      fates = [];
      max_objects = 1024;
      shown =
          Waits 1 A (call.Create (codes "f" ∷ []))
          ∷ Answered 1 A (call.Create (codes "f" ∷ [])) (answer.Reply reply.Ok) (Some 1)
          ∷ Answered 2 A (call.Write (codes "f" ∷ []) 0 (codes "aabb")) (answer.Reply reply.Ok) (Some 2)
          ∷ Waits 3 A call.Sync
          ∷ Durable A (1 ∷ 2 ∷ [])
          ∷ Answered 3 A call.Sync (answer.Reply reply.Ok) None
          ∷ Answered 4 A (call.Write (codes "f" ∷ []) 0 (codes "cc")) (answer.Reply reply.Ok) (Some 3)
          ∷ Answered 5 A (call.Write (codes "f" ∷ []) 1 (codes "dd")) (answer.Reply reply.Ok) (Some 4)
          ∷ Durable A (3 ∷ 4 ∷ [])
          ∷ Crashed A
          ∷ Waits 8 A (call.Read (codes "f" ∷ []) 0 9)
          ∷ Ended A []
          ∷ Answered 8 A (call.Read (codes "f" ∷ []) 0 9) (answer.Reply (reply.Data (codes "cddb"))) None
          ∷ [];
      status = 0;
    }

-- two moves of directories that rest on each other become durable together
abbrev pub moved_directories : Run
moved_directories =
    record {
      lines =
          reads (line.Call A (call.Mkdir (codes "a" ∷ []))) 9
          ∷ reads (line.Call A (call.Mkdir (codes "b" ∷ []))) 9
          ∷ reads (line.Call A (call.Mkdir (codes "c" ∷ []))) 9
          ∷ reads (line.Call A call.Sync) 3
          ∷ reads (line.Call A (call.Rename (codes "a" ∷ []) (codes "b" ∷ codes "a" ∷ []))) 13
          ∷ reads (line.Call A (call.Rename (codes "b" ∷ []) (codes "c" ∷ codes "b" ∷ []))) 13
          ∷ reads (line.Push A 5) 8
          ∷ reads (line.Crash A) 7
          ∷ reads (line.Call A (call.List (codes "c" ∷ codes "b" ∷ []))) 8
          ∷ [];
      fates = [];
      max_objects = 1024;
      shown =
          Waits 1 A (call.Mkdir (codes "a" ∷ []))
          ∷ Answered 1 A (call.Mkdir (codes "a" ∷ [])) (answer.Reply reply.Ok) (Some 1)
          ∷ Answered 2 A (call.Mkdir (codes "b" ∷ [])) (answer.Reply reply.Ok) (Some 2)
          ∷ Answered 3 A (call.Mkdir (codes "c" ∷ [])) (answer.Reply reply.Ok) (Some 3)
          ∷ Waits 4 A call.Sync
          ∷ Durable A (1 ∷ 2 ∷ 3 ∷ [])
          ∷ Answered 4 A call.Sync (answer.Reply reply.Ok) None
          ∷ Answered 5 A (call.Rename (codes "a" ∷ []) (codes "b" ∷ codes "a" ∷ [])) (answer.Reply reply.Ok) (Some 4)
          ∷ Answered 6 A (call.Rename (codes "b" ∷ []) (codes "c" ∷ codes "b" ∷ [])) (answer.Reply reply.Ok) (Some 5)
          ∷ Durable A (4 ∷ 5 ∷ [])
          ∷ Crashed A
          ∷ Waits 9 A (call.List (codes "c" ∷ codes "b" ∷ []))
          ∷ Ended A []
          ∷ Answered 9 A (call.List (codes "c" ∷ codes "b" ∷ [])) (answer.Reply (reply.Names (codes "a" ∷ []))) None
          ∷ [];
      status = 0;
    }

-- a recall overtakes its grant, which is then not taken
abbrev pub late_grant : Run
late_grant =
    record {
      lines =
          reads (line.Call B (call.Create (codes "f" ∷ []))) 10
          ∷ reads (line.Call B call.Sync) 3
          ∷ reads (line.Call A (call.Stat [])) 8
          ∷ reads (line.Cut A) 5
          ∷ reads (line.Call A (call.Read (codes "f" ∷ []) 0 1)) 13
          ∷ reads (line.Deliver A msg.Want 2) 16
          ∷ reads (line.Call B (call.Write (codes "f" ∷ []) 0 (codes "x"))) 14
          ∷ reads (line.Deliver A msg.Recall 1) 18
          ∷ reads (line.Deliver A msg.Back 1) 16
          ∷ reads (line.Deliver A msg.Grant 2) 17
          ∷ reads (line.Call A (call.Read (codes "f" ∷ []) 0 1)) 13
          ∷ reads (line.Uncut A) 7
          ∷ [];
      fates = [];
      max_objects = 1024;
      shown =
          Waits 1 B (call.Create (codes "f" ∷ []))
          ∷ Answered 1 B (call.Create (codes "f" ∷ [])) (answer.Reply reply.Ok) (Some 1)
          ∷ Waits 2 B call.Sync
          ∷ Durable B (1 ∷ [])
          ∷ Answered 2 B call.Sync (answer.Reply reply.Ok) None
          ∷ Waits 3 A (call.Stat [])
          ∷ Answered 3 A (call.Stat []) (answer.Reply (reply.Stat kind.Dir 493 0 0 1)) None
          ∷ Waits 5 A (call.Read (codes "f" ∷ []) 0 1)
          ∷ Waits 7 B (call.Write (codes "f" ∷ []) 0 (codes "x"))
          ∷ Answered 7 B (call.Write (codes "f" ∷ []) 0 (codes "x")) (answer.Reply reply.Ok) (Some 2)
          ∷ Waits 11 A (call.Read (codes "f" ∷ []) 0 1)
          ∷ Durable B (2 ∷ [])
          ∷ Answered 5 A (call.Read (codes "f" ∷ []) 0 1) (answer.Reply (reply.Data (codes "x"))) None
          ∷ Answered 11 A (call.Read (codes "f" ∷ []) 0 1) (answer.Reply (reply.Data (codes "x"))) None
          ∷ [];
      status = 0;
    }
