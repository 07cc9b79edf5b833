-- Scripts of one clerk.
use Rattle.std.specs.Prelude.{[], ◌∷◌, None, Some, codes}
use Rattle.ec_volume.specs.declared.image.Kind.TheVariants as kind
use Rattle.ec_plain.specs.declared.call.Call.TheVariants as call
use Rattle.ec_plain.specs.declared.call.Reply.TheVariants as reply
use Rattle.ec_plain.specs.declared.call.Refusal.TheVariants as no
use Rattle.ec_history.specs.declared.entry.Answer.TheVariants as answer
use Rattle.ec_history.specs.declared.shown.Shown.TheVariants.{Waits, Answered, Durable, Bad}
use Rattle.ec_wire.specs.declared.msg.MsgKind.TheVariants as msg
use Rattle.ec_protocol.specs.declared.script.Line.TheVariants as line
use Rattle.ec_protocol.specs.Drill.{reads, unfit}
use Rattle.ec_protocol.specs.Runs.{Run, A}

-- a clerk reads what it wrote
abbrev pub own_write : Run
own_write =
    record {
      lines =
          reads (line.Call A (call.Create (codes "f" ∷ []))) 10
          ∷ reads (line.Call A (call.Write (codes "f" ∷ []) 0 (codes "hi"))) 14
          ∷ reads (line.Call A (call.Read (codes "f" ∷ []) 0 9)) 13
          ∷ [];
      fates = [];
      max_objects = 1024;
      shown =
          Waits 1 A (call.Create (codes "f" ∷ []))
          ∷ Answered 1 A (call.Create (codes "f" ∷ [])) (answer.Reply reply.Ok) (Some 1)
          ∷ Answered 2 A (call.Write (codes "f" ∷ []) 0 (codes "hi")) (answer.Reply reply.Ok) (Some 2)
          ∷ Answered 3 A (call.Read (codes "f" ∷ []) 0 9) (answer.Reply (reply.Data (codes "hi"))) None
          ∷ [];
      status = 0;
    }

-- a line outside the grammar ends the run
abbrev pub malformed_line : Run
malformed_line =
    record {
      lines =
          reads (line.Call A (call.Create (codes "f" ∷ []))) 10
          ∷ reads (line.Call A (call.Stat (codes "f" ∷ []))) 8
          ∷ unfit 12
          ∷ [];
      fates = [];
      max_objects = 1024;
      shown =
          Waits 1 A (call.Create (codes "f" ∷ []))
          ∷ Answered 1 A (call.Create (codes "f" ∷ [])) (answer.Reply reply.Ok) (Some 1)
          ∷ Answered 2 A (call.Stat (codes "f" ∷ [])) (answer.Reply (reply.Stat kind.File 420 0 0 0)) None
          ∷ Bad 3 12
          ∷ [];
      status = 3;
    }

-- a push of an operation that was never issued ends the run
abbrev pub unknown_operation : Run
unknown_operation =
    record {
      lines =
          reads (line.Push A 1) 8
          ∷ [];
      fates = [];
      max_objects = 1024;
      shown =
          Bad 1 8
          ∷ [];
      status = 3;
    }

-- each refusal that a few calls meet
abbrev pub refusals : Run
refusals =
    record {
      lines =
          reads (line.Call A (call.Create (codes "f" ∷ []))) 10
          ∷ reads (line.Call A (call.Mkdir (codes "d" ∷ []))) 9
          ∷ reads (line.Call A (call.Create (codes "d" ∷ codes "x" ∷ []))) 10
          ∷ reads (line.Call A (call.Stat (codes "f" ∷ codes "x" ∷ []))) 8
          ∷ reads (line.Call A (call.Create (codes "f" ∷ []))) 10
          ∷ reads (line.Call A (call.Remove (codes "d" ∷ []))) 10
          ∷ reads (line.Call A (call.Rmdir (codes "f" ∷ []))) 9
          ∷ reads (line.Call A (call.Rmdir (codes "d" ∷ []))) 9
          ∷ reads (line.Call A (call.List (codes "f" ∷ []))) 8
          ∷ reads (line.Call A (call.Rename (codes "f" ∷ []) (codes "f" ∷ []))) 13
          ∷ reads (line.Call A (call.Rename (codes "f" ∷ []) (codes "d" ∷ []))) 13
          ∷ reads (line.Call A (call.Rename (codes "d" ∷ []) (codes "f" ∷ []))) 13
          ∷ reads (line.Call A (call.Read [] 0 1)) 12
          ∷ reads (line.Call A (call.Remove [])) 10
          ∷ reads (line.Call A (call.Stat (codes "d" ∷ codes "y" ∷ []))) 8
          ∷ reads (line.Call A (call.List (codes "d" ∷ []))) 8
          ∷ [];
      fates = [];
      max_objects = 1024;
      shown =
          Waits 1 A (call.Create (codes "f" ∷ []))
          ∷ Answered 1 A (call.Create (codes "f" ∷ [])) (answer.Reply reply.Ok) (Some 1)
          ∷ Answered 2 A (call.Mkdir (codes "d" ∷ [])) (answer.Reply reply.Ok) (Some 2)
          ∷ Answered 3 A (call.Create (codes "d" ∷ codes "x" ∷ [])) (answer.Reply reply.Ok) (Some 3)
          ∷ Answered 4 A (call.Stat (codes "f" ∷ codes "x" ∷ [])) (answer.Reply (reply.Refused (no.NotDir 1))) None
          ∷ Answered 5 A (call.Create (codes "f" ∷ [])) (answer.Reply (reply.Refused no.Exists)) None
          ∷ Answered 6 A (call.Remove (codes "d" ∷ [])) (answer.Reply (reply.Refused no.IsDir)) None
          ∷ Answered 7 A (call.Rmdir (codes "f" ∷ [])) (answer.Reply (reply.Refused (no.NotDir 1))) None
          ∷ Answered 8 A (call.Rmdir (codes "d" ∷ [])) (answer.Reply (reply.Refused no.NotEmpty)) None
          ∷ Answered 9 A (call.List (codes "f" ∷ [])) (answer.Reply (reply.Refused (no.NotDir 1))) None
          ∷ Answered 10 A (call.Rename (codes "f" ∷ []) (codes "f" ∷ [])) (answer.Reply reply.Ok) None
          ∷ Answered 11 A (call.Rename (codes "f" ∷ []) (codes "d" ∷ [])) (answer.Reply (reply.Refused no.IsDir)) None
          ∷ Answered 12 A (call.Rename (codes "d" ∷ []) (codes "f" ∷ [])) (answer.Reply (reply.Refused (no.NotDir 1))) None
          ∷ Answered 13 A (call.Read [] 0 1) (answer.Reply (reply.Refused no.IsDir)) None
          ∷ Answered 14 A (call.Remove []) (answer.Reply (reply.Refused no.Root)) None
          ∷ Answered 15 A (call.Stat (codes "d" ∷ codes "y" ∷ [])) (answer.Reply (reply.Refused (no.NotFound 2))) None
          ∷ Answered 16 A (call.List (codes "d" ∷ [])) (answer.Reply (reply.Names (codes "x" ∷ []))) None
          ∷ [];
      status = 0;
    }

-- a directory takes the place of an empty one
abbrev pub replaced_directory : Run
replaced_directory =
    record {
      lines =
          reads (line.Call A (call.Mkdir (codes "d" ∷ []))) 9
          ∷ reads (line.Call A (call.Mkdir (codes "e" ∷ []))) 9
          ∷ reads (line.Call A (call.Rename (codes "d" ∷ []) (codes "e" ∷ []))) 13
          ∷ reads (line.Call A (call.List [])) 8
          ∷ [];
      fates = [];
      max_objects = 1024;
      shown =
          Waits 1 A (call.Mkdir (codes "d" ∷ []))
          ∷ Answered 1 A (call.Mkdir (codes "d" ∷ [])) (answer.Reply reply.Ok) (Some 1)
          ∷ Answered 2 A (call.Mkdir (codes "e" ∷ [])) (answer.Reply reply.Ok) (Some 2)
          ∷ Answered 3 A (call.Rename (codes "d" ∷ []) (codes "e" ∷ [])) (answer.Reply reply.Ok) (Some 3)
          ∷ Answered 4 A (call.List []) (answer.Reply (reply.Names (codes "e" ∷ []))) None
          ∷ [];
      status = 0;
    }

-- a file gets an owner, which its stat shows
abbrev pub chowned_file : Run
chowned_file =
    record {
      lines =
          reads (line.Call A (call.Create (codes "f" ∷ []))) 10
          ∷ reads (line.Call A (call.Chown (codes "f" ∷ []) 7)) 12
          ∷ reads (line.Call A (call.Stat (codes "f" ∷ []))) 8
          ∷ [];
      fates = [];
      max_objects = 1024;
      shown =
          Waits 1 A (call.Create (codes "f" ∷ []))
          ∷ Answered 1 A (call.Create (codes "f" ∷ [])) (answer.Reply reply.Ok) (Some 1)
          ∷ Answered 2 A (call.Chown (codes "f" ∷ []) 7) (answer.Reply reply.Ok) (Some 2)
          ∷ Answered 3 A (call.Stat (codes "f" ∷ [])) (answer.Reply (reply.Stat kind.File 420 0 7 0)) None
          ∷ [];
      status = 0;
    }

-- a directory moves into another one, which then may not move below it
abbrev pub refused_loop : Run
refused_loop =
    record {
      lines =
          reads (line.Call A (call.Mkdir (codes "a" ∷ []))) 9
          ∷ reads (line.Call A (call.Mkdir (codes "b" ∷ []))) 9
          ∷ reads (line.Call A (call.Rename (codes "a" ∷ []) (codes "b" ∷ codes "a" ∷ []))) 13
          ∷ reads (line.Call A (call.Rename (codes "b" ∷ []) (codes "b" ∷ codes "a" ∷ codes "b" ∷ []))) 13
          ∷ reads (line.Call A (call.Create (codes "b" ∷ codes "a" ∷ codes "f" ∷ []))) 10
          ∷ reads (line.Call A (call.Stat (codes "a" ∷ []))) 8
          ∷ [];
      fates = [];
      max_objects = 1024;
      shown =
          Waits 1 A (call.Mkdir (codes "a" ∷ []))
          ∷ Answered 1 A (call.Mkdir (codes "a" ∷ [])) (answer.Reply reply.Ok) (Some 1)
          ∷ Answered 2 A (call.Mkdir (codes "b" ∷ [])) (answer.Reply reply.Ok) (Some 2)
          ∷ Answered 3 A (call.Rename (codes "a" ∷ []) (codes "b" ∷ codes "a" ∷ [])) (answer.Reply reply.Ok) (Some 3)
          ∷ Answered 4 A (call.Rename (codes "b" ∷ []) (codes "b" ∷ codes "a" ∷ codes "b" ∷ [])) (answer.Reply (reply.Refused no.Loop)) None
          ∷ Answered 5 A (call.Create (codes "b" ∷ codes "a" ∷ codes "f" ∷ [])) (answer.Reply reply.Ok) (Some 4)
          ∷ Answered 6 A (call.Stat (codes "a" ∷ [])) (answer.Reply (reply.Refused (no.NotFound 1))) None
          ∷ [];
      status = 0;
    }

-- a file's move becomes durable without an earlier operation on the root
abbrev pub moved_file : Run
moved_file =
    record {
      lines =
          reads (line.Call A (call.Mkdir (codes "a" ∷ []))) 9
          ∷ reads (line.Call A (call.Mkdir (codes "b" ∷ []))) 9
          ∷ reads (line.Call A (call.Create (codes "a" ∷ codes "f" ∷ []))) 10
          ∷ reads (line.Call A call.Sync) 3
          ∷ reads (line.Call A (call.Create (codes "x" ∷ []))) 10
          ∷ reads (line.Call A (call.Rename (codes "a" ∷ codes "f" ∷ []) (codes "b" ∷ codes "f" ∷ []))) 15
          ∷ reads (line.Push A 5) 8
          ∷ [];
      fates = [];
      max_objects = 1024;
      shown =
          Waits 1 A (call.Mkdir (codes "a" ∷ []))
          ∷ Answered 1 A (call.Mkdir (codes "a" ∷ [])) (answer.Reply reply.Ok) (Some 1)
          ∷ Answered 2 A (call.Mkdir (codes "b" ∷ [])) (answer.Reply reply.Ok) (Some 2)
          ∷ Answered 3 A (call.Create (codes "a" ∷ codes "f" ∷ [])) (answer.Reply reply.Ok) (Some 3)
          ∷ Waits 4 A call.Sync
          ∷ Durable A (1 ∷ 2 ∷ 3 ∷ [])
          ∷ Answered 4 A call.Sync (answer.Reply reply.Ok) None
          ∷ Answered 5 A (call.Create (codes "x" ∷ [])) (answer.Reply reply.Ok) (Some 4)
          ∷ Answered 6 A (call.Rename (codes "a" ∷ codes "f" ∷ []) (codes "b" ∷ codes "f" ∷ [])) (answer.Reply reply.Ok) (Some 5)
          ∷ Durable A (5 ∷ [])
          ∷ [];
      status = 0;
    }

-- two files tied by forder become durable together
abbrev pub tied_files : Run
tied_files =
    record {
      lines =
          reads (line.Call A (call.Create (codes "a" ∷ []))) 10
          ∷ reads (line.Call A (call.Write (codes "a" ∷ []) 0 (codes "x"))) 14
          ∷ reads (line.Call A (call.Create (codes "b" ∷ []))) 10
          ∷ reads (line.Call A (call.Write (codes "b" ∷ []) 0 (codes "x"))) 14
          ∷ reads (line.Call A call.Sync) 3
          ∷ reads (line.Call A (call.Write (codes "a" ∷ []) 0 (codes "y"))) 14
          ∷ reads (line.Call A (call.Forder ((codes "a" ∷ []) ∷ (codes "b" ∷ []) ∷ []))) 13
          ∷ reads (line.Call A (call.Write (codes "b" ∷ []) 0 (codes "y"))) 14
          ∷ reads (line.Call A (call.Fsync (codes "b" ∷ []))) 9
          ∷ [];
      fates = [];
      max_objects = 1024;
      shown =
          Waits 1 A (call.Create (codes "a" ∷ []))
          ∷ Answered 1 A (call.Create (codes "a" ∷ [])) (answer.Reply reply.Ok) (Some 1)
          ∷ Answered 2 A (call.Write (codes "a" ∷ []) 0 (codes "x")) (answer.Reply reply.Ok) (Some 2)
          ∷ Answered 3 A (call.Create (codes "b" ∷ [])) (answer.Reply reply.Ok) (Some 3)
          ∷ Answered 4 A (call.Write (codes "b" ∷ []) 0 (codes "x")) (answer.Reply reply.Ok) (Some 4)
          ∷ Waits 5 A call.Sync
          ∷ Durable A (1 ∷ 2 ∷ 3 ∷ 4 ∷ [])
          ∷ Answered 5 A call.Sync (answer.Reply reply.Ok) None
          ∷ Answered 6 A (call.Write (codes "a" ∷ []) 0 (codes "y")) (answer.Reply reply.Ok) (Some 5)
          ∷ Answered 7 A (call.Forder ((codes "a" ∷ []) ∷ (codes "b" ∷ []) ∷ [])) (answer.Reply reply.Ok) (Some 6)
          ∷ Answered 8 A (call.Write (codes "b" ∷ []) 0 (codes "y")) (answer.Reply reply.Ok) (Some 7)
          ∷ Waits 9 A (call.Fsync (codes "b" ∷ []))
          ∷ Durable A (5 ∷ 6 ∷ 7 ∷ [])
          ∷ Answered 9 A (call.Fsync (codes "b" ∷ [])) (answer.Reply reply.Ok) None
          ∷ [];
      status = 0;
    }

-- the same without forder: one write becomes durable
abbrev pub untied_files : Run
untied_files =
    record {
      lines =
          reads (line.Call A (call.Create (codes "a" ∷ []))) 10
          ∷ reads (line.Call A (call.Write (codes "a" ∷ []) 0 (codes "x"))) 14
          ∷ reads (line.Call A (call.Create (codes "b" ∷ []))) 10
          ∷ reads (line.Call A (call.Write (codes "b" ∷ []) 0 (codes "x"))) 14
          ∷ reads (line.Call A call.Sync) 3
          ∷ reads (line.Call A (call.Write (codes "a" ∷ []) 0 (codes "y"))) 14
          ∷ reads (line.Call A (call.Write (codes "b" ∷ []) 0 (codes "y"))) 14
          ∷ reads (line.Call A (call.Fsync (codes "b" ∷ []))) 9
          ∷ [];
      fates = [];
      max_objects = 1024;
      shown =
          Waits 1 A (call.Create (codes "a" ∷ []))
          ∷ Answered 1 A (call.Create (codes "a" ∷ [])) (answer.Reply reply.Ok) (Some 1)
          ∷ Answered 2 A (call.Write (codes "a" ∷ []) 0 (codes "x")) (answer.Reply reply.Ok) (Some 2)
          ∷ Answered 3 A (call.Create (codes "b" ∷ [])) (answer.Reply reply.Ok) (Some 3)
          ∷ Answered 4 A (call.Write (codes "b" ∷ []) 0 (codes "x")) (answer.Reply reply.Ok) (Some 4)
          ∷ Waits 5 A call.Sync
          ∷ Durable A (1 ∷ 2 ∷ 3 ∷ 4 ∷ [])
          ∷ Answered 5 A call.Sync (answer.Reply reply.Ok) None
          ∷ Answered 6 A (call.Write (codes "a" ∷ []) 0 (codes "y")) (answer.Reply reply.Ok) (Some 5)
          ∷ Answered 7 A (call.Write (codes "b" ∷ []) 0 (codes "y")) (answer.Reply reply.Ok) (Some 6)
          ∷ Waits 8 A (call.Fsync (codes "b" ∷ []))
          ∷ Durable A (6 ∷ [])
          ∷ Answered 8 A (call.Fsync (codes "b" ∷ [])) (answer.Reply reply.Ok) None
          ∷ [];
      status = 0;
    }

-- a batch that travels twice has its effect once
abbrev pub repeated_batch : Run
repeated_batch =
    record {
      lines =
          reads (line.Call A (call.Create (codes "f" ∷ []))) 10
          ∷ reads (line.Cut A) 5
          ∷ reads (line.Call A (call.Fsync (codes "f" ∷ []))) 9
          ∷ reads (line.Drop A msg.Flush 1) 14
          ∷ reads (line.Uncut A) 7
          ∷ reads (line.Resend A) 8
          ∷ reads (line.Repeat A msg.Flush 1) 16
          ∷ reads (line.Call A (call.Stat (codes "f" ∷ []))) 8
          ∷ [];
      fates = [];
      max_objects = 1024;
      shown =
          Waits 1 A (call.Create (codes "f" ∷ []))
          ∷ Answered 1 A (call.Create (codes "f" ∷ [])) (answer.Reply reply.Ok) (Some 1)
          ∷ Waits 3 A (call.Fsync (codes "f" ∷ []))
          ∷ Durable A (1 ∷ [])
          ∷ Answered 3 A (call.Fsync (codes "f" ∷ [])) (answer.Reply reply.Ok) None
          ∷ Answered 8 A (call.Stat (codes "f" ∷ [])) (answer.Reply (reply.Stat kind.File 420 0 0 0)) None
          ∷ [];
      status = 0;
    }
