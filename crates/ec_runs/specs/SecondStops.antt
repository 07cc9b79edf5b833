-- Random scripts with stops of the server.
use Rattle.std.specs.Prelude.{[], ◌∷◌, None, Some, codes}
use Rattle.ec_volume.specs.declared.image.Kind.TheVariants as kind
use Rattle.ec_plain.specs.declared.call.Call.TheVariants as call
use Rattle.ec_plain.specs.declared.call.Reply.TheVariants as reply
use Rattle.ec_plain.specs.declared.call.Refusal.TheVariants as no
use Rattle.ec_history.specs.declared.entry.Answer.TheVariants as answer
use Rattle.ec_history.specs.declared.shown.Shown.TheVariants.{Waits, Answered, Durable, Ended, Unseen, Told, Crashed, Stopped, Started, Nothing}
use Rattle.ec_disk.specs.declared.disk.Choice.TheVariants as choice
use Rattle.ec_wire.specs.declared.msg.MsgKind.TheVariants as msg
use Rattle.ec_protocol.specs.declared.script.Line.TheVariants as line
use Rattle.ec_protocol.specs.World.{runs, stops_without}
use Rattle.ec_protocol.specs.Drill.{reads}
use Rattle.ec_protocol.specs.Runs.{Run, A, B, C, D}

abbrev pub stop_8 : Run
stop_8 =
    record {
      lines =
          reads (line.Call B (call.Mkdir (codes "d" ∷ []))) 9 ∷ reads (line.Call A (call.Create (codes "a" ∷ []))) 10
          ∷ reads (line.Call B (call.Create (codes "b" ∷ []))) 10 ∷ reads (line.Call A (call.Create (codes "d" ∷ codes "a" ∷ []))) 10
          ∷ reads (line.Call B (call.Read (codes "d" ∷ codes "a" ∷ []) 0 64)) 15 ∷ reads (line.Call B (call.Fsync (codes "d" ∷ []))) 9
          ∷ reads (line.Call B (call.Rmdir (codes "d" ∷ []))) 9 ∷ reads (line.Call A (call.Write (codes "a" ∷ []) 4 (codes "ayy"))) 14
          ∷ reads (line.Resend A) 8 ∷ reads (line.Call B (call.Create (codes "d" ∷ codes "b" ∷ []))) 10
          ∷ reads (line.Call A (call.List (codes "d" ∷ []))) 8 ∷ reads (line.Call A (call.Chown [] 2)) 11
          ∷ reads (line.Call A (call.Rename (codes "a" ∷ []) (codes "d" ∷ codes "a" ∷ []))) 13 ∷ reads (line.Uncut A) 7 ∷ reads (line.Push B 1) 8
          ∷ reads (line.Resend A) 8 ∷ reads (line.Push B 1) 8 ∷ reads (line.Call B (call.Rename (codes "b" ∷ []) (codes "d" ∷ codes "a" ∷ []))) 13
          ∷ reads (line.Uncut A) 7 ∷ reads (line.Cut B) 5 ∷ reads (line.Push B 4) 8 ∷ reads (line.Deliver B msg.Flush 4) 17
          ∷ reads (line.Call B (call.Touch (codes "d" ∷ codes "b" ∷ []) 3)) 14 ∷ reads (line.Crash B) 7
          ∷ reads (line.Call B (call.Mkdir (codes "d" ∷ codes "k" ∷ []))) 9 ∷ reads (line.Call A (call.Stat [])) 8 ∷ reads (line.Uncut B) 7
          ∷ reads (line.Call B (call.Read (codes "d" ∷ codes "b" ∷ []) 0 9)) 15 ∷ reads (line.Call B call.Sync) 3
          ∷ reads (line.Call B (call.List [])) 8 ∷ reads (line.Call B (call.Rename (codes "d" ∷ codes "a" ∷ []) (codes "d" ∷ codes "a" ∷ []))) 15
          ∷ reads (line.Call B (call.Rename (codes "d" ∷ []) (codes "e" ∷ codes "d" ∷ []))) 13
          ∷ reads (line.Call B (call.Chmod (codes "d" ∷ codes "b" ∷ []) 493)) 14
          ∷ reads (line.Call B (call.Write (codes "d" ∷ codes "a" ∷ []) 2 (codes "zxy"))) 16 ∷ reads (line.Call A (call.Fsync (codes "d" ∷ []))) 9
          ∷ reads (line.Cut B) 5 ∷ reads (line.Call A (call.Write (codes "d" ∷ codes "b" ∷ []) 4 (codes "z"))) 16 ∷ reads (line.Cut A) 5
          ∷ reads (line.Call B (call.Write (codes "d" ∷ codes "a" ∷ []) 2 (codes "xyz"))) 16
          ∷ reads (line.Call A (call.Write (codes "d" ∷ codes "a" ∷ []) 1 (codes "y"))) 16 ∷ reads (line.Uncut A) 7 ∷ reads (line.Uncut B) 7
          ∷ reads (line.Resend A) 8 ∷ reads (line.Resend B) 8 ∷ reads (line.Resend A) 8 ∷ reads (line.Resend B) 8
          ∷ reads (line.Call A (call.List [])) 8 ∷ reads (line.Call B (call.List [])) 8 ∷ reads (line.Call B (call.Read (codes "a" ∷ []) 0 64)) 13
          ∷ reads (line.Call A (call.Read (codes "b" ∷ []) 0 64)) 13 ∷ reads (line.Call B (call.Read (codes "d" ∷ codes "a" ∷ []) 0 64)) 15 ∷ [];
      fates = [];
      max_objects = 1024;
      shown =
          Waits 1 B (call.Mkdir (codes "d" ∷ [])) ∷ Answered 1 B (call.Mkdir (codes "d" ∷ [])) (answer.Reply reply.Ok) (Some 1)
          ∷ Waits 2 A (call.Create (codes "a" ∷ [])) ∷ Durable B (1 ∷ [])
          ∷ Answered 2 A (call.Create (codes "a" ∷ [])) (answer.Reply reply.Ok) (Some 1) ∷ Waits 3 B (call.Create (codes "b" ∷ []))
          ∷ Durable A (1 ∷ []) ∷ Answered 3 B (call.Create (codes "b" ∷ [])) (answer.Reply reply.Ok) (Some 2)
          ∷ Waits 4 A (call.Create (codes "d" ∷ codes "a" ∷ [])) ∷ Durable B (2 ∷ [])
          ∷ Answered 4 A (call.Create (codes "d" ∷ codes "a" ∷ [])) (answer.Reply reply.Ok) (Some 2)
          ∷ Waits 5 B (call.Read (codes "d" ∷ codes "a" ∷ []) 0 64) ∷ Durable A (2 ∷ [])
          ∷ Answered 5 B (call.Read (codes "d" ∷ codes "a" ∷ []) 0 64) (answer.Reply (reply.Data [])) None
          ∷ Answered 6 B (call.Fsync (codes "d" ∷ [])) (answer.Reply reply.Ok) None
          ∷ Answered 7 B (call.Rmdir (codes "d" ∷ [])) (answer.Reply (reply.Refused no.NotEmpty)) None
          ∷ Answered 8 A (call.Write (codes "a" ∷ []) 4 (codes "ayy")) (answer.Reply reply.Ok) (Some 3)
          ∷ Waits 10 B (call.Create (codes "d" ∷ codes "b" ∷ []))
          ∷ Answered 10 B (call.Create (codes "d" ∷ codes "b" ∷ [])) (answer.Reply reply.Ok) (Some 3) ∷ Waits 11 A (call.List (codes "d" ∷ []))
          ∷ Durable B (3 ∷ []) ∷ Answered 11 A (call.List (codes "d" ∷ [])) (answer.Reply (reply.Names (codes "a" ∷ codes "b" ∷ []))) None
          ∷ Waits 12 A (call.Chown [] 2) ∷ Answered 12 A (call.Chown [] 2) (answer.Reply reply.Ok) (Some 4)
          ∷ Waits 13 A (call.Rename (codes "a" ∷ []) (codes "d" ∷ codes "a" ∷ []))
          ∷ Answered 13 A (call.Rename (codes "a" ∷ []) (codes "d" ∷ codes "a" ∷ [])) (answer.Reply reply.Ok) (Some 5) ∷ Nothing ∷ Nothing ∷ Nothing
          ∷ Waits 18 B (call.Rename (codes "b" ∷ []) (codes "d" ∷ codes "a" ∷ [])) ∷ Durable A (3 ∷ 4 ∷ 5 ∷ [])
          ∷ Answered 18 B (call.Rename (codes "b" ∷ []) (codes "d" ∷ codes "a" ∷ [])) (answer.Reply reply.Ok) (Some 4) ∷ Nothing ∷ Durable B (4 ∷ [])
          ∷ Answered 23 B (call.Touch (codes "d" ∷ codes "b" ∷ []) 3) (answer.Reply reply.Ok) (Some 5) ∷ Crashed B
          ∷ Waits 25 B (call.Mkdir (codes "d" ∷ codes "k" ∷ [])) ∷ Waits 26 A (call.Stat []) ∷ Ended B (5 ∷ [])
          ∷ Answered 26 A (call.Stat []) (answer.Reply (reply.Stat kind.Dir 493 0 2 1)) None
          ∷ Answered 25 B (call.Mkdir (codes "d" ∷ codes "k" ∷ [])) (answer.Reply reply.Ok) (Some 1)
          ∷ Waits 28 B (call.Read (codes "d" ∷ codes "b" ∷ []) 0 9)
          ∷ Answered 28 B (call.Read (codes "d" ∷ codes "b" ∷ []) 0 9) (answer.Reply (reply.Data [])) None ∷ Waits 29 B call.Sync ∷ Durable B (1 ∷ [])
          ∷ Answered 29 B call.Sync (answer.Reply reply.Ok) None ∷ Answered 30 B (call.List []) (answer.Reply (reply.Names (codes "d" ∷ []))) None
          ∷ Waits 31 B (call.Rename (codes "d" ∷ codes "a" ∷ []) (codes "d" ∷ codes "a" ∷ []))
          ∷ Answered 31 B (call.Rename (codes "d" ∷ codes "a" ∷ []) (codes "d" ∷ codes "a" ∷ [])) (answer.Reply reply.Ok) None
          ∷ Answered 32 B (call.Rename (codes "d" ∷ []) (codes "e" ∷ codes "d" ∷ [])) (answer.Reply (reply.Refused (no.NotFound 1))) None
          ∷ Waits 33 B (call.Chmod (codes "d" ∷ codes "b" ∷ []) 493)
          ∷ Answered 33 B (call.Chmod (codes "d" ∷ codes "b" ∷ []) 493) (answer.Reply reply.Ok) (Some 2)
          ∷ Waits 34 B (call.Write (codes "d" ∷ codes "a" ∷ []) 2 (codes "zxy"))
          ∷ Answered 34 B (call.Write (codes "d" ∷ codes "a" ∷ []) 2 (codes "zxy")) (answer.Reply reply.Ok) (Some 3)
          ∷ Waits 35 A (call.Fsync (codes "d" ∷ [])) ∷ Answered 35 A (call.Fsync (codes "d" ∷ [])) (answer.Reply reply.Ok) None
          ∷ Waits 37 A (call.Write (codes "d" ∷ codes "b" ∷ []) 4 (codes "z"))
          ∷ Answered 39 B (call.Write (codes "d" ∷ codes "a" ∷ []) 2 (codes "xyz")) (answer.Reply reply.Ok) (Some 4)
          ∷ Waits 40 A (call.Write (codes "d" ∷ codes "a" ∷ []) 1 (codes "y")) ∷ Durable B (2 ∷ []) ∷ Durable B (3 ∷ 4 ∷ [])
          ∷ Answered 37 A (call.Write (codes "d" ∷ codes "b" ∷ []) 4 (codes "z")) (answer.Reply reply.Ok) (Some 6)
          ∷ Answered 40 A (call.Write (codes "d" ∷ codes "a" ∷ []) 1 (codes "y")) (answer.Reply reply.Ok) (Some 7)
          ∷ Answered 47 A (call.List []) (answer.Reply (reply.Names (codes "d" ∷ []))) None
          ∷ Answered 48 B (call.List []) (answer.Reply (reply.Names (codes "d" ∷ []))) None
          ∷ Answered 49 B (call.Read (codes "a" ∷ []) 0 64) (answer.Reply (reply.Refused (no.NotFound 1))) None
          ∷ Answered 50 A (call.Read (codes "b" ∷ []) 0 64) (answer.Reply (reply.Refused (no.NotFound 1))) None
          ∷ Waits 51 B (call.Read (codes "d" ∷ codes "a" ∷ []) 0 64) ∷ Durable A (7 ∷ [])
          ∷ Answered 51 B (call.Read (codes "d" ∷ codes "a" ∷ []) 0 64) (answer.Reply (reply.Data (0 ∷ 121 ∷ 120 ∷ 121 ∷ 122 ∷ []))) None ∷ [];
      status = 0;
    }

abbrev pub stop_9 : Run
stop_9 =
    record {
      lines =
          reads (line.Call B (call.Stat (codes "d" ∷ codes "a" ∷ []))) 8 ∷ reads (line.Call B call.Sync) 3
          ∷ reads (line.Call C (call.Write (codes "e" ∷ codes "a" ∷ []) 1 (codes "xz"))) 16
          ∷ reads (line.Call B (call.Fsync (codes "d" ∷ codes "e" ∷ []))) 9
          ∷ reads (line.Call C (call.Write (codes "d" ∷ codes "e" ∷ codes "a" ∷ []) 6 (codes "c"))) 18
          ∷ reads (line.Call C (call.Read (codes "e" ∷ codes "a" ∷ []) 1 9)) 15 ∷ reads (line.Call B (call.Write (codes "b" ∷ []) 1 (codes "ba"))) 14
          ∷ reads (line.Call C (call.Forder ((codes "a" ∷ []) ∷ [] ∷ []))) 13
          ∷ reads (line.Call B (call.Write (codes "e" ∷ codes "a" ∷ []) 0 (codes "zbc"))) 16 ∷ reads (line.Call C (call.List (codes "d" ∷ []))) 8
          ∷ reads (line.Cut B) 5
          ∷ reads (line.Call B (call.Rename (codes "d" ∷ codes "e" ∷ codes "a" ∷ []) (codes "d" ∷ codes "e" ∷ codes "a" ∷ []))) 17
          ∷ reads (line.Call A (call.Write (codes "d" ∷ codes "a" ∷ []) 4 (codes "cx"))) 16 ∷ reads (line.Arm 7 choice.Old) 7
          ∷ reads (line.Call A (call.Create (codes "a" ∷ []))) 10 ∷ reads (line.Call A (call.Read (codes "d" ∷ codes "e" ∷ codes "a" ∷ []) 0 64)) 17
          ∷ reads (line.Call C (call.Create (codes "b" ∷ []))) 10 ∷ reads (line.Call A (call.Create (codes "a" ∷ []))) 10 ∷ reads (line.Resend C) 8
          ∷ reads (line.Call A (call.Write (codes "d" ∷ codes "e" ∷ codes "a" ∷ []) 3 (codes "bc"))) 18
          ∷ reads (line.Call B (call.Forder ((codes "b" ∷ []) ∷ (codes "d" ∷ codes "e" ∷ codes "a" ∷ []) ∷ (codes "d" ∷ codes "e" ∷ codes "a" ∷ []) ∷ []))) 20
          ∷ reads (line.Call C call.Sync) 3 ∷ reads (line.Call A (call.Touch (codes "d" ∷ codes "e" ∷ codes "a" ∷ []) 8)) 16
          ∷ reads (line.Call C (call.Create (codes "b" ∷ []))) 10 ∷ reads (line.Call C (call.Write (codes "b" ∷ []) 6 (codes "xc"))) 14
          ∷ reads (line.Call C (call.Write (codes "b" ∷ []) 1 (codes "z"))) 14 ∷ reads (line.Call B (call.Stat (codes "e" ∷ codes "a" ∷ []))) 8
          ∷ reads (line.Call A (call.Write (codes "e" ∷ codes "a" ∷ []) 3 (codes "czzaa"))) 16 ∷ reads (line.Call B (call.Create (codes "b" ∷ []))) 10
          ∷ reads (line.Call A (call.Stat (codes "d" ∷ codes "e" ∷ codes "a" ∷ []))) 8 ∷ reads (line.Call A (call.Mkdir (codes "e" ∷ []))) 9
          ∷ reads (line.Call B (call.Write (codes "a" ∷ []) 1 (codes "b"))) 14 ∷ reads line.Restart 1 ∷ reads (line.End B) 5
          ∷ reads (line.Call C (call.Write (codes "e" ∷ codes "a" ∷ []) 0 (codes "z"))) 16 ∷ reads (line.Cut A) 5 ∷ reads (line.Call A call.Sync) 3
          ∷ reads (line.End A) 5 ∷ reads (line.Call C (call.Write (codes "a" ∷ []) 2 (codes "bx"))) 14 ∷ reads (line.Uncut A) 7
          ∷ reads (line.Call A (call.Read (codes "d" ∷ codes "e" ∷ codes "a" ∷ []) 0 9)) 17 ∷ reads (line.Call A (call.List [])) 8
          ∷ reads (line.Call A call.Sync) 3 ∷ reads line.Restart 1 ∷ reads (line.Uncut B) 7 ∷ reads (line.Resend A) 8 ∷ reads (line.Resend B) 8
          ∷ reads (line.Resend C) 8 ∷ reads (line.Resend A) 8 ∷ reads (line.Resend B) 8 ∷ reads (line.Resend C) 8
          ∷ reads (line.Call A (call.List [])) 8 ∷ reads (line.Call B (call.List [])) 8 ∷ reads (line.Call C (call.List [])) 8
          ∷ reads (line.Call C (call.Read (codes "a" ∷ []) 0 64)) 13 ∷ reads (line.Call C (call.Read (codes "b" ∷ []) 0 64)) 13
          ∷ reads (line.Call A (call.Read (codes "d" ∷ codes "a" ∷ []) 0 64)) 15 ∷ [];
      fates = [] ∷ [] ∷ [] ∷ [] ∷ [] ∷ [] ∷ [] ∷ [] ∷ [] ∷ [] ∷ [] ∷ [] ∷ [] ∷ [] ∷ [] ∷ [] ∷ [] ∷ [] ∷ [] ∷ [] ∷ [] ∷ [] ∷ [] ∷ [] ∷ [] ∷ [] ∷ [] ∷ []
          ∷ [] ∷ [] ∷ [] ∷ [] ∷ [] ∷ (runs ∷ runs ∷ runs ∷ stops_without ∷ []) ∷ [];
      max_objects = 1024;
      shown =
          Waits 1 B (call.Stat (codes "d" ∷ codes "a" ∷ []))
          ∷ Answered 1 B (call.Stat (codes "d" ∷ codes "a" ∷ [])) (answer.Reply (reply.Refused (no.NotFound 1))) None
          ∷ Answered 2 B call.Sync (answer.Reply reply.Ok) None ∷ Waits 3 C (call.Write (codes "e" ∷ codes "a" ∷ []) 1 (codes "xz"))
          ∷ Answered 3 C (call.Write (codes "e" ∷ codes "a" ∷ []) 1 (codes "xz")) (answer.Reply (reply.Refused (no.NotFound 1))) None
          ∷ Answered 4 B (call.Fsync (codes "d" ∷ codes "e" ∷ [])) (answer.Reply (reply.Refused (no.NotFound 1))) None
          ∷ Answered 5 C (call.Write (codes "d" ∷ codes "e" ∷ codes "a" ∷ []) 6 (codes "c")) (answer.Reply (reply.Refused (no.NotFound 1))) None
          ∷ Answered 6 C (call.Read (codes "e" ∷ codes "a" ∷ []) 1 9) (answer.Reply (reply.Refused (no.NotFound 1))) None
          ∷ Answered 7 B (call.Write (codes "b" ∷ []) 1 (codes "ba")) (answer.Reply (reply.Refused (no.NotFound 1))) None
          ∷ Answered 8 C (call.Forder ((codes "a" ∷ []) ∷ [] ∷ [])) (answer.Reply (reply.Refused (no.NotFound 1))) None
          ∷ Answered 9 B (call.Write (codes "e" ∷ codes "a" ∷ []) 0 (codes "zbc")) (answer.Reply (reply.Refused (no.NotFound 1))) None
          ∷ Answered 10 C (call.List (codes "d" ∷ [])) (answer.Reply (reply.Refused (no.NotFound 1))) None
          ∷ Answered 12 B (call.Rename (codes "d" ∷ codes "e" ∷ codes "a" ∷ []) (codes "d" ∷ codes "e" ∷ codes "a" ∷ [])) (answer.Reply (reply.Refused (no.NotFound 1))) None
          ∷ Waits 13 A (call.Write (codes "d" ∷ codes "a" ∷ []) 4 (codes "cx"))
          ∷ Answered 13 A (call.Write (codes "d" ∷ codes "a" ∷ []) 4 (codes "cx")) (answer.Reply (reply.Refused (no.NotFound 1))) None
          ∷ Waits 15 A (call.Create (codes "a" ∷ []))
          ∷ Answered 16 A (call.Read (codes "d" ∷ codes "e" ∷ codes "a" ∷ []) 0 64) (answer.Reply (reply.Refused (no.NotFound 1))) None
          ∷ Waits 17 C (call.Create (codes "b" ∷ [])) ∷ Waits 18 A (call.Create (codes "a" ∷ []))
          ∷ Waits 20 A (call.Write (codes "d" ∷ codes "e" ∷ codes "a" ∷ []) 3 (codes "bc"))
          ∷ Answered 21 B (call.Forder ((codes "b" ∷ []) ∷ (codes "d" ∷ codes "e" ∷ codes "a" ∷ []) ∷ (codes "d" ∷ codes "e" ∷ codes "a" ∷ []) ∷ [])) (answer.Reply (reply.Refused (no.NotFound 1))) None
          ∷ Answered 22 C call.Sync (answer.Reply reply.Ok) None ∷ Waits 23 A (call.Touch (codes "d" ∷ codes "e" ∷ codes "a" ∷ []) 8)
          ∷ Waits 24 C (call.Create (codes "b" ∷ [])) ∷ Waits 25 C (call.Write (codes "b" ∷ []) 6 (codes "xc"))
          ∷ Waits 26 C (call.Write (codes "b" ∷ []) 1 (codes "z"))
          ∷ Answered 27 B (call.Stat (codes "e" ∷ codes "a" ∷ [])) (answer.Reply (reply.Refused (no.NotFound 1))) None
          ∷ Waits 28 A (call.Write (codes "e" ∷ codes "a" ∷ []) 3 (codes "czzaa")) ∷ Waits 29 B (call.Create (codes "b" ∷ []))
          ∷ Waits 30 A (call.Stat (codes "d" ∷ codes "e" ∷ codes "a" ∷ [])) ∷ Waits 31 A (call.Mkdir (codes "e" ∷ []))
          ∷ Answered 32 B (call.Write (codes "a" ∷ []) 1 (codes "b")) (answer.Reply (reply.Refused (no.NotFound 1))) None ∷ Nothing ∷ Ended B []
          ∷ Answered 20 A (call.Write (codes "d" ∷ codes "e" ∷ codes "a" ∷ []) 3 (codes "bc")) (answer.Reply (reply.Refused (no.NotFound 1))) None
          ∷ Answered 23 A (call.Touch (codes "d" ∷ codes "e" ∷ codes "a" ∷ []) 8) (answer.Reply (reply.Refused (no.NotFound 1))) None
          ∷ Answered 28 A (call.Write (codes "e" ∷ codes "a" ∷ []) 3 (codes "czzaa")) (answer.Reply (reply.Refused (no.NotFound 1))) None
          ∷ Answered 30 A (call.Stat (codes "d" ∷ codes "e" ∷ codes "a" ∷ [])) (answer.Reply (reply.Refused (no.NotFound 1))) None ∷ Stopped
          ∷ Waits 35 C (call.Write (codes "e" ∷ codes "a" ∷ []) 0 (codes "z")) ∷ Answered 37 A call.Sync (answer.Reply reply.Ok) None ∷ Nothing
          ∷ Waits 39 C (call.Write (codes "a" ∷ []) 2 (codes "bx")) ∷ Waits 41 A (call.Read (codes "d" ∷ codes "e" ∷ codes "a" ∷ []) 0 9)
          ∷ Waits 42 A (call.List []) ∷ Answered 43 A call.Sync (answer.Reply reply.Ok) None ∷ Started
          ∷ Answered 41 A (call.Read (codes "d" ∷ codes "e" ∷ codes "a" ∷ []) 0 9) (answer.Reply (reply.Refused (no.NotFound 1))) None
          ∷ Answered 42 A (call.List []) (answer.Reply (reply.Names [])) None
          ∷ Answered 25 C (call.Write (codes "b" ∷ []) 6 (codes "xc")) (answer.Reply (reply.Refused (no.NotFound 1))) None
          ∷ Answered 26 C (call.Write (codes "b" ∷ []) 1 (codes "z")) (answer.Reply (reply.Refused (no.NotFound 1))) None
          ∷ Answered 35 C (call.Write (codes "e" ∷ codes "a" ∷ []) 0 (codes "z")) (answer.Reply (reply.Refused (no.NotFound 1))) None
          ∷ Answered 39 C (call.Write (codes "a" ∷ []) 2 (codes "bx")) (answer.Reply (reply.Refused (no.NotFound 1))) None
          ∷ Answered 15 A (call.Create (codes "a" ∷ [])) (answer.Reply reply.Ok) (Some 1)
          ∷ Answered 18 A (call.Create (codes "a" ∷ [])) (answer.Reply (reply.Refused no.Exists)) None
          ∷ Answered 31 A (call.Mkdir (codes "e" ∷ [])) (answer.Reply reply.Ok) (Some 2) ∷ Durable A (1 ∷ 2 ∷ [])
          ∷ Answered 17 C (call.Create (codes "b" ∷ [])) (answer.Reply reply.Ok) (Some 1)
          ∷ Answered 24 C (call.Create (codes "b" ∷ [])) (answer.Reply (reply.Refused no.Exists)) None ∷ Told B [] ∷ Durable C (1 ∷ [])
          ∷ Answered 29 B (call.Create (codes "b" ∷ [])) (answer.Reply (reply.Refused no.Exists)) None ∷ Waits 52 A (call.List [])
          ∷ Answered 52 A (call.List []) (answer.Reply (reply.Names (codes "a" ∷ codes "b" ∷ codes "e" ∷ []))) None
          ∷ Answered 53 B (call.List []) (answer.Reply (reply.Names (codes "a" ∷ codes "b" ∷ codes "e" ∷ []))) None
          ∷ Answered 54 C (call.List []) (answer.Reply (reply.Names (codes "a" ∷ codes "b" ∷ codes "e" ∷ []))) None
          ∷ Waits 55 C (call.Read (codes "a" ∷ []) 0 64) ∷ Answered 55 C (call.Read (codes "a" ∷ []) 0 64) (answer.Reply (reply.Data [])) None
          ∷ Answered 56 C (call.Read (codes "b" ∷ []) 0 64) (answer.Reply (reply.Data [])) None
          ∷ Answered 57 A (call.Read (codes "d" ∷ codes "a" ∷ []) 0 64) (answer.Reply (reply.Refused (no.NotFound 1))) None ∷ [];
      status = 0;
    }

abbrev pub stop_10 : Run
stop_10 =
    record {
      lines =
          reads (line.Call B (call.Mkdir (codes "d" ∷ []))) 9 ∷ reads (line.Call C (call.Create (codes "a" ∷ []))) 10
          ∷ reads (line.Call C (call.Write (codes "a" ∷ []) 0 (codes "abcdefgh"))) 14 ∷ reads (line.Call A call.Sync) 3
          ∷ reads (line.Call B call.Sync) 3 ∷ reads (line.Call C call.Sync) 3 ∷ reads (line.Call C (call.Stat (codes "a" ∷ []))) 8
          ∷ reads (line.Call A (call.Rename (codes "a" ∷ []) (codes "a" ∷ []))) 13
          ∷ reads (line.Call A (call.Write (codes "a" ∷ []) 4 (codes "xbyza"))) 14 ∷ reads (line.Call C (call.List [])) 8 ∷ reads (line.Uncut A) 7
          ∷ reads (line.Call A (call.Mkdir (codes "e" ∷ []))) 9 ∷ reads (line.Call B (call.Forder ([] ∷ (codes "a" ∷ []) ∷ (codes "a" ∷ []) ∷ []))) 15
          ∷ reads (line.Push A 2) 8 ∷ reads line.Stop 1 ∷ reads (line.Call A (call.Rename (codes "a" ∷ []) (codes "a" ∷ []))) 13
          ∷ reads (line.Call A (call.Read (codes "a" ∷ []) 70000 4)) 17 ∷ reads (line.Call C (call.Fsync (codes "a" ∷ []))) 9
          ∷ reads (line.Call B (call.Write (codes "a" ∷ []) 2 (codes "xyb"))) 14
          ∷ reads (line.Call B (call.Forder ((codes "a" ∷ []) ∷ (codes "d" ∷ []) ∷ []))) 13 ∷ reads line.Restart 1
          ∷ reads (line.Call C (call.Fsync (codes "e" ∷ codes "a" ∷ []))) 9
          ∷ reads (line.Call B (call.Write (codes "d" ∷ codes "a" ∷ []) 4 (codes "zb"))) 16 ∷ reads (line.Call C (call.Stat (codes "a" ∷ []))) 8
          ∷ reads (line.Call B (call.Forder ((codes "d" ∷ codes "a" ∷ []) ∷ (codes "e" ∷ codes "a" ∷ []) ∷ []))) 15
          ∷ reads (line.Call A (call.Fsync (codes "a" ∷ []))) 9 ∷ reads (line.Call A (call.Create (codes "d" ∷ codes "a" ∷ []))) 10
          ∷ reads (line.Call A (call.Rename (codes "a" ∷ []) (codes "e" ∷ codes "a" ∷ []))) 13
          ∷ reads (line.Call A (call.Remove (codes "d" ∷ codes "a" ∷ []))) 10 ∷ reads (line.End C) 5
          ∷ reads (line.Call B (call.Mkdir (codes "e" ∷ []))) 9 ∷ reads (line.Crash C) 7 ∷ reads (line.Resend A) 8 ∷ reads (line.Crash C) 7
          ∷ reads (line.Cut A) 5 ∷ reads (line.Repeat B msg.Back 10) 15 ∷ reads (line.Call B (call.Stat (codes "e" ∷ codes "a" ∷ []))) 8
          ∷ reads (line.Call A (call.Create (codes "d" ∷ codes "a" ∷ []))) 10 ∷ reads line.Restart 1 ∷ reads (line.Drop A msg.Recall 7) 15
          ∷ reads (line.Uncut A) 7 ∷ reads (line.Resend A) 8 ∷ reads (line.Resend B) 8 ∷ reads (line.Resend A) 8 ∷ reads (line.Resend B) 8
          ∷ reads (line.Call A (call.List [])) 8 ∷ reads (line.Call B (call.List [])) 8 ∷ reads (line.Call C (call.List [])) 8
          ∷ reads (line.Call A (call.Read (codes "a" ∷ []) 0 64)) 13 ∷ reads (line.Call B (call.Read (codes "d" ∷ codes "a" ∷ []) 0 64)) 15
          ∷ reads (line.Call A (call.Read (codes "e" ∷ codes "a" ∷ []) 0 64)) 15 ∷ [];
      fates = [];
      max_objects = 1024;
      shown =
          Waits 1 B (call.Mkdir (codes "d" ∷ [])) ∷ Answered 1 B (call.Mkdir (codes "d" ∷ [])) (answer.Reply reply.Ok) (Some 1)
          ∷ Waits 2 C (call.Create (codes "a" ∷ [])) ∷ Durable B (1 ∷ [])
          ∷ Answered 2 C (call.Create (codes "a" ∷ [])) (answer.Reply reply.Ok) (Some 1)
          ∷ Answered 3 C (call.Write (codes "a" ∷ []) 0 (codes "abcdefgh")) (answer.Reply reply.Ok) (Some 2)
          ∷ Answered 4 A call.Sync (answer.Reply reply.Ok) None ∷ Answered 5 B call.Sync (answer.Reply reply.Ok) None ∷ Waits 6 C call.Sync
          ∷ Durable C (1 ∷ 2 ∷ []) ∷ Answered 6 C call.Sync (answer.Reply reply.Ok) None
          ∷ Answered 7 C (call.Stat (codes "a" ∷ [])) (answer.Reply (reply.Stat kind.File 420 0 0 8)) None
          ∷ Waits 8 A (call.Rename (codes "a" ∷ []) (codes "a" ∷ []))
          ∷ Answered 8 A (call.Rename (codes "a" ∷ []) (codes "a" ∷ [])) (answer.Reply reply.Ok) None
          ∷ Waits 9 A (call.Write (codes "a" ∷ []) 4 (codes "xbyza"))
          ∷ Answered 9 A (call.Write (codes "a" ∷ []) 4 (codes "xbyza")) (answer.Reply reply.Ok) (Some 1)
          ∷ Answered 10 C (call.List []) (answer.Reply (reply.Names (codes "a" ∷ codes "d" ∷ []))) None ∷ Nothing
          ∷ Waits 12 A (call.Mkdir (codes "e" ∷ [])) ∷ Answered 12 A (call.Mkdir (codes "e" ∷ [])) (answer.Reply reply.Ok) (Some 2)
          ∷ Waits 13 B (call.Forder ([] ∷ (codes "a" ∷ []) ∷ (codes "a" ∷ []) ∷ [])) ∷ Durable A (2 ∷ []) ∷ Durable A (1 ∷ [])
          ∷ Answered 13 B (call.Forder ([] ∷ (codes "a" ∷ []) ∷ (codes "a" ∷ []) ∷ [])) (answer.Reply reply.Ok) (Some 2) ∷ Nothing ∷ Stopped
          ∷ Waits 16 A (call.Rename (codes "a" ∷ []) (codes "a" ∷ [])) ∷ Waits 17 A (call.Read (codes "a" ∷ []) 70000 4)
          ∷ Waits 18 C (call.Fsync (codes "a" ∷ [])) ∷ Answered 19 B (call.Write (codes "a" ∷ []) 2 (codes "xyb")) (answer.Reply reply.Ok) (Some 3)
          ∷ Answered 20 B (call.Forder ((codes "a" ∷ []) ∷ (codes "d" ∷ []) ∷ [])) (answer.Reply reply.Ok) (Some 4) ∷ Started ∷ Durable B (2 ∷ [])
          ∷ Durable B (3 ∷ 4 ∷ []) ∷ Answered 16 A (call.Rename (codes "a" ∷ []) (codes "a" ∷ [])) (answer.Reply reply.Ok) None
          ∷ Answered 17 A (call.Read (codes "a" ∷ []) 70000 4) (answer.Reply (reply.Data [])) None
          ∷ Answered 18 C (call.Fsync (codes "a" ∷ [])) (answer.Reply reply.Ok) None ∷ Waits 22 C (call.Fsync (codes "e" ∷ codes "a" ∷ []))
          ∷ Answered 22 C (call.Fsync (codes "e" ∷ codes "a" ∷ [])) (answer.Reply (reply.Refused (no.NotFound 2))) None
          ∷ Answered 23 B (call.Write (codes "d" ∷ codes "a" ∷ []) 4 (codes "zb")) (answer.Reply (reply.Refused (no.NotFound 2))) None
          ∷ Answered 24 C (call.Stat (codes "a" ∷ [])) (answer.Reply (reply.Stat kind.File 420 0 0 9)) None
          ∷ Answered 25 B (call.Forder ((codes "d" ∷ codes "a" ∷ []) ∷ (codes "e" ∷ codes "a" ∷ []) ∷ [])) (answer.Reply (reply.Refused (no.NotFound 2))) None
          ∷ Answered 26 A (call.Fsync (codes "a" ∷ [])) (answer.Reply reply.Ok) None ∷ Waits 27 A (call.Create (codes "d" ∷ codes "a" ∷ []))
          ∷ Answered 27 A (call.Create (codes "d" ∷ codes "a" ∷ [])) (answer.Reply reply.Ok) (Some 3)
          ∷ Waits 28 A (call.Rename (codes "a" ∷ []) (codes "e" ∷ codes "a" ∷ []))
          ∷ Answered 28 A (call.Rename (codes "a" ∷ []) (codes "e" ∷ codes "a" ∷ [])) (answer.Reply reply.Ok) (Some 4)
          ∷ Answered 29 A (call.Remove (codes "d" ∷ codes "a" ∷ [])) (answer.Reply reply.Ok) (Some 5) ∷ Ended C [] ∷ Told C []
          ∷ Waits 31 B (call.Mkdir (codes "e" ∷ [])) ∷ Durable A (4 ∷ [])
          ∷ Answered 31 B (call.Mkdir (codes "e" ∷ [])) (answer.Reply (reply.Refused no.Exists)) None ∷ Crashed C ∷ Nothing
          ∷ Waits 37 B (call.Stat (codes "e" ∷ codes "a" ∷ []))
          ∷ Answered 38 A (call.Create (codes "d" ∷ codes "a" ∷ [])) (answer.Reply reply.Ok) (Some 6) ∷ Nothing
          ∷ Answered 37 B (call.Stat (codes "e" ∷ codes "a" ∷ [])) (answer.Reply (reply.Stat kind.File 420 0 0 9)) None
          ∷ Answered 46 A (call.List []) (answer.Reply (reply.Names (codes "d" ∷ codes "e" ∷ []))) None
          ∷ Answered 47 B (call.List []) (answer.Reply (reply.Names (codes "d" ∷ codes "e" ∷ []))) None ∷ Waits 48 C (call.List []) ∷ Unseen C
          ∷ Answered 48 C (call.List []) (answer.Reply (reply.Names (codes "d" ∷ codes "e" ∷ []))) None
          ∷ Answered 49 A (call.Read (codes "a" ∷ []) 0 64) (answer.Reply (reply.Refused (no.NotFound 1))) None
          ∷ Waits 50 B (call.Read (codes "d" ∷ codes "a" ∷ []) 0 64) ∷ Durable A (3 ∷ 5 ∷ 6 ∷ [])
          ∷ Answered 50 B (call.Read (codes "d" ∷ codes "a" ∷ []) 0 64) (answer.Reply (reply.Data [])) None
          ∷ Answered 51 A (call.Read (codes "e" ∷ codes "a" ∷ []) 0 64) (answer.Reply (reply.Data (codes "abxybbyza"))) None ∷ [];
      status = 0;
    }

abbrev pub stop_11 : Run
stop_11 =
    record {
      lines =
          reads (line.Call A (call.Write (codes "d" ∷ codes "a" ∷ []) 1 (codes "ac"))) 16
          ∷ reads (line.Call A (call.Write (codes "d" ∷ codes "a" ∷ []) 5 (codes "xb"))) 16 ∷ reads (line.Call A (call.Create (codes "a" ∷ []))) 10
          ∷ reads (line.Call B (call.Stat [])) 8 ∷ reads (line.Call A (call.Rename (codes "a" ∷ []) (codes "d" ∷ codes "a" ∷ []))) 13
          ∷ reads (line.Call B (call.Stat [])) 8 ∷ reads (line.Call B (call.Write (codes "a" ∷ []) 4 (codes "a"))) 14
          ∷ reads (line.Call A (call.Fsync (codes "a" ∷ []))) 9 ∷ reads (line.Call B (call.Write (codes "d" ∷ codes "a" ∷ []) 0 (codes "aax"))) 16
          ∷ reads (line.Call B (call.Create (codes "e" ∷ codes "a" ∷ []))) 10 ∷ reads (line.Call B (call.Stat (codes "a" ∷ []))) 8
          ∷ reads (line.Call B (call.Mkdir (codes "d" ∷ []))) 9 ∷ reads (line.Call A (call.Read (codes "a" ∷ []) 0 9)) 13
          ∷ reads (line.Call A (call.List [])) 8 ∷ reads (line.Call B (call.Remove (codes "a" ∷ []))) 10
          ∷ reads (line.Call A (call.SetLen (codes "e" ∷ codes "a" ∷ []) 2)) 15 ∷ reads (line.Call B (call.Stat [])) 8
          ∷ reads (line.Call B (call.Fsync (codes "d" ∷ codes "a" ∷ []))) 9 ∷ reads (line.Call A (call.Read (codes "e" ∷ codes "a" ∷ []) 3 0)) 15
          ∷ reads (line.Call A (call.Create (codes "d" ∷ codes "a" ∷ []))) 10 ∷ reads (line.Call B (call.Fsync (codes "d" ∷ []))) 9
          ∷ reads (line.Push A 2) 8 ∷ reads (line.Call A (call.Rename (codes "d" ∷ codes "a" ∷ []) (codes "a" ∷ []))) 15
          ∷ reads (line.Call A (call.Write (codes "a" ∷ []) 2 (codes "by"))) 14 ∷ reads (line.Push A 4) 8
          ∷ reads (line.Call A (call.Rename (codes "e" ∷ []) (codes "e" ∷ []))) 13 ∷ reads (line.Call A (call.Stat (codes "a" ∷ []))) 8
          ∷ reads (line.Call A (call.List [])) 8 ∷ reads (line.Call A (call.Touch (codes "a" ∷ []) 6)) 12
          ∷ reads (line.Call B (call.Create (codes "d" ∷ codes "a" ∷ []))) 10 ∷ reads (line.Call B (call.Fsync (codes "d" ∷ []))) 9
          ∷ reads (line.Call A (call.Create (codes "d" ∷ codes "a" ∷ []))) 10 ∷ reads (line.Call A (call.Touch [] 6)) 11
          ∷ reads (line.Call B (call.Create (codes "d" ∷ codes "a" ∷ []))) 10 ∷ reads (line.Call B (call.Write (codes "a" ∷ []) 0 (codes "zy"))) 14
          ∷ reads (line.Call B (call.Write (codes "a" ∷ []) 1 (codes "b"))) 14 ∷ reads (line.Call B (call.Write (codes "a" ∷ []) 1 (codes "xa"))) 14
          ∷ reads (line.Push B 7) 8 ∷ reads (line.Call B (call.Write (codes "d" ∷ codes "a" ∷ []) 2 (codes "x"))) 16
          ∷ reads (line.Call A (call.List [])) 8 ∷ [];
      fates = [];
      max_objects = 1024;
      shown =
          Waits 1 A (call.Write (codes "d" ∷ codes "a" ∷ []) 1 (codes "ac"))
          ∷ Answered 1 A (call.Write (codes "d" ∷ codes "a" ∷ []) 1 (codes "ac")) (answer.Reply (reply.Refused (no.NotFound 1))) None
          ∷ Answered 2 A (call.Write (codes "d" ∷ codes "a" ∷ []) 5 (codes "xb")) (answer.Reply (reply.Refused (no.NotFound 1))) None
          ∷ Waits 3 A (call.Create (codes "a" ∷ [])) ∷ Answered 3 A (call.Create (codes "a" ∷ [])) (answer.Reply reply.Ok) (Some 1)
          ∷ Waits 4 B (call.Stat []) ∷ Durable A (1 ∷ []) ∷ Answered 4 B (call.Stat []) (answer.Reply (reply.Stat kind.Dir 493 0 0 1)) None
          ∷ Answered 5 A (call.Rename (codes "a" ∷ []) (codes "d" ∷ codes "a" ∷ [])) (answer.Reply (reply.Refused (no.NotFound 1))) None
          ∷ Answered 6 B (call.Stat []) (answer.Reply (reply.Stat kind.Dir 493 0 0 1)) None ∷ Waits 7 B (call.Write (codes "a" ∷ []) 4 (codes "a"))
          ∷ Answered 7 B (call.Write (codes "a" ∷ []) 4 (codes "a")) (answer.Reply reply.Ok) (Some 1) ∷ Waits 8 A (call.Fsync (codes "a" ∷ []))
          ∷ Durable B (1 ∷ []) ∷ Answered 8 A (call.Fsync (codes "a" ∷ [])) (answer.Reply reply.Ok) None
          ∷ Answered 9 B (call.Write (codes "d" ∷ codes "a" ∷ []) 0 (codes "aax")) (answer.Reply (reply.Refused (no.NotFound 1))) None
          ∷ Answered 10 B (call.Create (codes "e" ∷ codes "a" ∷ [])) (answer.Reply (reply.Refused (no.NotFound 1))) None
          ∷ Answered 11 B (call.Stat (codes "a" ∷ [])) (answer.Reply (reply.Stat kind.File 420 0 0 5)) None ∷ Waits 12 B (call.Mkdir (codes "d" ∷ []))
          ∷ Answered 12 B (call.Mkdir (codes "d" ∷ [])) (answer.Reply reply.Ok) (Some 2) ∷ Waits 13 A (call.Read (codes "a" ∷ []) 0 9)
          ∷ Durable B (2 ∷ []) ∷ Answered 13 A (call.Read (codes "a" ∷ []) 0 9) (answer.Reply (reply.Data (0 ∷ 0 ∷ 0 ∷ 0 ∷ 97 ∷ []))) None
          ∷ Answered 14 A (call.List []) (answer.Reply (reply.Names (codes "a" ∷ codes "d" ∷ []))) None ∷ Waits 15 B (call.Remove (codes "a" ∷ []))
          ∷ Answered 15 B (call.Remove (codes "a" ∷ [])) (answer.Reply reply.Ok) (Some 3) ∷ Waits 16 A (call.SetLen (codes "e" ∷ codes "a" ∷ []) 2)
          ∷ Durable B (3 ∷ []) ∷ Answered 16 A (call.SetLen (codes "e" ∷ codes "a" ∷ []) 2) (answer.Reply (reply.Refused (no.NotFound 1))) None
          ∷ Answered 17 B (call.Stat []) (answer.Reply (reply.Stat kind.Dir 493 0 0 1)) None
          ∷ Answered 18 B (call.Fsync (codes "d" ∷ codes "a" ∷ [])) (answer.Reply (reply.Refused (no.NotFound 2))) None
          ∷ Answered 19 A (call.Read (codes "e" ∷ codes "a" ∷ []) 3 0) (answer.Reply (reply.Refused (no.NotFound 1))) None
          ∷ Waits 20 A (call.Create (codes "d" ∷ codes "a" ∷ []))
          ∷ Answered 20 A (call.Create (codes "d" ∷ codes "a" ∷ [])) (answer.Reply reply.Ok) (Some 2) ∷ Waits 21 B (call.Fsync (codes "d" ∷ []))
          ∷ Durable A (2 ∷ []) ∷ Answered 21 B (call.Fsync (codes "d" ∷ [])) (answer.Reply reply.Ok) None ∷ Nothing
          ∷ Waits 23 A (call.Rename (codes "d" ∷ codes "a" ∷ []) (codes "a" ∷ []))
          ∷ Answered 23 A (call.Rename (codes "d" ∷ codes "a" ∷ []) (codes "a" ∷ [])) (answer.Reply reply.Ok) (Some 3)
          ∷ Answered 24 A (call.Write (codes "a" ∷ []) 2 (codes "by")) (answer.Reply reply.Ok) (Some 4) ∷ Durable A (3 ∷ 4 ∷ [])
          ∷ Answered 26 A (call.Rename (codes "e" ∷ []) (codes "e" ∷ [])) (answer.Reply (reply.Refused (no.NotFound 1))) None
          ∷ Answered 27 A (call.Stat (codes "a" ∷ [])) (answer.Reply (reply.Stat kind.File 420 0 0 4)) None
          ∷ Answered 28 A (call.List []) (answer.Reply (reply.Names (codes "a" ∷ codes "d" ∷ []))) None
          ∷ Answered 29 A (call.Touch (codes "a" ∷ []) 6) (answer.Reply reply.Ok) (Some 5) ∷ Waits 30 B (call.Create (codes "d" ∷ codes "a" ∷ []))
          ∷ Answered 30 B (call.Create (codes "d" ∷ codes "a" ∷ [])) (answer.Reply reply.Ok) (Some 4) ∷ Waits 31 B (call.Fsync (codes "d" ∷ []))
          ∷ Durable B (4 ∷ []) ∷ Answered 31 B (call.Fsync (codes "d" ∷ [])) (answer.Reply reply.Ok) None
          ∷ Waits 32 A (call.Create (codes "d" ∷ codes "a" ∷ []))
          ∷ Answered 32 A (call.Create (codes "d" ∷ codes "a" ∷ [])) (answer.Reply (reply.Refused no.Exists)) None ∷ Waits 33 A (call.Touch [] 6)
          ∷ Answered 33 A (call.Touch [] 6) (answer.Reply reply.Ok) (Some 6) ∷ Waits 34 B (call.Create (codes "d" ∷ codes "a" ∷ []))
          ∷ Durable A (6 ∷ []) ∷ Answered 34 B (call.Create (codes "d" ∷ codes "a" ∷ [])) (answer.Reply (reply.Refused no.Exists)) None
          ∷ Waits 35 B (call.Write (codes "a" ∷ []) 0 (codes "zy")) ∷ Durable A (5 ∷ [])
          ∷ Answered 35 B (call.Write (codes "a" ∷ []) 0 (codes "zy")) (answer.Reply reply.Ok) (Some 5)
          ∷ Answered 36 B (call.Write (codes "a" ∷ []) 1 (codes "b")) (answer.Reply reply.Ok) (Some 6)
          ∷ Answered 37 B (call.Write (codes "a" ∷ []) 1 (codes "xa")) (answer.Reply reply.Ok) (Some 7) ∷ Durable B (5 ∷ 6 ∷ 7 ∷ [])
          ∷ Answered 39 B (call.Write (codes "d" ∷ codes "a" ∷ []) 2 (codes "x")) (answer.Reply reply.Ok) (Some 8)
          ∷ Answered 40 A (call.List []) (answer.Reply (reply.Names (codes "a" ∷ codes "d" ∷ []))) None ∷ [];
      status = 0;
    }

abbrev pub stop_12 : Run
stop_12 =
    record {
      lines =
          reads (line.Call A (call.Write (codes "d" ∷ codes "b" ∷ []) 4 (codes "ac"))) 16
          ∷ reads (line.Call A (call.Write (codes "d" ∷ codes "b" ∷ []) 0 (codes "zx"))) 16
          ∷ reads (line.Call A (call.Rename (codes "e" ∷ codes "a" ∷ []) (codes "d" ∷ codes "a" ∷ []))) 15
          ∷ reads (line.Call B (call.Stat (codes "d" ∷ codes "b" ∷ []))) 8 ∷ reads (line.Call A (call.Create (codes "a" ∷ []))) 10
          ∷ reads (line.Call A (call.Stat [])) 8 ∷ reads (line.Call B (call.Stat [])) 8
          ∷ reads (line.Call A (call.Forder ((codes "a" ∷ []) ∷ (codes "d" ∷ codes "e" ∷ []) ∷ []))) 13 ∷ reads (line.Push A 1) 8
          ∷ reads (line.Uncut A) 7 ∷ reads (line.Call B (call.Stat (codes "a" ∷ []))) 8
          ∷ reads (line.Call A (call.Create (codes "d" ∷ codes "a" ∷ []))) 10 ∷ reads (line.Push A 1) 8 ∷ reads (line.Cut B) 5
          ∷ reads (line.Call A (call.Write (codes "a" ∷ []) 3 (codes "y"))) 14 ∷ reads (line.Push A 1) 8 ∷ reads (line.Push A 1) 8
          ∷ reads (line.Call A (call.SetLen (codes "a" ∷ []) 4)) 13 ∷ reads (line.Call A (call.Create (codes "b" ∷ []))) 10
          ∷ reads (line.Call A (call.Read (codes "e" ∷ codes "a" ∷ []) 1 9)) 15 ∷ reads (line.Push A 1) 8
          ∷ reads (line.Call A (call.Create (codes "b" ∷ []))) 10 ∷ reads (line.Call B (call.Fsync [])) 9
          ∷ reads (line.Call B (call.Remove (codes "a" ∷ []))) 10 ∷ reads (line.Call A (call.Write (codes "a" ∷ []) 5 (codes "a"))) 14
          ∷ reads (line.Call A (call.Write (codes "a" ∷ []) 5 (codes "z"))) 14 ∷ reads (line.Call A (call.Write (codes "a" ∷ []) 2 (codes "bb"))) 14
          ∷ reads (line.Call A (call.Write (codes "a" ∷ []) 4 (codes "az"))) 14 ∷ reads (line.Call A (call.Write (codes "a" ∷ []) 2 (codes "y"))) 14
          ∷ reads (line.Call B call.Sync) 3 ∷ reads (line.Call B (call.Read (codes "a" ∷ []) 3 9)) 13
          ∷ reads (line.Call B (call.Read (codes "a" ∷ []) 70000 4)) 17 ∷ reads (line.Call A (call.Read (codes "b" ∷ []) 0 0)) 13
          ∷ reads (line.Resend B) 8 ∷ reads (line.Call B call.Sync) 3 ∷ reads (line.Call A (call.Read (codes "a" ∷ []) 0 0)) 13
          ∷ reads (line.Call A (call.Create (codes "d" ∷ codes "e" ∷ codes "a" ∷ []))) 10
          ∷ reads (line.Call B (call.Write (codes "e" ∷ codes "a" ∷ []) 5 (codes "by"))) 16
          ∷ reads (line.Call B (call.Write (codes "e" ∷ codes "a" ∷ []) 0 (codes "ac"))) 16
          ∷ reads (line.Call B (call.Write (codes "e" ∷ codes "a" ∷ []) 2 (codes "ax"))) 16 ∷ [];
      fates = [];
      max_objects = 1024;
      shown =
          Waits 1 A (call.Write (codes "d" ∷ codes "b" ∷ []) 4 (codes "ac"))
          ∷ Answered 1 A (call.Write (codes "d" ∷ codes "b" ∷ []) 4 (codes "ac")) (answer.Reply (reply.Refused (no.NotFound 1))) None
          ∷ Answered 2 A (call.Write (codes "d" ∷ codes "b" ∷ []) 0 (codes "zx")) (answer.Reply (reply.Refused (no.NotFound 1))) None
          ∷ Answered 3 A (call.Rename (codes "e" ∷ codes "a" ∷ []) (codes "d" ∷ codes "a" ∷ [])) (answer.Reply (reply.Refused (no.NotFound 1))) None
          ∷ Waits 4 B (call.Stat (codes "d" ∷ codes "b" ∷ []))
          ∷ Answered 4 B (call.Stat (codes "d" ∷ codes "b" ∷ [])) (answer.Reply (reply.Refused (no.NotFound 1))) None
          ∷ Waits 5 A (call.Create (codes "a" ∷ [])) ∷ Answered 5 A (call.Create (codes "a" ∷ [])) (answer.Reply reply.Ok) (Some 1)
          ∷ Answered 6 A (call.Stat []) (answer.Reply (reply.Stat kind.Dir 493 0 0 1)) None ∷ Waits 7 B (call.Stat []) ∷ Durable A (1 ∷ [])
          ∷ Answered 7 B (call.Stat []) (answer.Reply (reply.Stat kind.Dir 493 0 0 1)) None
          ∷ Answered 8 A (call.Forder ((codes "a" ∷ []) ∷ (codes "d" ∷ codes "e" ∷ []) ∷ [])) (answer.Reply (reply.Refused (no.NotFound 1))) None
          ∷ Nothing ∷ Nothing ∷ Waits 11 B (call.Stat (codes "a" ∷ []))
          ∷ Answered 11 B (call.Stat (codes "a" ∷ [])) (answer.Reply (reply.Stat kind.File 420 0 0 0)) None
          ∷ Answered 12 A (call.Create (codes "d" ∷ codes "a" ∷ [])) (answer.Reply (reply.Refused (no.NotFound 1))) None ∷ Nothing
          ∷ Waits 15 A (call.Write (codes "a" ∷ []) 3 (codes "y")) ∷ Nothing ∷ Nothing ∷ Waits 18 A (call.SetLen (codes "a" ∷ []) 4)
          ∷ Waits 19 A (call.Create (codes "b" ∷ []))
          ∷ Answered 20 A (call.Read (codes "e" ∷ codes "a" ∷ []) 1 9) (answer.Reply (reply.Refused (no.NotFound 1))) None ∷ Nothing
          ∷ Waits 22 A (call.Create (codes "b" ∷ [])) ∷ Answered 23 B (call.Fsync []) (answer.Reply reply.Ok) None
          ∷ Waits 24 B (call.Remove (codes "a" ∷ [])) ∷ Waits 25 A (call.Write (codes "a" ∷ []) 5 (codes "a"))
          ∷ Waits 26 A (call.Write (codes "a" ∷ []) 5 (codes "z")) ∷ Waits 27 A (call.Write (codes "a" ∷ []) 2 (codes "bb"))
          ∷ Waits 28 A (call.Write (codes "a" ∷ []) 4 (codes "az")) ∷ Waits 29 A (call.Write (codes "a" ∷ []) 2 (codes "y"))
          ∷ Answered 30 B call.Sync (answer.Reply reply.Ok) None ∷ Answered 31 B (call.Read (codes "a" ∷ []) 3 9) (answer.Reply (reply.Data [])) None
          ∷ Answered 32 B (call.Read (codes "a" ∷ []) 70000 4) (answer.Reply (reply.Data [])) None
          ∷ Answered 33 A (call.Read (codes "b" ∷ []) 0 0) (answer.Reply (reply.Refused (no.NotFound 1))) None
          ∷ Answered 35 B call.Sync (answer.Reply reply.Ok) None ∷ Answered 36 A (call.Read (codes "a" ∷ []) 0 0) (answer.Reply (reply.Data [])) None
          ∷ Answered 37 A (call.Create (codes "d" ∷ codes "e" ∷ codes "a" ∷ [])) (answer.Reply (reply.Refused (no.NotFound 1))) None
          ∷ Answered 38 B (call.Write (codes "e" ∷ codes "a" ∷ []) 5 (codes "by")) (answer.Reply (reply.Refused (no.NotFound 1))) None
          ∷ Answered 39 B (call.Write (codes "e" ∷ codes "a" ∷ []) 0 (codes "ac")) (answer.Reply (reply.Refused (no.NotFound 1))) None
          ∷ Answered 40 B (call.Write (codes "e" ∷ codes "a" ∷ []) 2 (codes "ax")) (answer.Reply (reply.Refused (no.NotFound 1))) None ∷ [];
      status = 0;
    }

abbrev pub stop_13 : Run
stop_13 =
    record {
      lines =
          reads (line.Call B (call.Mkdir (codes "d" ∷ []))) 9 ∷ reads (line.Call A (call.Create (codes "a" ∷ []))) 10
          ∷ reads (line.Call B (call.Create (codes "d" ∷ codes "a" ∷ []))) 10 ∷ reads (line.Call B (call.Create (codes "e" ∷ codes "a" ∷ []))) 10
          ∷ reads (line.Call A call.Sync) 3 ∷ reads (line.Call B call.Sync) 3 ∷ reads (line.Call C call.Sync) 3
          ∷ reads (line.Call C (call.Rename (codes "d" ∷ codes "a" ∷ []) (codes "a" ∷ []))) 15
          ∷ reads (line.Call C (call.Create (codes "d" ∷ codes "a" ∷ []))) 10 ∷ reads (line.Push A 1) 8 ∷ reads (line.Call B (call.Touch [] 5)) 11
          ∷ reads (line.Call B (call.Write (codes "a" ∷ []) 2 (codes "axycx"))) 14
          ∷ reads (line.Call A (call.Write (codes "d" ∷ codes "a" ∷ []) 6 (codes "xz"))) 16 ∷ reads (line.Call B (call.Stat [])) 8
          ∷ reads (line.Call B (call.Write (codes "d" ∷ codes "a" ∷ []) 0 (codes "zb"))) 16 ∷ reads (line.Push A 1) 8
          ∷ reads (line.Call A (call.Create (codes "d" ∷ codes "a" ∷ []))) 10 ∷ reads (line.Call B (call.Create (codes "e" ∷ codes "a" ∷ []))) 10
          ∷ reads (line.Call B (call.Mkdir (codes "e" ∷ []))) 9 ∷ reads line.Restart 1
          ∷ reads (line.Call A (call.Create (codes "e" ∷ codes "a" ∷ []))) 10 ∷ reads (line.Call C (call.Mkdir (codes "d" ∷ []))) 9
          ∷ reads (line.Call A (call.Rename (codes "e" ∷ codes "a" ∷ []) (codes "a" ∷ []))) 15
          ∷ reads (line.Call B (call.Write (codes "a" ∷ []) 1 (codes "b"))) 14 ∷ reads (line.Arm 8 choice.Old) 7
          ∷ reads (line.Call B (call.Fsync (codes "d" ∷ codes "a" ∷ []))) 9 ∷ reads (line.Call C (call.Fsync (codes "d" ∷ codes "a" ∷ []))) 9
          ∷ reads (line.Call A (call.Write (codes "a" ∷ []) 4 (codes "y"))) 14 ∷ reads (line.Call C (call.Write (codes "a" ∷ []) 4 (codes "zyy"))) 14
          ∷ reads (line.Call C (call.SetLen (codes "d" ∷ codes "a" ∷ []) 0)) 15 ∷ reads (line.End A) 5
          ∷ reads (line.Call A (call.Create (codes "e" ∷ codes "a" ∷ []))) 10 ∷ reads (line.Call B (call.Stat [])) 8
          ∷ reads (line.Call B (call.Create (codes "d" ∷ codes "a" ∷ []))) 10
          ∷ reads (line.Call A (call.Forder ((codes "d" ∷ codes "a" ∷ []) ∷ (codes "e" ∷ []) ∷ []))) 15
          ∷ reads (line.Call A (call.Write (codes "d" ∷ codes "a" ∷ []) 0 (codes "bx"))) 16 ∷ reads (line.Call B (call.Create (codes "a" ∷ []))) 10
          ∷ reads (line.Call C (call.Stat (codes "e" ∷ codes "a" ∷ []))) 8 ∷ reads (line.End A) 5
          ∷ reads (line.Call C (call.Read (codes "d" ∷ codes "a" ∷ []) 0 64)) 15 ∷ reads line.Restart 1 ∷ reads (line.Resend A) 8
          ∷ reads (line.Resend B) 8 ∷ reads (line.Resend C) 8 ∷ reads (line.Resend A) 8 ∷ reads (line.Resend B) 8 ∷ reads (line.Resend C) 8
          ∷ reads (line.Call A (call.List [])) 8 ∷ reads (line.Call B (call.List [])) 8 ∷ reads (line.Call C (call.List [])) 8
          ∷ reads (line.Call B (call.Read (codes "a" ∷ []) 0 64)) 13 ∷ reads (line.Call A (call.Read (codes "d" ∷ codes "a" ∷ []) 0 64)) 15
          ∷ reads (line.Call A (call.Read (codes "e" ∷ codes "a" ∷ []) 0 64)) 15 ∷ reads (line.Call A call.Sync) 3 ∷ reads (line.Call B call.Sync) 3
          ∷ reads (line.Call C call.Sync) 3 ∷ [];
      fates = [] ∷ [] ∷ [] ∷ [] ∷ [] ∷ [] ∷ [] ∷ [] ∷ [] ∷ [] ∷ [] ∷ [] ∷ [] ∷ [] ∷ [] ∷ [] ∷ [] ∷ [] ∷ [] ∷ [] ∷ [] ∷ [] ∷ [] ∷ [] ∷ [] ∷ [] ∷ []
          ∷ (runs ∷ runs ∷ runs ∷ stops_without ∷ []) ∷ [];
      max_objects = 1024;
      shown =
          Waits 1 B (call.Mkdir (codes "d" ∷ [])) ∷ Answered 1 B (call.Mkdir (codes "d" ∷ [])) (answer.Reply reply.Ok) (Some 1)
          ∷ Waits 2 A (call.Create (codes "a" ∷ [])) ∷ Durable B (1 ∷ [])
          ∷ Answered 2 A (call.Create (codes "a" ∷ [])) (answer.Reply reply.Ok) (Some 1) ∷ Waits 3 B (call.Create (codes "d" ∷ codes "a" ∷ []))
          ∷ Durable A (1 ∷ []) ∷ Answered 3 B (call.Create (codes "d" ∷ codes "a" ∷ [])) (answer.Reply reply.Ok) (Some 2)
          ∷ Answered 4 B (call.Create (codes "e" ∷ codes "a" ∷ [])) (answer.Reply (reply.Refused (no.NotFound 1))) None
          ∷ Answered 5 A call.Sync (answer.Reply reply.Ok) None ∷ Waits 6 B call.Sync ∷ Durable B (2 ∷ [])
          ∷ Answered 6 B call.Sync (answer.Reply reply.Ok) None ∷ Answered 7 C call.Sync (answer.Reply reply.Ok) None
          ∷ Waits 8 C (call.Rename (codes "d" ∷ codes "a" ∷ []) (codes "a" ∷ []))
          ∷ Answered 8 C (call.Rename (codes "d" ∷ codes "a" ∷ []) (codes "a" ∷ [])) (answer.Reply reply.Ok) (Some 1)
          ∷ Waits 9 C (call.Create (codes "d" ∷ codes "a" ∷ []))
          ∷ Answered 9 C (call.Create (codes "d" ∷ codes "a" ∷ [])) (answer.Reply reply.Ok) (Some 2) ∷ Nothing ∷ Waits 11 B (call.Touch [] 5)
          ∷ Durable C (1 ∷ []) ∷ Answered 11 B (call.Touch [] 5) (answer.Reply reply.Ok) (Some 3)
          ∷ Waits 12 B (call.Write (codes "a" ∷ []) 2 (codes "axycx"))
          ∷ Answered 12 B (call.Write (codes "a" ∷ []) 2 (codes "axycx")) (answer.Reply reply.Ok) (Some 4)
          ∷ Waits 13 A (call.Write (codes "d" ∷ codes "a" ∷ []) 6 (codes "xz")) ∷ Durable B (3 ∷ []) ∷ Durable C (2 ∷ [])
          ∷ Answered 13 A (call.Write (codes "d" ∷ codes "a" ∷ []) 6 (codes "xz")) (answer.Reply reply.Ok) (Some 2)
          ∷ Answered 14 B (call.Stat []) (answer.Reply (reply.Stat kind.Dir 493 5 0 2)) None
          ∷ Waits 15 B (call.Write (codes "d" ∷ codes "a" ∷ []) 0 (codes "zb")) ∷ Durable A (2 ∷ [])
          ∷ Answered 15 B (call.Write (codes "d" ∷ codes "a" ∷ []) 0 (codes "zb")) (answer.Reply reply.Ok) (Some 5) ∷ Nothing
          ∷ Answered 17 A (call.Create (codes "d" ∷ codes "a" ∷ [])) (answer.Reply (reply.Refused no.Exists)) None
          ∷ Answered 18 B (call.Create (codes "e" ∷ codes "a" ∷ [])) (answer.Reply (reply.Refused (no.NotFound 1))) None
          ∷ Waits 19 B (call.Mkdir (codes "e" ∷ [])) ∷ Answered 19 B (call.Mkdir (codes "e" ∷ [])) (answer.Reply reply.Ok) (Some 6) ∷ Nothing
          ∷ Waits 21 A (call.Create (codes "e" ∷ codes "a" ∷ [])) ∷ Durable B (6 ∷ [])
          ∷ Answered 21 A (call.Create (codes "e" ∷ codes "a" ∷ [])) (answer.Reply reply.Ok) (Some 3) ∷ Waits 22 C (call.Mkdir (codes "d" ∷ []))
          ∷ Answered 22 C (call.Mkdir (codes "d" ∷ [])) (answer.Reply (reply.Refused no.Exists)) None
          ∷ Waits 23 A (call.Rename (codes "e" ∷ codes "a" ∷ []) (codes "a" ∷ [])) ∷ Durable B (4 ∷ [])
          ∷ Answered 23 A (call.Rename (codes "e" ∷ codes "a" ∷ []) (codes "a" ∷ [])) (answer.Reply reply.Ok) (Some 4)
          ∷ Waits 24 B (call.Write (codes "a" ∷ []) 1 (codes "b")) ∷ Durable A (3 ∷ 4 ∷ [])
          ∷ Answered 24 B (call.Write (codes "a" ∷ []) 1 (codes "b")) (answer.Reply reply.Ok) (Some 7)
          ∷ Waits 26 B (call.Fsync (codes "d" ∷ codes "a" ∷ [])) ∷ Durable B (5 ∷ [])
          ∷ Answered 26 B (call.Fsync (codes "d" ∷ codes "a" ∷ [])) (answer.Reply reply.Ok) None
          ∷ Waits 27 C (call.Fsync (codes "d" ∷ codes "a" ∷ []))
          ∷ Answered 27 C (call.Fsync (codes "d" ∷ codes "a" ∷ [])) (answer.Reply reply.Ok) None
          ∷ Waits 28 A (call.Write (codes "a" ∷ []) 4 (codes "y")) ∷ Stopped ∷ Waits 29 C (call.Write (codes "a" ∷ []) 4 (codes "zyy"))
          ∷ Waits 30 C (call.SetLen (codes "d" ∷ codes "a" ∷ []) 0) ∷ Nothing
          ∷ Answered 32 A (call.Create (codes "e" ∷ codes "a" ∷ [])) (answer.Reply reply.Ok) (Some 5)
          ∷ Answered 33 B (call.Stat []) (answer.Reply (reply.Stat kind.Dir 493 5 0 3)) None
          ∷ Answered 34 B (call.Create (codes "d" ∷ codes "a" ∷ [])) (answer.Reply (reply.Refused no.Exists)) None
          ∷ Waits 35 A (call.Forder ((codes "d" ∷ codes "a" ∷ []) ∷ (codes "e" ∷ []) ∷ []))
          ∷ Waits 36 A (call.Write (codes "d" ∷ codes "a" ∷ []) 0 (codes "bx"))
          ∷ Answered 37 B (call.Create (codes "a" ∷ [])) (answer.Reply (reply.Refused no.Exists)) None
          ∷ Waits 38 C (call.Stat (codes "e" ∷ codes "a" ∷ [])) ∷ Nothing
          ∷ Answered 40 C (call.Read (codes "d" ∷ codes "a" ∷ []) 0 64) (answer.Reply (reply.Data (122 ∷ 98 ∷ 0 ∷ 0 ∷ 0 ∷ 0 ∷ 120 ∷ 122 ∷ []))) None
          ∷ Started ∷ Durable B (7 ∷ []) ∷ Durable A (5 ∷ [])
          ∷ Answered 30 C (call.SetLen (codes "d" ∷ codes "a" ∷ []) 0) (answer.Reply reply.Ok) (Some 3) ∷ Durable C (3 ∷ [])
          ∷ Answered 28 A (call.Write (codes "a" ∷ []) 4 (codes "y")) (answer.Reply reply.Ok) (Some 6)
          ∷ Answered 36 A (call.Write (codes "d" ∷ codes "a" ∷ []) 0 (codes "bx")) (answer.Reply reply.Ok) (Some 7) ∷ Durable A (6 ∷ [])
          ∷ Answered 29 C (call.Write (codes "a" ∷ []) 4 (codes "zyy")) (answer.Reply reply.Ok) (Some 4)
          ∷ Answered 35 A (call.Forder ((codes "d" ∷ codes "a" ∷ []) ∷ (codes "e" ∷ []) ∷ [])) (answer.Reply reply.Ok) (Some 8)
          ∷ Durable A (7 ∷ 8 ∷ []) ∷ Answered 38 C (call.Stat (codes "e" ∷ codes "a" ∷ [])) (answer.Reply (reply.Stat kind.File 420 0 0 0)) None
          ∷ Answered 48 A (call.List []) (answer.Reply (reply.Names (codes "a" ∷ codes "d" ∷ codes "e" ∷ []))) None
          ∷ Answered 49 B (call.List []) (answer.Reply (reply.Names (codes "a" ∷ codes "d" ∷ codes "e" ∷ []))) None
          ∷ Answered 50 C (call.List []) (answer.Reply (reply.Names (codes "a" ∷ codes "d" ∷ codes "e" ∷ []))) None
          ∷ Waits 51 B (call.Read (codes "a" ∷ []) 0 64) ∷ Durable C (4 ∷ [])
          ∷ Answered 51 B (call.Read (codes "a" ∷ []) 0 64) (answer.Reply (reply.Data (0 ∷ 98 ∷ 0 ∷ 0 ∷ 122 ∷ 121 ∷ 121 ∷ []))) None
          ∷ Answered 52 A (call.Read (codes "d" ∷ codes "a" ∷ []) 0 64) (answer.Reply (reply.Data (codes "bx"))) None
          ∷ Answered 53 A (call.Read (codes "e" ∷ codes "a" ∷ []) 0 64) (answer.Reply (reply.Data [])) None
          ∷ Answered 54 A call.Sync (answer.Reply reply.Ok) None ∷ Answered 55 B call.Sync (answer.Reply reply.Ok) None
          ∷ Answered 56 C call.Sync (answer.Reply reply.Ok) None ∷ [];
      status = 0;
    }

abbrev pub stop_14 : Run
stop_14 =
    record {
      lines =
          reads (line.Call B (call.Read [] 0 1)) 12 ∷ reads (line.Call D (call.Stat (codes "d" ∷ []))) 8 ∷ reads (line.Repeat D msg.Grant 1) 16
          ∷ reads (line.Call D call.Sync) 3 ∷ reads (line.Call C (call.Touch (codes "e" ∷ []) 5)) 12
          ∷ reads (line.Call A (call.Chown (codes "e" ∷ codes "a" ∷ []) 0)) 14
          ∷ reads (line.Call C (call.Forder ([] ∷ (codes "e" ∷ codes "a" ∷ []) ∷ []))) 12 ∷ reads (line.Cut A) 5
          ∷ reads (line.Call A (call.Forder ((codes "d" ∷ codes "a" ∷ []) ∷ (codes "e" ∷ codes "a" ∷ []) ∷ []))) 15 ∷ reads (line.Crash A) 7
          ∷ reads (line.Call C (call.Create (codes "a" ∷ []))) 10 ∷ reads (line.Uncut A) 7
          ∷ reads (line.Call A (call.Read (codes "e" ∷ codes "a" ∷ []) 0 9)) 15 ∷ reads (line.Call A (call.Stat (codes "d" ∷ codes "a2" ∷ []))) 8
          ∷ reads (line.Call A call.Sync) 3 ∷ reads (line.Call A (call.Rename (codes "a" ∷ []) (codes "a2" ∷ []))) 13
          ∷ reads (line.Call C (call.Chown (codes "a2" ∷ []) 3)) 13 ∷ reads (line.Call B (call.Read (codes "a2" ∷ []) 0 9)) 14
          ∷ reads (line.Call D (call.Create (codes "a" ∷ []))) 10 ∷ reads (line.Call D (call.Read (codes "a" ∷ []) 1 0)) 13
          ∷ reads (line.Call B (call.Write (codes "a" ∷ []) 0 (codes "b"))) 14 ∷ reads (line.Call B (call.Create (codes "d" ∷ codes "a" ∷ []))) 10
          ∷ reads (line.Call D (call.Read (codes "a2" ∷ []) 1 0)) 14 ∷ reads (line.Call D (call.Read (codes "a2" ∷ []) 3 9)) 14
          ∷ reads (line.Call D (call.Write (codes "a2" ∷ []) 5 (codes "ba"))) 15
          ∷ reads (line.Call D (call.Write (codes "a2" ∷ []) 5 (codes "cc"))) 15 ∷ reads (line.Push D 3) 8
          ∷ reads (line.Call B (call.Write (codes "a" ∷ []) 3 (codes "yy"))) 14 ∷ reads (line.Call B (call.Write (codes "a" ∷ []) 4 (codes "xb"))) 14
          ∷ reads (line.Push B 3) 8 ∷ reads (line.Call D (call.List (codes "d" ∷ []))) 8
          ∷ reads (line.Call D (call.Write (codes "a2" ∷ []) 4 (codes "xzabc"))) 15 ∷ reads line.Stop 1 ∷ reads (line.Push D 4) 8
          ∷ reads (line.Call C (call.Create (codes "d" ∷ codes "a" ∷ []))) 10 ∷ reads (line.Call C (call.Stat (codes "a" ∷ []))) 8
          ∷ reads (line.Call B call.Sync) 3 ∷ reads (line.Drop D msg.Flush 3) 14
          ∷ reads (line.Call B (call.Rename (codes "a2" ∷ []) (codes "e" ∷ codes "a" ∷ []))) 14
          ∷ reads (line.Call B (call.Remove (codes "a2" ∷ []))) 10 ∷ reads line.Restart 1 ∷ reads (line.Resend A) 8 ∷ reads (line.Resend B) 8
          ∷ reads (line.Resend C) 8 ∷ reads (line.Resend D) 8 ∷ reads (line.Resend A) 8 ∷ reads (line.Resend B) 8 ∷ reads (line.Resend C) 8
          ∷ reads (line.Resend D) 8 ∷ reads (line.Call A (call.List [])) 8 ∷ reads (line.Call B (call.List [])) 8
          ∷ reads (line.Call C (call.List [])) 8 ∷ reads (line.Call D (call.List [])) 8 ∷ reads (line.Call D (call.Read (codes "a" ∷ []) 0 64)) 13
          ∷ reads (line.Call A (call.Read (codes "d" ∷ codes "a" ∷ []) 0 64)) 15
          ∷ reads (line.Call D (call.Read (codes "e" ∷ codes "a" ∷ []) 0 64)) 15 ∷ [];
      fates = [];
      max_objects = 1024;
      shown =
          Waits 1 B (call.Read [] 0 1) ∷ Answered 1 B (call.Read [] 0 1) (answer.Reply (reply.Refused no.IsDir)) None
          ∷ Waits 2 D (call.Stat (codes "d" ∷ [])) ∷ Answered 2 D (call.Stat (codes "d" ∷ [])) (answer.Reply (reply.Refused (no.NotFound 1))) None
          ∷ Answered 4 D call.Sync (answer.Reply reply.Ok) None ∷ Waits 5 C (call.Touch (codes "e" ∷ []) 5)
          ∷ Answered 5 C (call.Touch (codes "e" ∷ []) 5) (answer.Reply (reply.Refused (no.NotFound 1))) None
          ∷ Waits 6 A (call.Chown (codes "e" ∷ codes "a" ∷ []) 0)
          ∷ Answered 6 A (call.Chown (codes "e" ∷ codes "a" ∷ []) 0) (answer.Reply (reply.Refused (no.NotFound 1))) None
          ∷ Answered 7 C (call.Forder ([] ∷ (codes "e" ∷ codes "a" ∷ []) ∷ [])) (answer.Reply (reply.Refused (no.NotFound 1))) None
          ∷ Answered 9 A (call.Forder ((codes "d" ∷ codes "a" ∷ []) ∷ (codes "e" ∷ codes "a" ∷ []) ∷ [])) (answer.Reply (reply.Refused (no.NotFound 1))) None
          ∷ Crashed A ∷ Waits 11 C (call.Create (codes "a" ∷ [])) ∷ Waits 13 A (call.Read (codes "e" ∷ codes "a" ∷ []) 0 9) ∷ Ended A []
          ∷ Answered 13 A (call.Read (codes "e" ∷ codes "a" ∷ []) 0 9) (answer.Reply (reply.Refused (no.NotFound 1))) None
          ∷ Answered 11 C (call.Create (codes "a" ∷ [])) (answer.Reply reply.Ok) (Some 1) ∷ Waits 14 A (call.Stat (codes "d" ∷ codes "a2" ∷ []))
          ∷ Durable C (1 ∷ []) ∷ Answered 14 A (call.Stat (codes "d" ∷ codes "a2" ∷ [])) (answer.Reply (reply.Refused (no.NotFound 1))) None
          ∷ Answered 15 A call.Sync (answer.Reply reply.Ok) None ∷ Waits 16 A (call.Rename (codes "a" ∷ []) (codes "a2" ∷ []))
          ∷ Answered 16 A (call.Rename (codes "a" ∷ []) (codes "a2" ∷ [])) (answer.Reply reply.Ok) (Some 1)
          ∷ Waits 17 C (call.Chown (codes "a2" ∷ []) 3) ∷ Durable A (1 ∷ [])
          ∷ Answered 17 C (call.Chown (codes "a2" ∷ []) 3) (answer.Reply reply.Ok) (Some 2) ∷ Waits 18 B (call.Read (codes "a2" ∷ []) 0 9)
          ∷ Durable C (2 ∷ []) ∷ Answered 18 B (call.Read (codes "a2" ∷ []) 0 9) (answer.Reply (reply.Data [])) None
          ∷ Waits 19 D (call.Create (codes "a" ∷ [])) ∷ Answered 19 D (call.Create (codes "a" ∷ [])) (answer.Reply reply.Ok) (Some 1)
          ∷ Answered 20 D (call.Read (codes "a" ∷ []) 1 0) (answer.Reply (reply.Data [])) None
          ∷ Waits 21 B (call.Write (codes "a" ∷ []) 0 (codes "b")) ∷ Durable D (1 ∷ [])
          ∷ Answered 21 B (call.Write (codes "a" ∷ []) 0 (codes "b")) (answer.Reply reply.Ok) (Some 1)
          ∷ Answered 22 B (call.Create (codes "d" ∷ codes "a" ∷ [])) (answer.Reply (reply.Refused (no.NotFound 1))) None
          ∷ Waits 23 D (call.Read (codes "a2" ∷ []) 1 0) ∷ Answered 23 D (call.Read (codes "a2" ∷ []) 1 0) (answer.Reply (reply.Data [])) None
          ∷ Answered 24 D (call.Read (codes "a2" ∷ []) 3 9) (answer.Reply (reply.Data [])) None
          ∷ Waits 25 D (call.Write (codes "a2" ∷ []) 5 (codes "ba"))
          ∷ Answered 25 D (call.Write (codes "a2" ∷ []) 5 (codes "ba")) (answer.Reply reply.Ok) (Some 2)
          ∷ Answered 26 D (call.Write (codes "a2" ∷ []) 5 (codes "cc")) (answer.Reply reply.Ok) (Some 3) ∷ Durable D (2 ∷ 3 ∷ [])
          ∷ Answered 28 B (call.Write (codes "a" ∷ []) 3 (codes "yy")) (answer.Reply reply.Ok) (Some 2)
          ∷ Answered 29 B (call.Write (codes "a" ∷ []) 4 (codes "xb")) (answer.Reply reply.Ok) (Some 3) ∷ Durable B (1 ∷ 2 ∷ 3 ∷ [])
          ∷ Answered 31 D (call.List (codes "d" ∷ [])) (answer.Reply (reply.Refused (no.NotFound 1))) None
          ∷ Answered 32 D (call.Write (codes "a2" ∷ []) 4 (codes "xzabc")) (answer.Reply reply.Ok) (Some 4) ∷ Stopped
          ∷ Waits 35 C (call.Create (codes "d" ∷ codes "a" ∷ [])) ∷ Waits 36 C (call.Stat (codes "a" ∷ []))
          ∷ Answered 37 B call.Sync (answer.Reply reply.Ok) None ∷ Waits 39 B (call.Rename (codes "a2" ∷ []) (codes "e" ∷ codes "a" ∷ []))
          ∷ Waits 40 B (call.Remove (codes "a2" ∷ [])) ∷ Started ∷ Durable D (4 ∷ [])
          ∷ Answered 35 C (call.Create (codes "d" ∷ codes "a" ∷ [])) (answer.Reply (reply.Refused (no.NotFound 1))) None
          ∷ Answered 39 B (call.Rename (codes "a2" ∷ []) (codes "e" ∷ codes "a" ∷ [])) (answer.Reply (reply.Refused (no.NotFound 1))) None
          ∷ Answered 36 C (call.Stat (codes "a" ∷ [])) (answer.Reply (reply.Stat kind.File 420 0 0 6)) None
          ∷ Answered 40 B (call.Remove (codes "a2" ∷ [])) (answer.Reply reply.Ok) (Some 4) ∷ Waits 50 A (call.List []) ∷ Durable B (4 ∷ [])
          ∷ Answered 50 A (call.List []) (answer.Reply (reply.Names (codes "a" ∷ []))) None
          ∷ Answered 51 B (call.List []) (answer.Reply (reply.Names (codes "a" ∷ []))) None ∷ Waits 52 C (call.List [])
          ∷ Answered 52 C (call.List []) (answer.Reply (reply.Names (codes "a" ∷ []))) None ∷ Waits 53 D (call.List [])
          ∷ Answered 53 D (call.List []) (answer.Reply (reply.Names (codes "a" ∷ []))) None ∷ Waits 54 D (call.Read (codes "a" ∷ []) 0 64)
          ∷ Answered 54 D (call.Read (codes "a" ∷ []) 0 64) (answer.Reply (reply.Data (98 ∷ 0 ∷ 0 ∷ 121 ∷ 120 ∷ 98 ∷ []))) None
          ∷ Answered 55 A (call.Read (codes "d" ∷ codes "a" ∷ []) 0 64) (answer.Reply (reply.Refused (no.NotFound 1))) None
          ∷ Answered 56 D (call.Read (codes "e" ∷ codes "a" ∷ []) 0 64) (answer.Reply (reply.Refused (no.NotFound 1))) None ∷ [];
      status = 0;
    }

abbrev pub stop_15 : Run
stop_15 =
    record {
      lines =
          reads (line.Call A (call.Mkdir (codes "d" ∷ []))) 9 ∷ reads (line.Call B (call.Create (codes "a" ∷ []))) 10
          ∷ reads (line.Call B (call.Write (codes "a" ∷ []) 0 (codes "abcdefgh"))) 14 ∷ reads (line.Call A (call.Create (codes "b" ∷ []))) 10
          ∷ reads (line.Call A (call.Write (codes "b" ∷ []) 0 (codes "abcdefgh"))) 14 ∷ reads (line.Call A call.Sync) 3
          ∷ reads (line.Call B call.Sync) 3 ∷ reads (line.Call A (call.Create (codes "d" ∷ codes "b" ∷ []))) 10 ∷ reads (line.Push A 1) 8
          ∷ reads (line.Call A (call.Remove (codes "a" ∷ []))) 10
          ∷ reads (line.Call B (call.Rename (codes "d" ∷ codes "b" ∷ []) (codes "d" ∷ codes "b2" ∷ []))) 15
          ∷ reads (line.Call A (call.Write (codes "d" ∷ codes "b2" ∷ []) 4 (codes "yx"))) 17
          ∷ reads (line.Call A (call.Write (codes "d" ∷ codes "b2" ∷ []) 1 (codes "c"))) 17
          ∷ reads (line.Call A (call.Write (codes "d" ∷ codes "b2" ∷ []) 2 (codes "b"))) 17 ∷ reads (line.Call A (call.Rmdir (codes "d" ∷ []))) 9
          ∷ reads (line.Call B (call.Remove (codes "d" ∷ codes "b2" ∷ []))) 10 ∷ reads (line.Call B (call.List [])) 8
          ∷ reads (line.Call B (call.Write (codes "b" ∷ []) 4 (codes "z"))) 14
          ∷ reads (line.Call B (call.Write (codes "b" ∷ []) 0 (codes "xyzcb"))) 14 ∷ reads (line.Call A call.Sync) 3
          ∷ reads (line.Call A (call.Mkdir (codes "d" ∷ codes "k" ∷ []))) 9 ∷ reads (line.Call A (call.Write (codes "b" ∷ []) 0 (codes "bacxa"))) 14
          ∷ reads (line.Uncut B) 7 ∷ reads (line.Uncut A) 7 ∷ reads (line.Call A (call.Read (codes "b" ∷ []) 0 9)) 13
          ∷ reads (line.Call B (call.Stat [])) 8 ∷ reads (line.Call A (call.Remove (codes "b" ∷ []))) 10
          ∷ reads (line.Call B (call.Read (codes "b" ∷ []) 0 9)) 13
          ∷ reads (line.Call A (call.Rename (codes "d" ∷ codes "e" ∷ codes "a" ∷ []) (codes "b" ∷ []))) 17 ∷ reads (line.Call B (call.Stat [])) 8
          ∷ reads (line.Push B 3) 8 ∷ reads (line.Call A (call.Write (codes "d" ∷ codes "e" ∷ codes "a" ∷ []) 0 (codes "b"))) 18
          ∷ reads (line.Call B (call.SetLen (codes "b" ∷ []) 4)) 13 ∷ reads (line.Call B (call.Create (codes "d" ∷ codes "a" ∷ []))) 10
          ∷ reads (line.Call B (call.Create (codes "b" ∷ []))) 10 ∷ reads (line.Call B (call.Create (codes "d" ∷ codes "b" ∷ []))) 10
          ∷ reads (line.Call A (call.Chmod (codes "d" ∷ codes "k" ∷ []) 4095)) 14
          ∷ reads (line.Call A (call.SetLen (codes "d" ∷ codes "b" ∷ []) 4)) 15 ∷ reads (line.Call A (call.Chmod [] 4095)) 11
          ∷ reads (line.Call A (call.List (codes "d" ∷ codes "k" ∷ []))) 8
          ∷ reads (line.Call A (call.Write (codes "d" ∷ codes "a" ∷ []) 5 (codes "bb"))) 16
          ∷ reads (line.Call A (call.Write (codes "d" ∷ codes "a" ∷ []) 1 (codes "b"))) 16 ∷ reads (line.Call A (call.Fsync [])) 9
          ∷ reads (line.Call B (call.Stat (codes "d" ∷ []))) 8 ∷ reads (line.Push B 8) 8 ∷ reads (line.Call B (call.Create (codes "a" ∷ []))) 10
          ∷ reads (line.Uncut B) 7 ∷ reads line.Restart 1 ∷ reads (line.Call B (call.Mkdir (codes "d" ∷ codes "e" ∷ []))) 9
          ∷ reads (line.Call A (call.Write (codes "d" ∷ codes "a" ∷ []) 3 (codes "x"))) 16 ∷ reads (line.Call A (call.Read (codes "a" ∷ []) 0 0)) 13
          ∷ reads (line.Call A (call.Stat [])) 8 ∷ reads (line.Call B (call.Fsync (codes "b" ∷ []))) 9
          ∷ reads (line.Call A (call.Rename (codes "d" ∷ codes "a" ∷ []) (codes "d" ∷ codes "a2" ∷ []))) 15
          ∷ reads (line.Call A (call.Write (codes "d" ∷ codes "a2" ∷ []) 4 (codes "az"))) 17
          ∷ reads (line.Call A (call.Write (codes "d" ∷ codes "a2" ∷ []) 5 (codes "xc"))) 17 ∷ reads (line.Push A 19) 8
          ∷ reads (line.Call B (call.Create (codes "d" ∷ codes "e" ∷ codes "a" ∷ []))) 10 ∷ reads (line.Call B call.Sync) 3
          ∷ reads (line.Call B (call.Remove (codes "b" ∷ []))) 10 ∷ reads (line.Resend A) 8 ∷ reads (line.Resend B) 8 ∷ reads (line.Resend A) 8
          ∷ reads (line.Resend B) 8 ∷ reads (line.Call A (call.List [])) 8 ∷ reads (line.Call B (call.List [])) 8
          ∷ reads (line.Call B (call.Read (codes "a" ∷ []) 0 64)) 13 ∷ reads (line.Call B (call.Read (codes "b" ∷ []) 0 64)) 13
          ∷ reads (line.Call B (call.Read (codes "d" ∷ codes "a" ∷ []) 0 64)) 15 ∷ reads (line.Call A call.Sync) 3 ∷ reads (line.Call B call.Sync) 3
          ∷ [];
      fates = [];
      max_objects = 1024;
      shown =
          Waits 1 A (call.Mkdir (codes "d" ∷ [])) ∷ Answered 1 A (call.Mkdir (codes "d" ∷ [])) (answer.Reply reply.Ok) (Some 1)
          ∷ Waits 2 B (call.Create (codes "a" ∷ [])) ∷ Durable A (1 ∷ [])
          ∷ Answered 2 B (call.Create (codes "a" ∷ [])) (answer.Reply reply.Ok) (Some 1)
          ∷ Answered 3 B (call.Write (codes "a" ∷ []) 0 (codes "abcdefgh")) (answer.Reply reply.Ok) (Some 2)
          ∷ Waits 4 A (call.Create (codes "b" ∷ [])) ∷ Durable B (1 ∷ [])
          ∷ Answered 4 A (call.Create (codes "b" ∷ [])) (answer.Reply reply.Ok) (Some 2)
          ∷ Answered 5 A (call.Write (codes "b" ∷ []) 0 (codes "abcdefgh")) (answer.Reply reply.Ok) (Some 3) ∷ Waits 6 A call.Sync
          ∷ Durable A (2 ∷ 3 ∷ []) ∷ Answered 6 A call.Sync (answer.Reply reply.Ok) None ∷ Waits 7 B call.Sync ∷ Durable B (2 ∷ [])
          ∷ Answered 7 B call.Sync (answer.Reply reply.Ok) None
          ∷ Answered 8 A (call.Create (codes "d" ∷ codes "b" ∷ [])) (answer.Reply reply.Ok) (Some 4) ∷ Nothing
          ∷ Waits 10 A (call.Remove (codes "a" ∷ [])) ∷ Answered 10 A (call.Remove (codes "a" ∷ [])) (answer.Reply reply.Ok) (Some 5)
          ∷ Waits 11 B (call.Rename (codes "d" ∷ codes "b" ∷ []) (codes "d" ∷ codes "b2" ∷ [])) ∷ Durable A (5 ∷ []) ∷ Durable A (4 ∷ [])
          ∷ Answered 11 B (call.Rename (codes "d" ∷ codes "b" ∷ []) (codes "d" ∷ codes "b2" ∷ [])) (answer.Reply reply.Ok) (Some 3)
          ∷ Waits 12 A (call.Write (codes "d" ∷ codes "b2" ∷ []) 4 (codes "yx")) ∷ Durable B (3 ∷ [])
          ∷ Answered 12 A (call.Write (codes "d" ∷ codes "b2" ∷ []) 4 (codes "yx")) (answer.Reply reply.Ok) (Some 6)
          ∷ Answered 13 A (call.Write (codes "d" ∷ codes "b2" ∷ []) 1 (codes "c")) (answer.Reply reply.Ok) (Some 7)
          ∷ Answered 14 A (call.Write (codes "d" ∷ codes "b2" ∷ []) 2 (codes "b")) (answer.Reply reply.Ok) (Some 8)
          ∷ Answered 15 A (call.Rmdir (codes "d" ∷ [])) (answer.Reply (reply.Refused no.NotEmpty)) None
          ∷ Waits 16 B (call.Remove (codes "d" ∷ codes "b2" ∷ [])) ∷ Durable A (6 ∷ 7 ∷ 8 ∷ [])
          ∷ Answered 16 B (call.Remove (codes "d" ∷ codes "b2" ∷ [])) (answer.Reply reply.Ok) (Some 4)
          ∷ Answered 17 B (call.List []) (answer.Reply (reply.Names (codes "b" ∷ codes "d" ∷ []))) None
          ∷ Waits 18 B (call.Write (codes "b" ∷ []) 4 (codes "z"))
          ∷ Answered 18 B (call.Write (codes "b" ∷ []) 4 (codes "z")) (answer.Reply reply.Ok) (Some 5)
          ∷ Answered 19 B (call.Write (codes "b" ∷ []) 0 (codes "xyzcb")) (answer.Reply reply.Ok) (Some 6)
          ∷ Answered 20 A call.Sync (answer.Reply reply.Ok) None ∷ Waits 21 A (call.Mkdir (codes "d" ∷ codes "k" ∷ [])) ∷ Durable B (4 ∷ [])
          ∷ Answered 21 A (call.Mkdir (codes "d" ∷ codes "k" ∷ [])) (answer.Reply reply.Ok) (Some 9)
          ∷ Waits 22 A (call.Write (codes "b" ∷ []) 0 (codes "bacxa")) ∷ Durable B (5 ∷ 6 ∷ [])
          ∷ Answered 22 A (call.Write (codes "b" ∷ []) 0 (codes "bacxa")) (answer.Reply reply.Ok) (Some 10) ∷ Nothing ∷ Nothing
          ∷ Answered 25 A (call.Read (codes "b" ∷ []) 0 9) (answer.Reply (reply.Data (codes "bacxafgh"))) None
          ∷ Answered 26 B (call.Stat []) (answer.Reply (reply.Stat kind.Dir 493 0 0 2)) None ∷ Waits 27 A (call.Remove (codes "b" ∷ []))
          ∷ Answered 27 A (call.Remove (codes "b" ∷ [])) (answer.Reply reply.Ok) (Some 11) ∷ Waits 28 B (call.Read (codes "b" ∷ []) 0 9)
          ∷ Durable A (10 ∷ 11 ∷ []) ∷ Answered 28 B (call.Read (codes "b" ∷ []) 0 9) (answer.Reply (reply.Refused (no.NotFound 1))) None
          ∷ Answered 29 A (call.Rename (codes "d" ∷ codes "e" ∷ codes "a" ∷ []) (codes "b" ∷ [])) (answer.Reply (reply.Refused (no.NotFound 2))) None
          ∷ Answered 30 B (call.Stat []) (answer.Reply (reply.Stat kind.Dir 493 0 0 1)) None ∷ Nothing
          ∷ Answered 32 A (call.Write (codes "d" ∷ codes "e" ∷ codes "a" ∷ []) 0 (codes "b")) (answer.Reply (reply.Refused (no.NotFound 2))) None
          ∷ Answered 33 B (call.SetLen (codes "b" ∷ []) 4) (answer.Reply (reply.Refused (no.NotFound 1))) None
          ∷ Waits 34 B (call.Create (codes "d" ∷ codes "a" ∷ [])) ∷ Durable A (9 ∷ [])
          ∷ Answered 34 B (call.Create (codes "d" ∷ codes "a" ∷ [])) (answer.Reply reply.Ok) (Some 7) ∷ Waits 35 B (call.Create (codes "b" ∷ []))
          ∷ Answered 35 B (call.Create (codes "b" ∷ [])) (answer.Reply reply.Ok) (Some 8)
          ∷ Answered 36 B (call.Create (codes "d" ∷ codes "b" ∷ [])) (answer.Reply reply.Ok) (Some 9)
          ∷ Waits 37 A (call.Chmod (codes "d" ∷ codes "k" ∷ []) 4095) ∷ Durable B (8 ∷ []) ∷ Durable B (7 ∷ 9 ∷ [])
          ∷ Answered 37 A (call.Chmod (codes "d" ∷ codes "k" ∷ []) 4095) (answer.Reply reply.Ok) (Some 12)
          ∷ Waits 38 A (call.SetLen (codes "d" ∷ codes "b" ∷ []) 4)
          ∷ Answered 38 A (call.SetLen (codes "d" ∷ codes "b" ∷ []) 4) (answer.Reply reply.Ok) (Some 13) ∷ Waits 39 A (call.Chmod [] 4095)
          ∷ Answered 39 A (call.Chmod [] 4095) (answer.Reply reply.Ok) (Some 14)
          ∷ Answered 40 A (call.List (codes "d" ∷ codes "k" ∷ [])) (answer.Reply (reply.Names [])) None
          ∷ Waits 41 A (call.Write (codes "d" ∷ codes "a" ∷ []) 5 (codes "bb"))
          ∷ Answered 41 A (call.Write (codes "d" ∷ codes "a" ∷ []) 5 (codes "bb")) (answer.Reply reply.Ok) (Some 15)
          ∷ Answered 42 A (call.Write (codes "d" ∷ codes "a" ∷ []) 1 (codes "b")) (answer.Reply reply.Ok) (Some 16) ∷ Waits 43 A (call.Fsync [])
          ∷ Durable A (14 ∷ []) ∷ Answered 43 A (call.Fsync []) (answer.Reply reply.Ok) None ∷ Waits 44 B (call.Stat (codes "d" ∷ []))
          ∷ Answered 44 B (call.Stat (codes "d" ∷ [])) (answer.Reply (reply.Stat kind.Dir 493 0 0 3)) None ∷ Nothing
          ∷ Waits 46 B (call.Create (codes "a" ∷ [])) ∷ Answered 46 B (call.Create (codes "a" ∷ [])) (answer.Reply reply.Ok) (Some 10) ∷ Nothing
          ∷ Nothing ∷ Waits 49 B (call.Mkdir (codes "d" ∷ codes "e" ∷ []))
          ∷ Answered 49 B (call.Mkdir (codes "d" ∷ codes "e" ∷ [])) (answer.Reply reply.Ok) (Some 11)
          ∷ Waits 50 A (call.Write (codes "d" ∷ codes "a" ∷ []) 3 (codes "x")) ∷ Durable B (10 ∷ []) ∷ Durable B (11 ∷ [])
          ∷ Answered 50 A (call.Write (codes "d" ∷ codes "a" ∷ []) 3 (codes "x")) (answer.Reply reply.Ok) (Some 17)
          ∷ Waits 51 A (call.Read (codes "a" ∷ []) 0 0) ∷ Answered 51 A (call.Read (codes "a" ∷ []) 0 0) (answer.Reply (reply.Data [])) None
          ∷ Answered 52 A (call.Stat []) (answer.Reply (reply.Stat kind.Dir 4095 0 0 3)) None
          ∷ Answered 53 B (call.Fsync (codes "b" ∷ [])) (answer.Reply reply.Ok) None
          ∷ Waits 54 A (call.Rename (codes "d" ∷ codes "a" ∷ []) (codes "d" ∷ codes "a2" ∷ []))
          ∷ Answered 54 A (call.Rename (codes "d" ∷ codes "a" ∷ []) (codes "d" ∷ codes "a2" ∷ [])) (answer.Reply reply.Ok) (Some 18)
          ∷ Answered 55 A (call.Write (codes "d" ∷ codes "a2" ∷ []) 4 (codes "az")) (answer.Reply reply.Ok) (Some 19)
          ∷ Answered 56 A (call.Write (codes "d" ∷ codes "a2" ∷ []) 5 (codes "xc")) (answer.Reply reply.Ok) (Some 20)
          ∷ Durable A (15 ∷ 16 ∷ 17 ∷ 18 ∷ 19 ∷ []) ∷ Waits 58 B (call.Create (codes "d" ∷ codes "e" ∷ codes "a" ∷ []))
          ∷ Answered 58 B (call.Create (codes "d" ∷ codes "e" ∷ codes "a" ∷ [])) (answer.Reply reply.Ok) (Some 12) ∷ Waits 59 B call.Sync
          ∷ Durable B (12 ∷ []) ∷ Answered 59 B call.Sync (answer.Reply reply.Ok) None ∷ Waits 60 B (call.Remove (codes "b" ∷ []))
          ∷ Answered 60 B (call.Remove (codes "b" ∷ [])) (answer.Reply reply.Ok) (Some 13) ∷ Waits 65 A (call.List []) ∷ Durable B (13 ∷ [])
          ∷ Answered 65 A (call.List []) (answer.Reply (reply.Names (codes "a" ∷ codes "d" ∷ []))) None
          ∷ Answered 66 B (call.List []) (answer.Reply (reply.Names (codes "a" ∷ codes "d" ∷ []))) None
          ∷ Answered 67 B (call.Read (codes "a" ∷ []) 0 64) (answer.Reply (reply.Data [])) None
          ∷ Answered 68 B (call.Read (codes "b" ∷ []) 0 64) (answer.Reply (reply.Refused (no.NotFound 1))) None
          ∷ Answered 69 B (call.Read (codes "d" ∷ codes "a" ∷ []) 0 64) (answer.Reply (reply.Refused (no.NotFound 2))) None ∷ Waits 70 A call.Sync
          ∷ Durable A (12 ∷ 13 ∷ 20 ∷ []) ∷ Answered 70 A call.Sync (answer.Reply reply.Ok) None
          ∷ Answered 71 B call.Sync (answer.Reply reply.Ok) None ∷ [];
      status = 0;
    }
