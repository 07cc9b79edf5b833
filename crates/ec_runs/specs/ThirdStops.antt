-- Random scripts with stops of the server.
use Rattle.std.specs.Prelude.{[], ◌∷◌, None, Some, codes}
use Rattle.ec_volume.specs.declared.image.Kind.TheVariants as kind
use Rattle.ec_plain.specs.declared.call.Call.TheVariants as call
use Rattle.ec_plain.specs.declared.call.Reply.TheVariants as reply
use Rattle.ec_plain.specs.declared.call.Refusal.TheVariants as no
use Rattle.ec_history.specs.declared.entry.Answer.TheVariants as answer
use Rattle.ec_history.specs.declared.shown.Shown.TheVariants.{Waits, Answered, Durable, Ended, Told, Crashed, Stopped, Started, Nothing}
use Rattle.ec_disk.specs.declared.disk.Choice.TheVariants as choice
use Rattle.ec_wire.specs.declared.msg.MsgKind.TheVariants as msg
use Rattle.ec_protocol.specs.declared.script.Line.TheVariants as line
use Rattle.ec_protocol.specs.World.{runs, stops_without, stops_with}
use Rattle.ec_protocol.specs.Drill.{reads}
use Rattle.ec_protocol.specs.Runs.{Run, A, B, C, D}

abbrev pub stop_16 : Run
stop_16 =
    record {
      lines =
          reads (line.Call B (call.Mkdir (codes "d" ∷ []))) 9 ∷ reads (line.Call B (call.Create (codes "a" ∷ []))) 10
          ∷ reads (line.Call B (call.Create (codes "d" ∷ codes "a" ∷ []))) 10 ∷ reads (line.Call B (call.Create (codes "e" ∷ codes "a" ∷ []))) 10
          ∷ reads (line.Call A (call.Create (codes "d" ∷ codes "a" ∷ []))) 10 ∷ reads (line.Call B (call.Write (codes "a" ∷ []) 0 (codes "y"))) 14
          ∷ reads (line.Push B 4) 8 ∷ reads (line.Push B 4) 8 ∷ reads (line.Call B (call.Rename (codes "a" ∷ []) (codes "a" ∷ []))) 13
          ∷ reads (line.Call B (call.Rename (codes "a" ∷ []) (codes "e" ∷ codes "a" ∷ []))) 13
          ∷ reads (line.Call A (call.Create (codes "d" ∷ codes "a" ∷ []))) 10 ∷ reads (line.Call A (call.Stat [])) 8
          ∷ reads (line.Call B (call.Touch (codes "d" ∷ []) 2)) 12 ∷ reads (line.Push B 1) 8 ∷ reads (line.Call A (call.Rmdir (codes "d" ∷ []))) 9
          ∷ reads (line.Call B (call.Read (codes "d" ∷ codes "a" ∷ []) 3 64)) 15 ∷ reads (line.Call A (call.Read (codes "a" ∷ []) 0 2)) 13
          ∷ reads (line.Call A (call.Write (codes "a" ∷ []) 2 (codes "ccc"))) 14 ∷ reads (line.Call B (call.Read (codes "a" ∷ []) 0 9)) 13
          ∷ reads (line.Call A (call.Stat (codes "a" ∷ []))) 8 ∷ reads (line.Call A (call.Create (codes "a" ∷ []))) 10
          ∷ reads (line.Call A (call.Forder ((codes "d" ∷ []) ∷ [] ∷ []))) 13
          ∷ reads (line.Call A (call.Rename (codes "a" ∷ []) (codes "e" ∷ codes "a" ∷ []))) 13 ∷ reads (line.Call B (call.Stat (codes "d" ∷ []))) 8
          ∷ reads (line.Cut A) 5 ∷ reads (line.Call A call.Sync) 3 ∷ reads (line.Call A (call.Write (codes "a" ∷ []) 0 (codes "q"))) 14
          ∷ reads (line.End A) 5 ∷ reads (line.Uncut A) 7 ∷ reads (line.Call A (call.List [])) 8 ∷ reads (line.Call A call.Sync) 3
          ∷ reads (line.Call A (call.Stat (codes "a2" ∷ []))) 8 ∷ reads (line.Call B (call.Fsync (codes "d" ∷ codes "a" ∷ []))) 9
          ∷ reads (line.End B) 5 ∷ reads (line.Call B (call.Remove (codes "d" ∷ codes "a" ∷ []))) 10
          ∷ reads (line.Call B (call.Mkdir (codes "e" ∷ []))) 9 ∷ reads (line.Call A (call.Forder ((codes "a" ∷ []) ∷ []))) 10
          ∷ reads (line.Call B (call.Rename (codes "a" ∷ []) (codes "d" ∷ codes "a" ∷ []))) 13 ∷ reads (line.Call A (call.Remove (codes "a" ∷ []))) 10
          ∷ reads (line.Call A (call.Create (codes "a" ∷ []))) 10 ∷ reads (line.Call B (call.Stat [])) 8
          ∷ reads (line.Call A (call.Read (codes "d" ∷ codes "a" ∷ []) 3 9)) 15 ∷ reads (line.Call B (call.Create (codes "e" ∷ codes "a" ∷ []))) 10
          ∷ reads (line.Call B call.Sync) 3 ∷ reads (line.Call B (call.Touch [] 6)) 11 ∷ reads (line.Call A (call.Remove (codes "a" ∷ []))) 10
          ∷ reads (line.Call A (call.Rename (codes "d" ∷ codes "a" ∷ []) (codes "d" ∷ codes "a" ∷ []))) 15
          ∷ reads (line.Call A (call.Write (codes "d" ∷ codes "a" ∷ []) 0 (codes "zacax"))) 16 ∷ reads (line.Push B 8) 8
          ∷ reads (line.Call B (call.Mkdir (codes "d" ∷ []))) 9 ∷ reads (line.Call B (call.Read (codes "e" ∷ codes "a" ∷ []) 0 2)) 15
          ∷ reads (line.Call B (call.List (codes "d" ∷ []))) 8 ∷ reads (line.Call A (call.Create (codes "a" ∷ []))) 10
          ∷ reads (line.Call A (call.Write (codes "a" ∷ []) 0 (codes "yzcab"))) 14
          ∷ reads (line.Call A (call.Write (codes "e" ∷ codes "a" ∷ []) 6 (codes "cazcy"))) 16
          ∷ reads (line.Call B (call.Write (codes "e" ∷ codes "a" ∷ []) 0 (codes "y"))) 16
          ∷ reads (line.Call A (call.Write (codes "d" ∷ codes "a" ∷ []) 0 (codes "y"))) 16
          ∷ reads (line.Call B (call.Forder ((codes "d" ∷ codes "a" ∷ []) ∷ []))) 10 ∷ reads (line.Resend B) 8
          ∷ reads (line.Call A (call.Chown (codes "d" ∷ codes "a" ∷ []) 0)) 14 ∷ reads (line.Resend A) 8 ∷ reads (line.Resend B) 8
          ∷ reads (line.Resend A) 8 ∷ reads (line.Resend B) 8 ∷ reads (line.Call A (call.List [])) 8 ∷ reads (line.Call B (call.List [])) 8
          ∷ reads (line.Call A (call.Read (codes "a" ∷ []) 0 64)) 13 ∷ reads (line.Call A (call.Read (codes "d" ∷ codes "a" ∷ []) 0 64)) 15
          ∷ reads (line.Call A (call.Read (codes "e" ∷ codes "a" ∷ []) 0 64)) 15 ∷ reads (line.Call A call.Sync) 3 ∷ reads (line.Call B call.Sync) 3
          ∷ [];
      fates = [];
      max_objects = 1024;
      shown =
          Waits 1 B (call.Mkdir (codes "d" ∷ [])) ∷ Answered 1 B (call.Mkdir (codes "d" ∷ [])) (answer.Reply reply.Ok) (Some 1)
          ∷ Answered 2 B (call.Create (codes "a" ∷ [])) (answer.Reply reply.Ok) (Some 2)
          ∷ Answered 3 B (call.Create (codes "d" ∷ codes "a" ∷ [])) (answer.Reply reply.Ok) (Some 3)
          ∷ Answered 4 B (call.Create (codes "e" ∷ codes "a" ∷ [])) (answer.Reply (reply.Refused (no.NotFound 1))) None
          ∷ Waits 5 A (call.Create (codes "d" ∷ codes "a" ∷ [])) ∷ Durable B (1 ∷ 2 ∷ []) ∷ Durable B (3 ∷ [])
          ∷ Answered 5 A (call.Create (codes "d" ∷ codes "a" ∷ [])) (answer.Reply (reply.Refused no.Exists)) None
          ∷ Answered 6 B (call.Write (codes "a" ∷ []) 0 (codes "y")) (answer.Reply reply.Ok) (Some 4) ∷ Durable B (4 ∷ []) ∷ Nothing
          ∷ Answered 9 B (call.Rename (codes "a" ∷ []) (codes "a" ∷ [])) (answer.Reply reply.Ok) None
          ∷ Answered 10 B (call.Rename (codes "a" ∷ []) (codes "e" ∷ codes "a" ∷ [])) (answer.Reply (reply.Refused (no.NotFound 1))) None
          ∷ Answered 11 A (call.Create (codes "d" ∷ codes "a" ∷ [])) (answer.Reply (reply.Refused no.Exists)) None
          ∷ Answered 12 A (call.Stat []) (answer.Reply (reply.Stat kind.Dir 493 0 0 2)) None ∷ Waits 13 B (call.Touch (codes "d" ∷ []) 2)
          ∷ Answered 13 B (call.Touch (codes "d" ∷ []) 2) (answer.Reply reply.Ok) (Some 5) ∷ Nothing ∷ Waits 15 A (call.Rmdir (codes "d" ∷ []))
          ∷ Durable B (5 ∷ []) ∷ Answered 15 A (call.Rmdir (codes "d" ∷ [])) (answer.Reply (reply.Refused no.NotEmpty)) None
          ∷ Answered 16 B (call.Read (codes "d" ∷ codes "a" ∷ []) 3 64) (answer.Reply (reply.Data [])) None
          ∷ Waits 17 A (call.Read (codes "a" ∷ []) 0 2) ∷ Answered 17 A (call.Read (codes "a" ∷ []) 0 2) (answer.Reply (reply.Data (codes "y"))) None
          ∷ Waits 18 A (call.Write (codes "a" ∷ []) 2 (codes "ccc"))
          ∷ Answered 18 A (call.Write (codes "a" ∷ []) 2 (codes "ccc")) (answer.Reply reply.Ok) (Some 1) ∷ Waits 19 B (call.Read (codes "a" ∷ []) 0 9)
          ∷ Durable A (1 ∷ []) ∷ Answered 19 B (call.Read (codes "a" ∷ []) 0 9) (answer.Reply (reply.Data (121 ∷ 0 ∷ 99 ∷ 99 ∷ 99 ∷ []))) None
          ∷ Answered 20 A (call.Stat (codes "a" ∷ [])) (answer.Reply (reply.Stat kind.File 420 0 0 5)) None
          ∷ Answered 21 A (call.Create (codes "a" ∷ [])) (answer.Reply (reply.Refused no.Exists)) None
          ∷ Waits 22 A (call.Forder ((codes "d" ∷ []) ∷ [] ∷ []))
          ∷ Answered 22 A (call.Forder ((codes "d" ∷ []) ∷ [] ∷ [])) (answer.Reply reply.Ok) (Some 2)
          ∷ Answered 23 A (call.Rename (codes "a" ∷ []) (codes "e" ∷ codes "a" ∷ [])) (answer.Reply (reply.Refused (no.NotFound 1))) None
          ∷ Waits 24 B (call.Stat (codes "d" ∷ [])) ∷ Durable A (2 ∷ [])
          ∷ Answered 24 B (call.Stat (codes "d" ∷ [])) (answer.Reply (reply.Stat kind.Dir 493 2 0 1)) None
          ∷ Answered 26 A call.Sync (answer.Reply reply.Ok) None ∷ Waits 27 A (call.Write (codes "a" ∷ []) 0 (codes "q")) ∷ Ended A [] ∷ Told A []
          ∷ Answered 27 A (call.Write (codes "a" ∷ []) 0 (codes "q")) (answer.Reply reply.Ok) (Some 3)
          ∷ Answered 30 A (call.List []) (answer.Reply (reply.Names (codes "a" ∷ codes "d" ∷ []))) None ∷ Waits 31 A call.Sync ∷ Durable A (3 ∷ [])
          ∷ Answered 31 A call.Sync (answer.Reply reply.Ok) None
          ∷ Answered 32 A (call.Stat (codes "a2" ∷ [])) (answer.Reply (reply.Refused (no.NotFound 1))) None
          ∷ Answered 33 B (call.Fsync (codes "d" ∷ codes "a" ∷ [])) (answer.Reply reply.Ok) None ∷ Ended B [] ∷ Told B []
          ∷ Waits 35 B (call.Remove (codes "d" ∷ codes "a" ∷ []))
          ∷ Answered 35 B (call.Remove (codes "d" ∷ codes "a" ∷ [])) (answer.Reply reply.Ok) (Some 6) ∷ Waits 36 B (call.Mkdir (codes "e" ∷ []))
          ∷ Answered 36 B (call.Mkdir (codes "e" ∷ [])) (answer.Reply reply.Ok) (Some 7) ∷ Waits 37 A (call.Forder ((codes "a" ∷ []) ∷ []))
          ∷ Durable B (7 ∷ []) ∷ Answered 37 A (call.Forder ((codes "a" ∷ []) ∷ [])) (answer.Reply reply.Ok) (Some 4)
          ∷ Waits 38 B (call.Rename (codes "a" ∷ []) (codes "d" ∷ codes "a" ∷ [])) ∷ Durable A (4 ∷ [])
          ∷ Answered 38 B (call.Rename (codes "a" ∷ []) (codes "d" ∷ codes "a" ∷ [])) (answer.Reply reply.Ok) (Some 8)
          ∷ Waits 39 A (call.Remove (codes "a" ∷ [])) ∷ Durable B (6 ∷ 8 ∷ [])
          ∷ Answered 39 A (call.Remove (codes "a" ∷ [])) (answer.Reply (reply.Refused (no.NotFound 1))) None
          ∷ Waits 40 A (call.Create (codes "a" ∷ [])) ∷ Answered 40 A (call.Create (codes "a" ∷ [])) (answer.Reply reply.Ok) (Some 5)
          ∷ Waits 41 B (call.Stat []) ∷ Durable A (5 ∷ []) ∷ Answered 41 B (call.Stat []) (answer.Reply (reply.Stat kind.Dir 493 0 0 3)) None
          ∷ Waits 42 A (call.Read (codes "d" ∷ codes "a" ∷ []) 3 9)
          ∷ Answered 42 A (call.Read (codes "d" ∷ codes "a" ∷ []) 3 9) (answer.Reply (reply.Data (codes "cc"))) None
          ∷ Answered 43 B (call.Create (codes "e" ∷ codes "a" ∷ [])) (answer.Reply reply.Ok) (Some 9) ∷ Waits 44 B call.Sync ∷ Durable B (9 ∷ [])
          ∷ Answered 44 B call.Sync (answer.Reply reply.Ok) None ∷ Waits 45 B (call.Touch [] 6)
          ∷ Answered 45 B (call.Touch [] 6) (answer.Reply reply.Ok) (Some 10) ∷ Waits 46 A (call.Remove (codes "a" ∷ [])) ∷ Durable B (10 ∷ [])
          ∷ Answered 46 A (call.Remove (codes "a" ∷ [])) (answer.Reply reply.Ok) (Some 6)
          ∷ Answered 47 A (call.Rename (codes "d" ∷ codes "a" ∷ []) (codes "d" ∷ codes "a" ∷ [])) (answer.Reply reply.Ok) None
          ∷ Waits 48 A (call.Write (codes "d" ∷ codes "a" ∷ []) 0 (codes "zacax"))
          ∷ Answered 48 A (call.Write (codes "d" ∷ codes "a" ∷ []) 0 (codes "zacax")) (answer.Reply reply.Ok) (Some 7) ∷ Nothing
          ∷ Waits 50 B (call.Mkdir (codes "d" ∷ [])) ∷ Durable A (6 ∷ [])
          ∷ Answered 50 B (call.Mkdir (codes "d" ∷ [])) (answer.Reply (reply.Refused no.Exists)) None
          ∷ Answered 51 B (call.Read (codes "e" ∷ codes "a" ∷ []) 0 2) (answer.Reply (reply.Data [])) None
          ∷ Answered 52 B (call.List (codes "d" ∷ [])) (answer.Reply (reply.Names (codes "a" ∷ []))) None ∷ Waits 53 A (call.Create (codes "a" ∷ []))
          ∷ Answered 53 A (call.Create (codes "a" ∷ [])) (answer.Reply reply.Ok) (Some 8)
          ∷ Answered 54 A (call.Write (codes "a" ∷ []) 0 (codes "yzcab")) (answer.Reply reply.Ok) (Some 9)
          ∷ Waits 55 A (call.Write (codes "e" ∷ codes "a" ∷ []) 6 (codes "cazcy"))
          ∷ Answered 55 A (call.Write (codes "e" ∷ codes "a" ∷ []) 6 (codes "cazcy")) (answer.Reply reply.Ok) (Some 10)
          ∷ Waits 56 B (call.Write (codes "e" ∷ codes "a" ∷ []) 0 (codes "y")) ∷ Durable A (8 ∷ []) ∷ Durable A (10 ∷ [])
          ∷ Answered 56 B (call.Write (codes "e" ∷ codes "a" ∷ []) 0 (codes "y")) (answer.Reply reply.Ok) (Some 11)
          ∷ Answered 57 A (call.Write (codes "d" ∷ codes "a" ∷ []) 0 (codes "y")) (answer.Reply reply.Ok) (Some 11)
          ∷ Waits 58 B (call.Forder ((codes "d" ∷ codes "a" ∷ []) ∷ [])) ∷ Durable A (7 ∷ 11 ∷ [])
          ∷ Answered 58 B (call.Forder ((codes "d" ∷ codes "a" ∷ []) ∷ [])) (answer.Reply reply.Ok) (Some 12)
          ∷ Waits 60 A (call.Chown (codes "d" ∷ codes "a" ∷ []) 0) ∷ Durable B (12 ∷ [])
          ∷ Answered 60 A (call.Chown (codes "d" ∷ codes "a" ∷ []) 0) (answer.Reply reply.Ok) (Some 12)
          ∷ Answered 65 A (call.List []) (answer.Reply (reply.Names (codes "a" ∷ codes "d" ∷ codes "e" ∷ []))) None
          ∷ Answered 66 B (call.List []) (answer.Reply (reply.Names (codes "a" ∷ codes "d" ∷ codes "e" ∷ []))) None
          ∷ Answered 67 A (call.Read (codes "a" ∷ []) 0 64) (answer.Reply (reply.Data (codes "yzcab"))) None
          ∷ Answered 68 A (call.Read (codes "d" ∷ codes "a" ∷ []) 0 64) (answer.Reply (reply.Data (codes "yacax"))) None
          ∷ Waits 69 A (call.Read (codes "e" ∷ codes "a" ∷ []) 0 64) ∷ Durable B (11 ∷ [])
          ∷ Answered 69 A (call.Read (codes "e" ∷ codes "a" ∷ []) 0 64) (answer.Reply (reply.Data (121 ∷ 0 ∷ 0 ∷ 0 ∷ 0 ∷ 0 ∷ 99 ∷ 97 ∷ 122 ∷ 99 ∷ 121 ∷ []))) None
          ∷ Waits 70 A call.Sync ∷ Durable A (9 ∷ 12 ∷ []) ∷ Answered 70 A call.Sync (answer.Reply reply.Ok) None
          ∷ Answered 71 B call.Sync (answer.Reply reply.Ok) None ∷ [];
      status = 0;
    }

abbrev pub stop_17 : Run
stop_17 =
    record {
      lines =
          reads (line.Call B (call.Mkdir (codes "d" ∷ []))) 9 ∷ reads (line.Call A (call.Create (codes "a" ∷ []))) 10
          ∷ reads (line.Call A (call.Write (codes "a" ∷ []) 0 (codes "abcdefgh"))) 14 ∷ reads (line.Call A call.Sync) 3
          ∷ reads (line.Call B call.Sync) 3 ∷ reads (line.Call C call.Sync) 3 ∷ reads (line.Call D call.Sync) 3
          ∷ reads (line.Call C (call.Write (codes "a" ∷ []) 6 (codes "c"))) 14 ∷ reads (line.Call B (call.Touch [] 4)) 11
          ∷ reads (line.Call B (call.Chmod (codes "a" ∷ []) 4095)) 12
          ∷ reads (line.Call C (call.Forder ((codes "a" ∷ []) ∷ (codes "a" ∷ []) ∷ (codes "a" ∷ []) ∷ []))) 16
          ∷ reads (line.Call C (call.Create (codes "b" ∷ []))) 10 ∷ reads (line.Call B (call.Write (codes "a" ∷ []) 6 (codes "b"))) 14
          ∷ reads (line.Push A 1) 8 ∷ reads (line.Call B (call.SetLen (codes "b" ∷ []) 0)) 13 ∷ reads (line.Cut B) 5 ∷ reads (line.Push B 5) 8
          ∷ reads (line.Deliver B msg.Flush 4) 17 ∷ reads (line.Drop B msg.Kept 4) 13 ∷ reads (line.End B) 5
          ∷ reads (line.Call D (call.Rename (codes "d" ∷ []) (codes "d" ∷ codes "e" ∷ codes "k" ∷ []))) 13 ∷ reads (line.Uncut B) 7
          ∷ reads (line.Call B (call.Read (codes "a" ∷ []) 0 9)) 13 ∷ reads (line.Call B (call.Read (codes "a" ∷ []) 0 9)) 13
          ∷ reads (line.Call B (call.Stat (codes "a2" ∷ []))) 8 ∷ reads (line.Call A (call.Create (codes "d" ∷ codes "a" ∷ []))) 10
          ∷ reads (line.Call A (call.Write (codes "d" ∷ codes "a" ∷ []) 1 (codes "xxy"))) 16 ∷ reads (line.Call B (call.SetLen (codes "a" ∷ []) 0)) 13
          ∷ reads (line.Call A (call.Fsync [])) 9 ∷ reads (line.Call A (call.Create (codes "d" ∷ codes "b" ∷ []))) 10
          ∷ reads (line.Call B (call.Read (codes "a" ∷ []) 1 0)) 13 ∷ reads (line.Call B (call.Read (codes "d" ∷ codes "b" ∷ []) 0 64)) 15
          ∷ reads (line.Call D (call.Rename (codes "d" ∷ []) (codes "d2" ∷ []))) 13
          ∷ reads (line.Call C (call.Write (codes "b" ∷ []) 3 (codes "a"))) 14
          ∷ reads (line.Call D (call.Write (codes "d2" ∷ codes "b" ∷ []) 1 (codes "x"))) 17
          ∷ reads (line.Call D (call.Write (codes "d2" ∷ codes "b" ∷ []) 4 (codes "zy"))) 17 ∷ reads (line.Push D 3) 8
          ∷ reads (line.Call B (call.Rename (codes "d2" ∷ codes "b" ∷ []) (codes "d2" ∷ codes "b2" ∷ []))) 16
          ∷ reads (line.Call D (call.Remove (codes "d2" ∷ codes "b2" ∷ []))) 10 ∷ reads (line.Call B (call.Mkdir (codes "d" ∷ codes "k" ∷ []))) 9
          ∷ reads (line.Call D (call.List [])) 8 ∷ reads (line.Call C (call.Mkdir (codes "d" ∷ []))) 9
          ∷ reads (line.Call B (call.Mkdir (codes "d" ∷ []))) 9 ∷ reads (line.Call C (call.SetLen (codes "a" ∷ []) 4)) 13
          ∷ reads (line.Call C (call.Chown (codes "a" ∷ []) 7)) 12 ∷ reads (line.Call B (call.Fsync (codes "b" ∷ []))) 9 ∷ reads (line.Uncut B) 7
          ∷ reads (line.Call D (call.Rmdir (codes "d2" ∷ []))) 9 ∷ reads (line.Call C (call.Write (codes "a" ∷ []) 5 (codes "yb"))) 14
          ∷ reads (line.Call C (call.Write (codes "a" ∷ []) 4 (codes "za"))) 14 ∷ reads (line.Call C (call.Write (codes "a" ∷ []) 5 (codes "b"))) 14
          ∷ reads (line.Push C 9) 8 ∷ reads (line.Call A (call.Read (codes "a" ∷ []) 1 2)) 13
          ∷ reads (line.Call A (call.Forder ((codes "a" ∷ []) ∷ (codes "d" ∷ []) ∷ []))) 13
          ∷ reads (line.Call B (call.Rename (codes "d" ∷ []) (codes "d" ∷ codes "z" ∷ []))) 13 ∷ reads (line.Call D (call.Fsync [])) 9
          ∷ reads (line.Call B (call.Rename (codes "d" ∷ codes "a" ∷ []) (codes "d" ∷ codes "b" ∷ []))) 15
          ∷ reads (line.Call D (call.Write (codes "d2" ∷ codes "a" ∷ []) 5 (codes "y"))) 17
          ∷ reads (line.Call D (call.Write (codes "d2" ∷ codes "a" ∷ []) 0 (codes "xz"))) 17
          ∷ reads (line.Call D (call.Write (codes "d2" ∷ codes "a" ∷ []) 1 (codes "x"))) 17 ∷ reads (line.Push D 7) 8 ∷ reads (line.Resend A) 8
          ∷ reads (line.Resend B) 8 ∷ reads (line.Resend C) 8 ∷ reads (line.Resend D) 8 ∷ reads (line.Resend A) 8 ∷ reads (line.Resend B) 8
          ∷ reads (line.Resend C) 8 ∷ reads (line.Resend D) 8 ∷ reads (line.Call A (call.List [])) 8 ∷ reads (line.Call B (call.List [])) 8
          ∷ reads (line.Call C (call.List [])) 8 ∷ reads (line.Call D (call.List [])) 8 ∷ reads (line.Call D (call.Read (codes "a" ∷ []) 0 64)) 13
          ∷ reads (line.Call A (call.Read (codes "b" ∷ []) 0 64)) 13 ∷ reads (line.Call C (call.Read (codes "d" ∷ codes "a" ∷ []) 0 64)) 15 ∷ [];
      fates = [];
      max_objects = 1024;
      shown =
          Waits 1 B (call.Mkdir (codes "d" ∷ [])) ∷ Answered 1 B (call.Mkdir (codes "d" ∷ [])) (answer.Reply reply.Ok) (Some 1)
          ∷ Waits 2 A (call.Create (codes "a" ∷ [])) ∷ Durable B (1 ∷ [])
          ∷ Answered 2 A (call.Create (codes "a" ∷ [])) (answer.Reply reply.Ok) (Some 1)
          ∷ Answered 3 A (call.Write (codes "a" ∷ []) 0 (codes "abcdefgh")) (answer.Reply reply.Ok) (Some 2) ∷ Waits 4 A call.Sync
          ∷ Durable A (1 ∷ 2 ∷ []) ∷ Answered 4 A call.Sync (answer.Reply reply.Ok) None ∷ Answered 5 B call.Sync (answer.Reply reply.Ok) None
          ∷ Answered 6 C call.Sync (answer.Reply reply.Ok) None ∷ Answered 7 D call.Sync (answer.Reply reply.Ok) None
          ∷ Waits 8 C (call.Write (codes "a" ∷ []) 6 (codes "c"))
          ∷ Answered 8 C (call.Write (codes "a" ∷ []) 6 (codes "c")) (answer.Reply reply.Ok) (Some 1) ∷ Waits 9 B (call.Touch [] 4)
          ∷ Answered 9 B (call.Touch [] 4) (answer.Reply reply.Ok) (Some 2) ∷ Waits 10 B (call.Chmod (codes "a" ∷ []) 4095) ∷ Durable C (1 ∷ [])
          ∷ Answered 10 B (call.Chmod (codes "a" ∷ []) 4095) (answer.Reply reply.Ok) (Some 3)
          ∷ Waits 11 C (call.Forder ((codes "a" ∷ []) ∷ (codes "a" ∷ []) ∷ (codes "a" ∷ []) ∷ [])) ∷ Durable B (2 ∷ []) ∷ Durable B (3 ∷ [])
          ∷ Answered 11 C (call.Forder ((codes "a" ∷ []) ∷ (codes "a" ∷ []) ∷ (codes "a" ∷ []) ∷ [])) (answer.Reply reply.Ok) (Some 2)
          ∷ Waits 12 C (call.Create (codes "b" ∷ [])) ∷ Answered 12 C (call.Create (codes "b" ∷ [])) (answer.Reply reply.Ok) (Some 3)
          ∷ Waits 13 B (call.Write (codes "a" ∷ []) 6 (codes "b")) ∷ Durable C (3 ∷ []) ∷ Durable C (2 ∷ [])
          ∷ Answered 13 B (call.Write (codes "a" ∷ []) 6 (codes "b")) (answer.Reply reply.Ok) (Some 4) ∷ Nothing
          ∷ Waits 15 B (call.SetLen (codes "b" ∷ []) 0) ∷ Answered 15 B (call.SetLen (codes "b" ∷ []) 0) (answer.Reply reply.Ok) (Some 5)
          ∷ Durable B (5 ∷ []) ∷ Ended B (4 ∷ []) ∷ Waits 21 D (call.Rename (codes "d" ∷ []) (codes "d" ∷ codes "e" ∷ codes "k" ∷ []))
          ∷ Answered 21 D (call.Rename (codes "d" ∷ []) (codes "d" ∷ codes "e" ∷ codes "k" ∷ [])) (answer.Reply (reply.Refused (no.NotFound 2))) None
          ∷ Told B (4 ∷ []) ∷ Waits 23 B (call.Read (codes "a" ∷ []) 0 9) ∷ Answered 23 B (call.Read (codes "a" ∷ []) 0 9) (answer.Lost (4 ∷ [])) None
          ∷ Answered 24 B (call.Read (codes "a" ∷ []) 0 9) (answer.Reply (reply.Data (codes "abcdefch"))) None
          ∷ Answered 25 B (call.Stat (codes "a2" ∷ [])) (answer.Reply (reply.Refused (no.NotFound 1))) None
          ∷ Waits 26 A (call.Create (codes "d" ∷ codes "a" ∷ []))
          ∷ Answered 26 A (call.Create (codes "d" ∷ codes "a" ∷ [])) (answer.Reply reply.Ok) (Some 3)
          ∷ Answered 27 A (call.Write (codes "d" ∷ codes "a" ∷ []) 1 (codes "xxy")) (answer.Reply reply.Ok) (Some 4)
          ∷ Waits 28 B (call.SetLen (codes "a" ∷ []) 0) ∷ Answered 28 B (call.SetLen (codes "a" ∷ []) 0) (answer.Reply reply.Ok) (Some 6)
          ∷ Answered 29 A (call.Fsync []) (answer.Reply reply.Ok) None
          ∷ Answered 30 A (call.Create (codes "d" ∷ codes "b" ∷ [])) (answer.Reply reply.Ok) (Some 5)
          ∷ Answered 31 B (call.Read (codes "a" ∷ []) 1 0) (answer.Reply (reply.Data [])) None
          ∷ Waits 32 B (call.Read (codes "d" ∷ codes "b" ∷ []) 0 64) ∷ Durable A (3 ∷ 5 ∷ [])
          ∷ Answered 32 B (call.Read (codes "d" ∷ codes "b" ∷ []) 0 64) (answer.Reply (reply.Data [])) None
          ∷ Waits 33 D (call.Rename (codes "d" ∷ []) (codes "d2" ∷ []))
          ∷ Answered 33 D (call.Rename (codes "d" ∷ []) (codes "d2" ∷ [])) (answer.Reply reply.Ok) (Some 1)
          ∷ Waits 34 C (call.Write (codes "b" ∷ []) 3 (codes "a")) ∷ Durable D (1 ∷ [])
          ∷ Answered 34 C (call.Write (codes "b" ∷ []) 3 (codes "a")) (answer.Reply reply.Ok) (Some 4)
          ∷ Waits 35 D (call.Write (codes "d2" ∷ codes "b" ∷ []) 1 (codes "x"))
          ∷ Answered 35 D (call.Write (codes "d2" ∷ codes "b" ∷ []) 1 (codes "x")) (answer.Reply reply.Ok) (Some 2)
          ∷ Answered 36 D (call.Write (codes "d2" ∷ codes "b" ∷ []) 4 (codes "zy")) (answer.Reply reply.Ok) (Some 3) ∷ Durable D (2 ∷ 3 ∷ [])
          ∷ Waits 38 B (call.Rename (codes "d2" ∷ codes "b" ∷ []) (codes "d2" ∷ codes "b2" ∷ []))
          ∷ Answered 38 B (call.Rename (codes "d2" ∷ codes "b" ∷ []) (codes "d2" ∷ codes "b2" ∷ [])) (answer.Reply reply.Ok) (Some 7)
          ∷ Waits 39 D (call.Remove (codes "d2" ∷ codes "b2" ∷ [])) ∷ Durable B (7 ∷ [])
          ∷ Answered 39 D (call.Remove (codes "d2" ∷ codes "b2" ∷ [])) (answer.Reply reply.Ok) (Some 4)
          ∷ Answered 40 B (call.Mkdir (codes "d" ∷ codes "k" ∷ [])) (answer.Reply (reply.Refused (no.NotFound 1))) None
          ∷ Answered 41 D (call.List []) (answer.Reply (reply.Names (codes "a" ∷ codes "b" ∷ codes "d2" ∷ []))) None
          ∷ Waits 42 C (call.Mkdir (codes "d" ∷ [])) ∷ Answered 42 C (call.Mkdir (codes "d" ∷ [])) (answer.Reply reply.Ok) (Some 5)
          ∷ Waits 43 B (call.Mkdir (codes "d" ∷ [])) ∷ Durable C (5 ∷ [])
          ∷ Answered 43 B (call.Mkdir (codes "d" ∷ [])) (answer.Reply (reply.Refused no.Exists)) None ∷ Waits 44 C (call.SetLen (codes "a" ∷ []) 4)
          ∷ Durable B (6 ∷ []) ∷ Answered 44 C (call.SetLen (codes "a" ∷ []) 4) (answer.Reply reply.Ok) (Some 6)
          ∷ Answered 45 C (call.Chown (codes "a" ∷ []) 7) (answer.Reply reply.Ok) (Some 7) ∷ Waits 46 B (call.Fsync (codes "b" ∷ []))
          ∷ Durable C (4 ∷ []) ∷ Answered 46 B (call.Fsync (codes "b" ∷ [])) (answer.Reply reply.Ok) None ∷ Nothing
          ∷ Waits 48 D (call.Rmdir (codes "d2" ∷ [])) ∷ Answered 48 D (call.Rmdir (codes "d2" ∷ [])) (answer.Reply (reply.Refused no.NotEmpty)) None
          ∷ Answered 49 C (call.Write (codes "a" ∷ []) 5 (codes "yb")) (answer.Reply reply.Ok) (Some 8)
          ∷ Answered 50 C (call.Write (codes "a" ∷ []) 4 (codes "za")) (answer.Reply reply.Ok) (Some 9)
          ∷ Answered 51 C (call.Write (codes "a" ∷ []) 5 (codes "b")) (answer.Reply reply.Ok) (Some 10) ∷ Durable C (6 ∷ 7 ∷ 8 ∷ 9 ∷ [])
          ∷ Waits 53 A (call.Read (codes "a" ∷ []) 1 2) ∷ Durable C (10 ∷ [])
          ∷ Answered 53 A (call.Read (codes "a" ∷ []) 1 2) (answer.Reply (reply.Data (0 ∷ 0 ∷ []))) None
          ∷ Waits 54 A (call.Forder ((codes "a" ∷ []) ∷ (codes "d" ∷ []) ∷ []))
          ∷ Answered 54 A (call.Forder ((codes "a" ∷ []) ∷ (codes "d" ∷ []) ∷ [])) (answer.Reply reply.Ok) (Some 6)
          ∷ Waits 55 B (call.Rename (codes "d" ∷ []) (codes "d" ∷ codes "z" ∷ [])) ∷ Durable A (6 ∷ [])
          ∷ Answered 55 B (call.Rename (codes "d" ∷ []) (codes "d" ∷ codes "z" ∷ [])) (answer.Reply (reply.Refused no.Loop)) None
          ∷ Answered 56 D (call.Fsync []) (answer.Reply reply.Ok) None
          ∷ Answered 57 B (call.Rename (codes "d" ∷ codes "a" ∷ []) (codes "d" ∷ codes "b" ∷ [])) (answer.Reply (reply.Refused (no.NotFound 2))) None
          ∷ Waits 58 D (call.Write (codes "d2" ∷ codes "a" ∷ []) 5 (codes "y")) ∷ Durable A (4 ∷ [])
          ∷ Answered 58 D (call.Write (codes "d2" ∷ codes "a" ∷ []) 5 (codes "y")) (answer.Reply reply.Ok) (Some 5)
          ∷ Answered 59 D (call.Write (codes "d2" ∷ codes "a" ∷ []) 0 (codes "xz")) (answer.Reply reply.Ok) (Some 6)
          ∷ Answered 60 D (call.Write (codes "d2" ∷ codes "a" ∷ []) 1 (codes "x")) (answer.Reply reply.Ok) (Some 7) ∷ Durable D (5 ∷ 6 ∷ 7 ∷ [])
          ∷ Answered 70 A (call.List []) (answer.Reply (reply.Names (codes "a" ∷ codes "b" ∷ codes "d" ∷ codes "d2" ∷ []))) None
          ∷ Answered 71 B (call.List []) (answer.Reply (reply.Names (codes "a" ∷ codes "b" ∷ codes "d" ∷ codes "d2" ∷ []))) None
          ∷ Answered 72 C (call.List []) (answer.Reply (reply.Names (codes "a" ∷ codes "b" ∷ codes "d" ∷ codes "d2" ∷ []))) None
          ∷ Answered 73 D (call.List []) (answer.Reply (reply.Names (codes "a" ∷ codes "b" ∷ codes "d" ∷ codes "d2" ∷ []))) None
          ∷ Waits 74 D (call.Read (codes "a" ∷ []) 0 64)
          ∷ Answered 74 D (call.Read (codes "a" ∷ []) 0 64) (answer.Reply (reply.Data (0 ∷ 0 ∷ 0 ∷ 0 ∷ 122 ∷ 98 ∷ 98 ∷ []))) None
          ∷ Waits 75 A (call.Read (codes "b" ∷ []) 0 64)
          ∷ Answered 75 A (call.Read (codes "b" ∷ []) 0 64) (answer.Reply (reply.Data (0 ∷ 0 ∷ 0 ∷ 97 ∷ []))) None
          ∷ Waits 76 C (call.Read (codes "d" ∷ codes "a" ∷ []) 0 64)
          ∷ Answered 76 C (call.Read (codes "d" ∷ codes "a" ∷ []) 0 64) (answer.Reply (reply.Refused (no.NotFound 2))) None ∷ [];
      status = 0;
    }

abbrev pub stop_18 : Run
stop_18 =
    record {
      lines =
          reads (line.Call C (call.Mkdir (codes "d" ∷ []))) 9 ∷ reads (line.Call A (call.Create (codes "a" ∷ []))) 10
          ∷ reads (line.Call C (call.Create (codes "b" ∷ []))) 10 ∷ reads (line.Call A (call.Create (codes "d" ∷ codes "a" ∷ []))) 10
          ∷ reads (line.Push A 1) 8 ∷ reads (line.Call B (call.SetLen (codes "b" ∷ []) 4)) 13
          ∷ reads (line.Call B (call.Write (codes "d" ∷ codes "a" ∷ []) 0 (codes "xbz"))) 16 ∷ reads (line.Crash C) 7
          ∷ reads (line.Call A (call.Write (codes "b" ∷ []) 2 (codes "xxx"))) 14 ∷ reads (line.Push B 1) 8
          ∷ reads (line.Call A (call.Stat (codes "d" ∷ []))) 8 ∷ reads (line.Call A (call.Write (codes "a" ∷ []) 1 (codes "y"))) 14
          ∷ reads (line.Call B (call.Stat [])) 8 ∷ reads (line.Call B (call.Rename (codes "d" ∷ []) (codes "d2" ∷ []))) 13 ∷ [];
      fates = [];
      max_objects = 1024;
      shown =
          Waits 1 C (call.Mkdir (codes "d" ∷ [])) ∷ Answered 1 C (call.Mkdir (codes "d" ∷ [])) (answer.Reply reply.Ok) (Some 1)
          ∷ Waits 2 A (call.Create (codes "a" ∷ [])) ∷ Durable C (1 ∷ [])
          ∷ Answered 2 A (call.Create (codes "a" ∷ [])) (answer.Reply reply.Ok) (Some 1) ∷ Waits 3 C (call.Create (codes "b" ∷ []))
          ∷ Durable A (1 ∷ []) ∷ Answered 3 C (call.Create (codes "b" ∷ [])) (answer.Reply reply.Ok) (Some 2)
          ∷ Waits 4 A (call.Create (codes "d" ∷ codes "a" ∷ [])) ∷ Durable C (2 ∷ [])
          ∷ Answered 4 A (call.Create (codes "d" ∷ codes "a" ∷ [])) (answer.Reply reply.Ok) (Some 2) ∷ Nothing
          ∷ Waits 6 B (call.SetLen (codes "b" ∷ []) 4) ∷ Answered 6 B (call.SetLen (codes "b" ∷ []) 4) (answer.Reply reply.Ok) (Some 1)
          ∷ Waits 7 B (call.Write (codes "d" ∷ codes "a" ∷ []) 0 (codes "xbz")) ∷ Durable A (2 ∷ [])
          ∷ Answered 7 B (call.Write (codes "d" ∷ codes "a" ∷ []) 0 (codes "xbz")) (answer.Reply reply.Ok) (Some 2) ∷ Crashed C
          ∷ Waits 9 A (call.Write (codes "b" ∷ []) 2 (codes "xxx")) ∷ Durable B (1 ∷ [])
          ∷ Answered 9 A (call.Write (codes "b" ∷ []) 2 (codes "xxx")) (answer.Reply reply.Ok) (Some 3) ∷ Nothing
          ∷ Answered 11 A (call.Stat (codes "d" ∷ [])) (answer.Reply (reply.Stat kind.Dir 493 0 0 1)) None
          ∷ Answered 12 A (call.Write (codes "a" ∷ []) 1 (codes "y")) (answer.Reply reply.Ok) (Some 4)
          ∷ Answered 13 B (call.Stat []) (answer.Reply (reply.Stat kind.Dir 493 0 0 3)) None
          ∷ Waits 14 B (call.Rename (codes "d" ∷ []) (codes "d2" ∷ [])) ∷ [];
      status = 0;
    }

abbrev pub stop_19 : Run
stop_19 =
    record {
      lines =
          reads (line.Call C (call.Mkdir (codes "d" ∷ []))) 9 ∷ reads (line.Call A (call.Create (codes "a" ∷ []))) 10
          ∷ reads (line.Call A (call.Write (codes "a" ∷ []) 0 (codes "axcxa"))) 14 ∷ reads (line.Call A (call.Create (codes "d" ∷ codes "a" ∷ []))) 10
          ∷ reads (line.Call A (call.Remove (codes "a" ∷ []))) 10 ∷ reads (line.Call A (call.List [])) 8
          ∷ reads (line.Call B (call.Chown (codes "e" ∷ []) 1)) 12 ∷ reads (line.Call C (call.Write (codes "d" ∷ codes "a" ∷ []) 4 (codes "x"))) 16
          ∷ reads (line.Call A (call.Touch (codes "d" ∷ codes "a" ∷ []) 0)) 14 ∷ reads (line.Call A (call.Create (codes "a" ∷ []))) 10
          ∷ reads (line.Call C (call.Read (codes "a" ∷ []) 3 9)) 13 ∷ reads (line.Call B (call.Stat (codes "d" ∷ codes "a" ∷ []))) 8
          ∷ reads (line.Call A (call.Create (codes "a" ∷ []))) 10 ∷ reads (line.Call C (call.Fsync [])) 9 ∷ reads (line.Call B call.Sync) 3
          ∷ reads (line.Call A (call.Write (codes "a" ∷ []) 1 (codes "czcyz"))) 14 ∷ reads (line.Repeat C msg.Grant 8) 16
          ∷ reads (line.Call A (call.Stat [])) 8 ∷ reads (line.Call A (call.Create (codes "e" ∷ codes "a" ∷ []))) 10
          ∷ reads (line.Call B (call.Write (codes "d" ∷ codes "a" ∷ []) 3 (codes "yzayz"))) 16 ∷ reads (line.Uncut A) 7
          ∷ reads (line.Call C (call.Read (codes "e" ∷ codes "a" ∷ []) 0 2)) 15 ∷ reads (line.Call C (call.Fsync (codes "a" ∷ []))) 9
          ∷ reads (line.Call B (call.Write (codes "d" ∷ codes "a" ∷ []) 0 (codes "zxyaa"))) 16
          ∷ reads (line.Call A (call.Write (codes "a" ∷ []) 4 (codes "xyzbz"))) 14
          ∷ reads (line.Call A (call.Chmod (codes "d" ∷ codes "a" ∷ []) 493)) 14 ∷ reads (line.Arm 3 choice.Torn) 7
          ∷ reads (line.Call B (call.Mkdir (codes "e" ∷ []))) 9 ∷ reads (line.Call B (call.Write (codes "a" ∷ []) 0 (codes "ca"))) 14
          ∷ reads (line.Call B (call.Read (codes "d" ∷ codes "a" ∷ []) 3 9)) 15 ∷ reads (line.Call A (call.Read (codes "a" ∷ []) 0 9)) 13
          ∷ reads (line.Deliver B msg.Want 8) 16 ∷ reads (line.Push C 2) 8 ∷ reads (line.Call C (call.Touch (codes "d" ∷ []) 4)) 12
          ∷ reads (line.Call C (call.Create (codes "e" ∷ codes "a" ∷ []))) 10 ∷ reads line.Stop 1
          ∷ reads (line.Call C (call.Read (codes "a" ∷ []) 3 0)) 13 ∷ reads (line.Call A (call.Remove (codes "a" ∷ []))) 10
          ∷ reads (line.Call C (call.Stat (codes "d" ∷ []))) 8 ∷ reads (line.Crash A) 7
          ∷ reads (line.Call B (call.Write (codes "d" ∷ codes "a" ∷ []) 1 (codes "cb"))) 16 ∷ reads (line.Push C 1) 8
          ∷ reads (line.Call A (call.Stat (codes "a" ∷ []))) 8 ∷ reads (line.Push C 1) 8
          ∷ reads (line.Call C (call.Create (codes "e" ∷ codes "a" ∷ []))) 10 ∷ reads (line.Call C (call.Write (codes "a" ∷ []) 0 (codes "z"))) 14
          ∷ reads (line.Crash C) 7 ∷ reads (line.Call B (call.Read (codes "a" ∷ []) 1 9)) 13
          ∷ reads (line.Call A (call.Write (codes "d" ∷ codes "a" ∷ []) 2 (codes "byxza"))) 16
          ∷ reads (line.Call B (call.Stat (codes "d" ∷ codes "a" ∷ []))) 8 ∷ reads (line.Call C (call.Read (codes "a" ∷ []) 0 9)) 13
          ∷ reads (line.Call A (call.Remove (codes "d" ∷ codes "a" ∷ []))) 10 ∷ reads (line.Push B 1) 8 ∷ reads (line.Call B (call.Stat [])) 8
          ∷ reads (line.Call C call.Sync) 3 ∷ reads (line.Call B (call.Stat (codes "d" ∷ codes "a" ∷ []))) 8
          ∷ reads (line.Call A (call.Rename (codes "d" ∷ codes "a" ∷ []) (codes "d" ∷ codes "a" ∷ []))) 15 ∷ reads (line.Drop C msg.Hello 2) 14
          ∷ reads (line.Call A (call.Write (codes "a" ∷ []) 1 (codes "z"))) 14 ∷ reads (line.Call C (call.Fsync (codes "d" ∷ []))) 9
          ∷ reads line.Restart 1 ∷ reads (line.Resend A) 8 ∷ reads (line.Resend B) 8 ∷ reads (line.Resend C) 8 ∷ reads (line.Resend A) 8
          ∷ reads (line.Resend B) 8 ∷ reads (line.Resend C) 8 ∷ reads (line.Call A (call.List [])) 8 ∷ reads (line.Call B (call.List [])) 8
          ∷ reads (line.Call C (call.List [])) 8 ∷ reads (line.Call B (call.Read (codes "a" ∷ []) 0 64)) 13
          ∷ reads (line.Call C (call.Read (codes "d" ∷ codes "a" ∷ []) 0 64)) 15
          ∷ reads (line.Call C (call.Read (codes "e" ∷ codes "a" ∷ []) 0 64)) 15 ∷ [];
      fates = [] ∷ [] ∷ [] ∷ [] ∷ [] ∷ [] ∷ [] ∷ [] ∷ [] ∷ [] ∷ [] ∷ [] ∷ [] ∷ [] ∷ [] ∷ [] ∷ [] ∷ [] ∷ [] ∷ [] ∷ [] ∷ [] ∷ [] ∷ [] ∷ [] ∷ [] ∷ []
          ∷ (runs ∷ runs ∷ runs ∷ runs ∷ runs ∷ runs ∷ runs ∷ stops_without ∷ []) ∷ [];
      max_objects = 1024;
      shown =
          Waits 1 C (call.Mkdir (codes "d" ∷ [])) ∷ Answered 1 C (call.Mkdir (codes "d" ∷ [])) (answer.Reply reply.Ok) (Some 1)
          ∷ Waits 2 A (call.Create (codes "a" ∷ [])) ∷ Durable C (1 ∷ [])
          ∷ Answered 2 A (call.Create (codes "a" ∷ [])) (answer.Reply reply.Ok) (Some 1)
          ∷ Answered 3 A (call.Write (codes "a" ∷ []) 0 (codes "axcxa")) (answer.Reply reply.Ok) (Some 2)
          ∷ Waits 4 A (call.Create (codes "d" ∷ codes "a" ∷ []))
          ∷ Answered 4 A (call.Create (codes "d" ∷ codes "a" ∷ [])) (answer.Reply reply.Ok) (Some 3)
          ∷ Answered 5 A (call.Remove (codes "a" ∷ [])) (answer.Reply reply.Ok) (Some 4)
          ∷ Answered 6 A (call.List []) (answer.Reply (reply.Names (codes "d" ∷ []))) None ∷ Waits 7 B (call.Chown (codes "e" ∷ []) 1)
          ∷ Durable A (1 ∷ 2 ∷ 4 ∷ []) ∷ Answered 7 B (call.Chown (codes "e" ∷ []) 1) (answer.Reply (reply.Refused (no.NotFound 1))) None
          ∷ Waits 8 C (call.Write (codes "d" ∷ codes "a" ∷ []) 4 (codes "x")) ∷ Durable A (3 ∷ [])
          ∷ Answered 8 C (call.Write (codes "d" ∷ codes "a" ∷ []) 4 (codes "x")) (answer.Reply reply.Ok) (Some 2)
          ∷ Waits 9 A (call.Touch (codes "d" ∷ codes "a" ∷ []) 0) ∷ Durable C (2 ∷ [])
          ∷ Answered 9 A (call.Touch (codes "d" ∷ codes "a" ∷ []) 0) (answer.Reply reply.Ok) (Some 5) ∷ Waits 10 A (call.Create (codes "a" ∷ []))
          ∷ Answered 10 A (call.Create (codes "a" ∷ [])) (answer.Reply reply.Ok) (Some 6) ∷ Waits 11 C (call.Read (codes "a" ∷ []) 3 9)
          ∷ Durable A (6 ∷ []) ∷ Answered 11 C (call.Read (codes "a" ∷ []) 3 9) (answer.Reply (reply.Data [])) None
          ∷ Waits 12 B (call.Stat (codes "d" ∷ codes "a" ∷ [])) ∷ Durable A (5 ∷ [])
          ∷ Answered 12 B (call.Stat (codes "d" ∷ codes "a" ∷ [])) (answer.Reply (reply.Stat kind.File 420 0 0 5)) None
          ∷ Answered 13 A (call.Create (codes "a" ∷ [])) (answer.Reply (reply.Refused no.Exists)) None
          ∷ Answered 14 C (call.Fsync []) (answer.Reply reply.Ok) None ∷ Answered 15 B call.Sync (answer.Reply reply.Ok) None
          ∷ Waits 16 A (call.Write (codes "a" ∷ []) 1 (codes "czcyz"))
          ∷ Answered 16 A (call.Write (codes "a" ∷ []) 1 (codes "czcyz")) (answer.Reply reply.Ok) (Some 7)
          ∷ Answered 18 A (call.Stat []) (answer.Reply (reply.Stat kind.Dir 493 0 0 2)) None
          ∷ Answered 19 A (call.Create (codes "e" ∷ codes "a" ∷ [])) (answer.Reply (reply.Refused (no.NotFound 1))) None
          ∷ Waits 20 B (call.Write (codes "d" ∷ codes "a" ∷ []) 3 (codes "yzayz"))
          ∷ Answered 20 B (call.Write (codes "d" ∷ codes "a" ∷ []) 3 (codes "yzayz")) (answer.Reply reply.Ok) (Some 1) ∷ Nothing
          ∷ Answered 22 C (call.Read (codes "e" ∷ codes "a" ∷ []) 0 2) (answer.Reply (reply.Refused (no.NotFound 1))) None
          ∷ Waits 23 C (call.Fsync (codes "a" ∷ [])) ∷ Durable A (7 ∷ []) ∷ Answered 23 C (call.Fsync (codes "a" ∷ [])) (answer.Reply reply.Ok) None
          ∷ Answered 24 B (call.Write (codes "d" ∷ codes "a" ∷ []) 0 (codes "zxyaa")) (answer.Reply reply.Ok) (Some 2)
          ∷ Waits 25 A (call.Write (codes "a" ∷ []) 4 (codes "xyzbz"))
          ∷ Answered 25 A (call.Write (codes "a" ∷ []) 4 (codes "xyzbz")) (answer.Reply reply.Ok) (Some 8)
          ∷ Waits 26 A (call.Chmod (codes "d" ∷ codes "a" ∷ []) 493) ∷ Durable B (1 ∷ 2 ∷ [])
          ∷ Answered 26 A (call.Chmod (codes "d" ∷ codes "a" ∷ []) 493) (answer.Reply reply.Ok) (Some 9) ∷ Waits 28 B (call.Mkdir (codes "e" ∷ []))
          ∷ Stopped ∷ Waits 29 B (call.Write (codes "a" ∷ []) 0 (codes "ca")) ∷ Waits 30 B (call.Read (codes "d" ∷ codes "a" ∷ []) 3 9)
          ∷ Waits 31 A (call.Read (codes "a" ∷ []) 0 9) ∷ Nothing ∷ Nothing ∷ Waits 34 C (call.Touch (codes "d" ∷ []) 4)
          ∷ Waits 35 C (call.Create (codes "e" ∷ codes "a" ∷ [])) ∷ Nothing ∷ Waits 37 C (call.Read (codes "a" ∷ []) 3 0)
          ∷ Waits 38 A (call.Remove (codes "a" ∷ [])) ∷ Waits 39 C (call.Stat (codes "d" ∷ [])) ∷ Crashed A
          ∷ Waits 41 B (call.Write (codes "d" ∷ codes "a" ∷ []) 1 (codes "cb")) ∷ Nothing ∷ Waits 43 A (call.Stat (codes "a" ∷ [])) ∷ Nothing
          ∷ Waits 45 C (call.Create (codes "e" ∷ codes "a" ∷ [])) ∷ Waits 46 C (call.Write (codes "a" ∷ []) 0 (codes "z")) ∷ Crashed C
          ∷ Waits 48 B (call.Read (codes "a" ∷ []) 1 9) ∷ Waits 49 A (call.Write (codes "d" ∷ codes "a" ∷ []) 2 (codes "byxza"))
          ∷ Waits 50 B (call.Stat (codes "d" ∷ codes "a" ∷ [])) ∷ Waits 51 C (call.Read (codes "a" ∷ []) 0 9)
          ∷ Waits 52 A (call.Remove (codes "d" ∷ codes "a" ∷ [])) ∷ Nothing
          ∷ Answered 54 B (call.Stat []) (answer.Reply (reply.Stat kind.Dir 493 0 0 2)) None ∷ Answered 55 C call.Sync (answer.Reply reply.Ok) None
          ∷ Waits 56 B (call.Stat (codes "d" ∷ codes "a" ∷ [])) ∷ Waits 57 A (call.Rename (codes "d" ∷ codes "a" ∷ []) (codes "d" ∷ codes "a" ∷ []))
          ∷ Waits 59 A (call.Write (codes "a" ∷ []) 1 (codes "z")) ∷ Waits 60 C (call.Fsync (codes "d" ∷ [])) ∷ Started ∷ Ended A (8 ∷ 9 ∷ [])
          ∷ Ended C [] ∷ Answered 28 B (call.Mkdir (codes "e" ∷ [])) (answer.Reply reply.Ok) (Some 3)
          ∷ Answered 48 B (call.Read (codes "a" ∷ []) 1 9) (answer.Reply (reply.Data (codes "czcyz"))) None
          ∷ Answered 30 B (call.Read (codes "d" ∷ codes "a" ∷ []) 3 9) (answer.Reply (reply.Data (codes "aaayz"))) None
          ∷ Answered 50 B (call.Stat (codes "d" ∷ codes "a" ∷ [])) (answer.Reply (reply.Stat kind.File 420 0 0 8)) None
          ∷ Answered 56 B (call.Stat (codes "d" ∷ codes "a" ∷ [])) (answer.Reply (reply.Stat kind.File 420 0 0 8)) None ∷ Durable B (3 ∷ [])
          ∷ Answered 29 B (call.Write (codes "a" ∷ []) 0 (codes "ca")) (answer.Reply reply.Ok) (Some 4)
          ∷ Answered 41 B (call.Write (codes "d" ∷ codes "a" ∷ []) 1 (codes "cb")) (answer.Reply reply.Ok) (Some 5)
          ∷ Answered 60 C (call.Fsync (codes "d" ∷ [])) (answer.Reply reply.Ok) None ∷ Durable B (4 ∷ []) ∷ Durable B (5 ∷ [])
          ∷ Answered 43 A (call.Stat (codes "a" ∷ [])) (answer.Reply (reply.Stat kind.File 420 0 0 6)) None
          ∷ Answered 51 C (call.Read (codes "a" ∷ []) 0 9) (answer.Reply (reply.Data (codes "cazcyz"))) None
          ∷ Answered 57 A (call.Rename (codes "d" ∷ codes "a" ∷ []) (codes "d" ∷ codes "a" ∷ [])) (answer.Reply reply.Ok) None
          ∷ Answered 59 A (call.Write (codes "a" ∷ []) 1 (codes "z")) (answer.Reply reply.Ok) (Some 1)
          ∷ Answered 49 A (call.Write (codes "d" ∷ codes "a" ∷ []) 2 (codes "byxza")) (answer.Reply reply.Ok) (Some 2)
          ∷ Answered 52 A (call.Remove (codes "d" ∷ codes "a" ∷ [])) (answer.Reply reply.Ok) (Some 3)
          ∷ Answered 68 A (call.List []) (answer.Reply (reply.Names (codes "a" ∷ codes "d" ∷ codes "e" ∷ []))) None
          ∷ Answered 69 B (call.List []) (answer.Reply (reply.Names (codes "a" ∷ codes "d" ∷ codes "e" ∷ []))) None
          ∷ Answered 70 C (call.List []) (answer.Reply (reply.Names (codes "a" ∷ codes "d" ∷ codes "e" ∷ []))) None
          ∷ Waits 71 B (call.Read (codes "a" ∷ []) 0 64) ∷ Durable A (1 ∷ [])
          ∷ Answered 71 B (call.Read (codes "a" ∷ []) 0 64) (answer.Reply (reply.Data (codes "czzcyz"))) None
          ∷ Waits 72 C (call.Read (codes "d" ∷ codes "a" ∷ []) 0 64) ∷ Durable A (2 ∷ 3 ∷ [])
          ∷ Answered 72 C (call.Read (codes "d" ∷ codes "a" ∷ []) 0 64) (answer.Reply (reply.Refused (no.NotFound 2))) None
          ∷ Waits 73 C (call.Read (codes "e" ∷ codes "a" ∷ []) 0 64)
          ∷ Answered 73 C (call.Read (codes "e" ∷ codes "a" ∷ []) 0 64) (answer.Reply (reply.Refused (no.NotFound 2))) None ∷ [];
      status = 0;
    }

abbrev pub stop_20 : Run
stop_20 =
    record {
      lines =
          reads (line.Call B (call.Mkdir (codes "d" ∷ []))) 9 ∷ reads (line.Call D (call.Mkdir (codes "d" ∷ codes "k" ∷ []))) 9
          ∷ reads (line.Call A (call.Create (codes "b" ∷ []))) 10 ∷ reads (line.Call D (call.Read (codes "b" ∷ []) 0 9)) 13
          ∷ reads (line.Call B (call.Rename (codes "d" ∷ []) (codes "d" ∷ codes "e" ∷ []))) 13
          ∷ reads (line.Call C (call.SetLen (codes "b" ∷ []) 8)) 13 ∷ reads (line.Call A (call.Chown [] 2)) 11 ∷ reads line.Stop 1
          ∷ reads (line.Call A (call.Rename (codes "b" ∷ []) (codes "a" ∷ []))) 13 ∷ reads (line.Call C (call.SetLen (codes "b" ∷ []) 2)) 13
          ∷ reads (line.Arm 1 choice.Torn) 7 ∷ reads line.Restart 1 ∷ reads (line.Call C (call.Chmod (codes "b" ∷ []) 384)) 12
          ∷ reads (line.Call A (call.Create (codes "a" ∷ []))) 10 ∷ [];
      fates = [] ∷ [] ∷ [] ∷ [] ∷ [] ∷ [] ∷ [] ∷ [] ∷ [] ∷ [] ∷ [] ∷ (stops_without ∷ []) ∷ [];
      max_objects = 1024;
      shown =
          Waits 1 B (call.Mkdir (codes "d" ∷ [])) ∷ Answered 1 B (call.Mkdir (codes "d" ∷ [])) (answer.Reply reply.Ok) (Some 1)
          ∷ Waits 2 D (call.Mkdir (codes "d" ∷ codes "k" ∷ [])) ∷ Durable B (1 ∷ [])
          ∷ Answered 2 D (call.Mkdir (codes "d" ∷ codes "k" ∷ [])) (answer.Reply reply.Ok) (Some 1) ∷ Waits 3 A (call.Create (codes "b" ∷ []))
          ∷ Answered 3 A (call.Create (codes "b" ∷ [])) (answer.Reply reply.Ok) (Some 1) ∷ Waits 4 D (call.Read (codes "b" ∷ []) 0 9)
          ∷ Durable A (1 ∷ []) ∷ Answered 4 D (call.Read (codes "b" ∷ []) 0 9) (answer.Reply (reply.Data [])) None
          ∷ Waits 5 B (call.Rename (codes "d" ∷ []) (codes "d" ∷ codes "e" ∷ [])) ∷ Durable D (1 ∷ [])
          ∷ Answered 5 B (call.Rename (codes "d" ∷ []) (codes "d" ∷ codes "e" ∷ [])) (answer.Reply (reply.Refused no.Loop)) None
          ∷ Waits 6 C (call.SetLen (codes "b" ∷ []) 8) ∷ Answered 6 C (call.SetLen (codes "b" ∷ []) 8) (answer.Reply reply.Ok) (Some 1)
          ∷ Waits 7 A (call.Chown [] 2) ∷ Answered 7 A (call.Chown [] 2) (answer.Reply reply.Ok) (Some 2) ∷ Stopped
          ∷ Waits 9 A (call.Rename (codes "b" ∷ []) (codes "a" ∷ [])) ∷ Waits 10 C (call.SetLen (codes "b" ∷ []) 2) ∷ Stopped
          ∷ Waits 13 C (call.Chmod (codes "b" ∷ []) 384) ∷ Answered 14 A (call.Create (codes "a" ∷ [])) (answer.Reply reply.Ok) (Some 3) ∷ Started
          ∷ [];
      status = 0;
    }

abbrev pub stop_21 : Run
stop_21 =
    record {
      lines =
          reads (line.Call C (call.Mkdir (codes "d" ∷ []))) 9 ∷ reads (line.Call A (call.Create (codes "a" ∷ []))) 10
          ∷ reads (line.Call A (call.Write (codes "a" ∷ []) 0 (codes "abcdefgh"))) 14 ∷ reads (line.Call A call.Sync) 3
          ∷ reads (line.Call B call.Sync) 3 ∷ reads (line.Call C call.Sync) 3 ∷ reads (line.Call D call.Sync) 3
          ∷ reads (line.Call C (call.Read (codes "a" ∷ []) 0 9)) 13 ∷ reads (line.Call D (call.Fsync (codes "a" ∷ []))) 9
          ∷ reads (line.Call A (call.Chown (codes "a" ∷ []) 3)) 12 ∷ reads (line.Call C (call.Remove (codes "a" ∷ []))) 10
          ∷ reads (line.Call A (call.Write (codes "e" ∷ codes "a" ∷ []) 0 (codes "y"))) 16 ∷ reads (line.Call B (call.Stat [])) 8
          ∷ reads (line.Call D (call.Fsync (codes "a" ∷ []))) 9 ∷ reads (line.Call D (call.Create (codes "d" ∷ codes "a" ∷ []))) 10
          ∷ reads (line.Arm 7 choice.Torn) 7 ∷ reads (line.Call A (call.Write (codes "d" ∷ codes "a" ∷ []) 2 (codes "c"))) 16
          ∷ reads (line.Call A (call.Write (codes "d" ∷ codes "a" ∷ []) 3 (codes "bb"))) 16 ∷ reads (line.Push A 5) 8
          ∷ reads (line.Call C (call.Remove (codes "e" ∷ codes "a" ∷ []))) 10 ∷ reads (line.Call D (call.Read (codes "d" ∷ codes "a" ∷ []) 0 9)) 15
          ∷ reads (line.Call B (call.List (codes "d" ∷ []))) 8 ∷ reads (line.Call B (call.Create (codes "a" ∷ []))) 10
          ∷ reads (line.Call D (call.Fsync (codes "d" ∷ codes "a" ∷ []))) 9 ∷ reads (line.Call D (call.Mkdir (codes "e" ∷ []))) 9
          ∷ reads (line.Call C (call.Create (codes "a" ∷ []))) 10 ∷ reads (line.Call C (call.Chown (codes "d" ∷ codes "a" ∷ []) 7)) 14
          ∷ reads (line.Call B (call.Write (codes "d" ∷ codes "a" ∷ []) 2 (codes "y"))) 16
          ∷ reads (line.Call A (call.Read (codes "d" ∷ codes "a" ∷ []) 0 0)) 15
          ∷ reads (line.Call C (call.Write (codes "d" ∷ codes "a" ∷ []) 0 (codes "c"))) 16
          ∷ reads (line.Call D (call.Forder ((codes "d" ∷ []) ∷ (codes "e" ∷ []) ∷ (codes "d" ∷ codes "a" ∷ []) ∷ []))) 16 ∷ reads (line.Push D 1) 8
          ∷ reads (line.Call B (call.List (codes "d" ∷ []))) 8 ∷ reads line.Restart 1 ∷ reads (line.Call D (call.Mkdir (codes "d" ∷ []))) 9
          ∷ reads (line.Call B call.Sync) 3 ∷ reads (line.Call B (call.Write (codes "d" ∷ codes "a" ∷ []) 5 (codes "cx"))) 16
          ∷ reads (line.Call B (call.Write (codes "d" ∷ codes "a" ∷ []) 1 (codes "x"))) 16
          ∷ reads (line.Call C (call.Rename (codes "a" ∷ []) (codes "e" ∷ codes "a" ∷ []))) 13 ∷ reads (line.Call C (call.Create (codes "a" ∷ []))) 10
          ∷ reads (line.Call D (call.Forder ([] ∷ (codes "e" ∷ []) ∷ []))) 12 ∷ reads (line.Call C (call.List (codes "d" ∷ []))) 8
          ∷ reads (line.Call C (call.Create (codes "d" ∷ codes "a" ∷ []))) 10 ∷ reads (line.Call D call.Sync) 3 ∷ reads (line.Push D 1) 8
          ∷ reads (line.Push C 4) 8 ∷ reads (line.Call B (call.Fsync (codes "d" ∷ codes "a" ∷ []))) 9
          ∷ reads (line.Call C (call.Create (codes "d" ∷ codes "a" ∷ []))) 10 ∷ reads (line.Call C (call.Chmod (codes "d" ∷ []) 384)) 12
          ∷ reads (line.Call C (call.Mkdir (codes "e" ∷ []))) 9 ∷ reads (line.Arm 2 choice.New) 7
          ∷ reads (line.Call C (call.Read (codes "a" ∷ []) 0 2)) 13 ∷ reads (line.Call D (call.Create (codes "a" ∷ []))) 10
          ∷ reads (line.Call D call.Sync) 3 ∷ reads (line.Call D (call.Create (codes "d" ∷ codes "a" ∷ []))) 10
          ∷ reads (line.Call A (call.Rename (codes "e" ∷ []) (codes "d" ∷ codes "e" ∷ codes "k" ∷ []))) 13
          ∷ reads (line.Call C (call.Read (codes "e" ∷ codes "a" ∷ []) 3 0)) 15 ∷ reads (line.Call B (call.List (codes "e" ∷ []))) 8
          ∷ reads (line.Call C (call.Write (codes "d" ∷ codes "a" ∷ []) 5 (codes "y"))) 16
          ∷ reads (line.Call C (call.Write (codes "d" ∷ codes "a" ∷ []) 2 (codes "yy"))) 16
          ∷ reads (line.Call C (call.Write (codes "d" ∷ codes "a" ∷ []) 5 (codes "y"))) 16 ∷ reads (line.Push C 7) 8 ∷ [];
      fates = [] ∷ [] ∷ [] ∷ [] ∷ [] ∷ [] ∷ [] ∷ [] ∷ [] ∷ [] ∷ [] ∷ [] ∷ [] ∷ [] ∷ [] ∷ [] ∷ [] ∷ [] ∷ (runs ∷ stops_with ∷ []) ∷ [] ∷ [] ∷ [] ∷ [] ∷ []
          ∷ [] ∷ [] ∷ [] ∷ [] ∷ [] ∷ [] ∷ [] ∷ [] ∷ [] ∷ [] ∷ [] ∷ [] ∷ [] ∷ [] ∷ [] ∷ [] ∷ [] ∷ [] ∷ [] ∷ [] ∷ [] ∷ [] ∷ [] ∷ [] ∷ [] ∷ [] ∷ [] ∷ []
          ∷ [] ∷ [] ∷ (runs ∷ runs ∷ runs ∷ stops_without ∷ []) ∷ [];
      max_objects = 1024;
      shown =
          Waits 1 C (call.Mkdir (codes "d" ∷ [])) ∷ Answered 1 C (call.Mkdir (codes "d" ∷ [])) (answer.Reply reply.Ok) (Some 1)
          ∷ Waits 2 A (call.Create (codes "a" ∷ [])) ∷ Durable C (1 ∷ [])
          ∷ Answered 2 A (call.Create (codes "a" ∷ [])) (answer.Reply reply.Ok) (Some 1)
          ∷ Answered 3 A (call.Write (codes "a" ∷ []) 0 (codes "abcdefgh")) (answer.Reply reply.Ok) (Some 2) ∷ Waits 4 A call.Sync
          ∷ Durable A (1 ∷ 2 ∷ []) ∷ Answered 4 A call.Sync (answer.Reply reply.Ok) None ∷ Answered 5 B call.Sync (answer.Reply reply.Ok) None
          ∷ Answered 6 C call.Sync (answer.Reply reply.Ok) None ∷ Answered 7 D call.Sync (answer.Reply reply.Ok) None
          ∷ Waits 8 C (call.Read (codes "a" ∷ []) 0 9)
          ∷ Answered 8 C (call.Read (codes "a" ∷ []) 0 9) (answer.Reply (reply.Data (codes "abcdefgh"))) None
          ∷ Waits 9 D (call.Fsync (codes "a" ∷ [])) ∷ Answered 9 D (call.Fsync (codes "a" ∷ [])) (answer.Reply reply.Ok) None
          ∷ Waits 10 A (call.Chown (codes "a" ∷ []) 3) ∷ Answered 10 A (call.Chown (codes "a" ∷ []) 3) (answer.Reply reply.Ok) (Some 3)
          ∷ Waits 11 C (call.Remove (codes "a" ∷ [])) ∷ Durable A (3 ∷ [])
          ∷ Answered 11 C (call.Remove (codes "a" ∷ [])) (answer.Reply reply.Ok) (Some 2)
          ∷ Waits 12 A (call.Write (codes "e" ∷ codes "a" ∷ []) 0 (codes "y")) ∷ Durable C (2 ∷ [])
          ∷ Answered 12 A (call.Write (codes "e" ∷ codes "a" ∷ []) 0 (codes "y")) (answer.Reply (reply.Refused (no.NotFound 1))) None
          ∷ Waits 13 B (call.Stat []) ∷ Answered 13 B (call.Stat []) (answer.Reply (reply.Stat kind.Dir 493 0 0 1)) None
          ∷ Waits 14 D (call.Fsync (codes "a" ∷ [])) ∷ Answered 14 D (call.Fsync (codes "a" ∷ [])) (answer.Reply (reply.Refused (no.NotFound 1))) None
          ∷ Waits 15 D (call.Create (codes "d" ∷ codes "a" ∷ []))
          ∷ Answered 15 D (call.Create (codes "d" ∷ codes "a" ∷ [])) (answer.Reply reply.Ok) (Some 1)
          ∷ Waits 17 A (call.Write (codes "d" ∷ codes "a" ∷ []) 2 (codes "c")) ∷ Durable D (1 ∷ [])
          ∷ Answered 17 A (call.Write (codes "d" ∷ codes "a" ∷ []) 2 (codes "c")) (answer.Reply reply.Ok) (Some 4)
          ∷ Answered 18 A (call.Write (codes "d" ∷ codes "a" ∷ []) 3 (codes "bb")) (answer.Reply reply.Ok) (Some 5) ∷ Stopped
          ∷ Answered 20 C (call.Remove (codes "e" ∷ codes "a" ∷ [])) (answer.Reply (reply.Refused (no.NotFound 1))) None
          ∷ Waits 21 D (call.Read (codes "d" ∷ codes "a" ∷ []) 0 9) ∷ Waits 22 B (call.List (codes "d" ∷ []))
          ∷ Waits 23 B (call.Create (codes "a" ∷ [])) ∷ Waits 24 D (call.Fsync (codes "d" ∷ codes "a" ∷ []))
          ∷ Waits 25 D (call.Mkdir (codes "e" ∷ [])) ∷ Waits 26 C (call.Create (codes "a" ∷ []))
          ∷ Waits 27 C (call.Chown (codes "d" ∷ codes "a" ∷ []) 7) ∷ Waits 28 B (call.Write (codes "d" ∷ codes "a" ∷ []) 2 (codes "y"))
          ∷ Answered 29 A (call.Read (codes "d" ∷ codes "a" ∷ []) 0 0) (answer.Reply (reply.Data [])) None
          ∷ Waits 30 C (call.Write (codes "d" ∷ codes "a" ∷ []) 0 (codes "c"))
          ∷ Answered 31 D (call.Forder ((codes "d" ∷ []) ∷ (codes "e" ∷ []) ∷ (codes "d" ∷ codes "a" ∷ []) ∷ [])) (answer.Reply (reply.Refused (no.NotFound 1))) None
          ∷ Nothing ∷ Waits 33 B (call.List (codes "d" ∷ [])) ∷ Durable A (4 ∷ 5 ∷ []) ∷ Started
          ∷ Answered 22 B (call.List (codes "d" ∷ [])) (answer.Reply (reply.Names (codes "a" ∷ []))) None
          ∷ Answered 33 B (call.List (codes "d" ∷ [])) (answer.Reply (reply.Names (codes "a" ∷ []))) None
          ∷ Answered 26 C (call.Create (codes "a" ∷ [])) (answer.Reply reply.Ok) (Some 3) ∷ Durable C (3 ∷ [])
          ∷ Answered 21 D (call.Read (codes "d" ∷ codes "a" ∷ []) 0 9) (answer.Reply (reply.Data (0 ∷ 0 ∷ 99 ∷ 98 ∷ 98 ∷ []))) None
          ∷ Answered 24 D (call.Fsync (codes "d" ∷ codes "a" ∷ [])) (answer.Reply reply.Ok) None
          ∷ Answered 25 D (call.Mkdir (codes "e" ∷ [])) (answer.Reply reply.Ok) (Some 2) ∷ Durable D (2 ∷ [])
          ∷ Answered 23 B (call.Create (codes "a" ∷ [])) (answer.Reply (reply.Refused no.Exists)) None
          ∷ Answered 28 B (call.Write (codes "d" ∷ codes "a" ∷ []) 2 (codes "y")) (answer.Reply reply.Ok) (Some 1) ∷ Durable B (1 ∷ [])
          ∷ Answered 27 C (call.Chown (codes "d" ∷ codes "a" ∷ []) 7) (answer.Reply reply.Ok) (Some 4)
          ∷ Answered 30 C (call.Write (codes "d" ∷ codes "a" ∷ []) 0 (codes "c")) (answer.Reply reply.Ok) (Some 5)
          ∷ Answered 35 D (call.Mkdir (codes "d" ∷ [])) (answer.Reply (reply.Refused no.Exists)) None
          ∷ Answered 36 B call.Sync (answer.Reply reply.Ok) None ∷ Waits 37 B (call.Write (codes "d" ∷ codes "a" ∷ []) 5 (codes "cx"))
          ∷ Durable C (4 ∷ 5 ∷ []) ∷ Answered 37 B (call.Write (codes "d" ∷ codes "a" ∷ []) 5 (codes "cx")) (answer.Reply reply.Ok) (Some 2)
          ∷ Answered 38 B (call.Write (codes "d" ∷ codes "a" ∷ []) 1 (codes "x")) (answer.Reply reply.Ok) (Some 3)
          ∷ Waits 39 C (call.Rename (codes "a" ∷ []) (codes "e" ∷ codes "a" ∷ []))
          ∷ Answered 39 C (call.Rename (codes "a" ∷ []) (codes "e" ∷ codes "a" ∷ [])) (answer.Reply reply.Ok) (Some 6)
          ∷ Answered 40 C (call.Create (codes "a" ∷ [])) (answer.Reply reply.Ok) (Some 7) ∷ Waits 41 D (call.Forder ([] ∷ (codes "e" ∷ []) ∷ []))
          ∷ Durable C (6 ∷ 7 ∷ []) ∷ Answered 41 D (call.Forder ([] ∷ (codes "e" ∷ []) ∷ [])) (answer.Reply reply.Ok) (Some 3)
          ∷ Waits 42 C (call.List (codes "d" ∷ [])) ∷ Durable D (3 ∷ [])
          ∷ Answered 42 C (call.List (codes "d" ∷ [])) (answer.Reply (reply.Names (codes "a" ∷ []))) None
          ∷ Answered 43 C (call.Create (codes "d" ∷ codes "a" ∷ [])) (answer.Reply (reply.Refused no.Exists)) None
          ∷ Answered 44 D call.Sync (answer.Reply reply.Ok) None ∷ Nothing ∷ Nothing ∷ Waits 47 B (call.Fsync (codes "d" ∷ codes "a" ∷ []))
          ∷ Durable B (2 ∷ 3 ∷ []) ∷ Answered 47 B (call.Fsync (codes "d" ∷ codes "a" ∷ [])) (answer.Reply reply.Ok) None
          ∷ Answered 48 C (call.Create (codes "d" ∷ codes "a" ∷ [])) (answer.Reply (reply.Refused no.Exists)) None
          ∷ Waits 49 C (call.Chmod (codes "d" ∷ []) 384) ∷ Answered 49 C (call.Chmod (codes "d" ∷ []) 384) (answer.Reply reply.Ok) (Some 8)
          ∷ Answered 50 C (call.Mkdir (codes "e" ∷ [])) (answer.Reply (reply.Refused no.Exists)) None
          ∷ Answered 52 C (call.Read (codes "a" ∷ []) 0 2) (answer.Reply (reply.Data [])) None
          ∷ Answered 53 D (call.Create (codes "a" ∷ [])) (answer.Reply (reply.Refused no.Exists)) None
          ∷ Answered 54 D call.Sync (answer.Reply reply.Ok) None ∷ Waits 55 D (call.Create (codes "d" ∷ codes "a" ∷ [])) ∷ Stopped
          ∷ Waits 56 A (call.Rename (codes "e" ∷ []) (codes "d" ∷ codes "e" ∷ codes "k" ∷ []))
          ∷ Waits 57 C (call.Read (codes "e" ∷ codes "a" ∷ []) 3 0) ∷ Waits 58 B (call.List (codes "e" ∷ []))
          ∷ Waits 59 C (call.Write (codes "d" ∷ codes "a" ∷ []) 5 (codes "y")) ∷ Waits 60 C (call.Write (codes "d" ∷ codes "a" ∷ []) 2 (codes "yy"))
          ∷ Waits 61 C (call.Write (codes "d" ∷ codes "a" ∷ []) 5 (codes "y")) ∷ Nothing ∷ Started ∷ [];
      status = 0;
    }
