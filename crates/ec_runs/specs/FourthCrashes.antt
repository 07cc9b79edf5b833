-- Random scripts with crashes and ended sessions.
use Rattle.std.specs.Prelude.{[], ◌∷◌, None, Some, codes}
use Rattle.ec_volume.specs.declared.image.Kind.TheVariants as kind
use Rattle.ec_plain.specs.declared.call.Call.TheVariants as call
use Rattle.ec_plain.specs.declared.call.Reply.TheVariants as reply
use Rattle.ec_plain.specs.declared.call.Refusal.TheVariants as no
use Rattle.ec_history.specs.declared.entry.Answer.TheVariants as answer
use Rattle.ec_history.specs.declared.shown.Shown.TheVariants.{Waits, Answered, Durable, Ended, Unseen, Told, Crashed, Nothing}
use Rattle.ec_wire.specs.declared.msg.MsgKind.TheVariants as msg
use Rattle.ec_protocol.specs.declared.script.Line.TheVariants as line
use Rattle.ec_protocol.specs.Drill.{reads}
use Rattle.ec_protocol.specs.Runs.{Run, A, B, C, D}

abbrev pub crash_22 : Run
crash_22 =
    record {
      lines =
          reads (line.Call C (call.Mkdir (codes "d" ∷ []))) 9
          ∷ reads (line.Call C (call.Create (codes "a" ∷ []))) 10
          ∷ reads (line.Call C (call.Write (codes "a" ∷ []) 0 (codes "abcdefgh"))) 14
          ∷ reads (line.Call B (call.Create (codes "d" ∷ codes "a" ∷ []))) 10
          ∷ reads (line.Call B (call.Write (codes "d" ∷ codes "a" ∷ []) 0 (codes "abcdefgh"))) 16
          ∷ reads (line.Call C (call.Create (codes "e" ∷ codes "a" ∷ []))) 10
          ∷ reads (line.Call C (call.Write (codes "e" ∷ codes "a" ∷ []) 0 (codes "abcdefgh"))) 16
          ∷ reads (line.Call A call.Sync) 3
          ∷ reads (line.Call B call.Sync) 3
          ∷ reads (line.Call C call.Sync) 3
          ∷ reads (line.Cut C) 5
          ∷ reads (line.Call C (call.Stat (codes "d" ∷ codes "a" ∷ []))) 8
          ∷ reads (line.End B) 5
          ∷ reads (line.Call B (call.Rename (codes "d" ∷ codes "a" ∷ []) (codes "e" ∷ codes "a" ∷ []))) 15
          ∷ reads (line.Call C (call.Write (codes "a" ∷ []) 0 (codes "zy"))) 14
          ∷ reads (line.Call C (call.Write (codes "a" ∷ []) 1 (codes "ay"))) 14
          ∷ reads (line.Call C (call.Write (codes "a" ∷ []) 0 (codes "b"))) 14
          ∷ reads (line.Push C 6) 8
          ∷ reads (line.Call B (call.Create (codes "d" ∷ codes "a" ∷ []))) 10
          ∷ reads (line.Call B (call.Rename (codes "a" ∷ []) (codes "a" ∷ []))) 13
          ∷ reads (line.Call B (call.Create (codes "d" ∷ codes "a" ∷ []))) 10
          ∷ reads (line.Call B (call.Write (codes "a" ∷ []) 1 (codes "abcxx"))) 14
          ∷ reads (line.Call B (call.Mkdir (codes "e" ∷ []))) 9
          ∷ reads (line.Call C (call.Write (codes "a" ∷ []) 3 (codes "ya"))) 14
          ∷ reads (line.Call A (call.Write (codes "d" ∷ codes "a" ∷ []) 0 (codes "yba"))) 16
          ∷ reads (line.Call A (call.Mkdir (codes "e" ∷ []))) 9
          ∷ reads (line.Call B (call.Mkdir (codes "e" ∷ []))) 9
          ∷ reads (line.Deliver C msg.Recall 8) 18
          ∷ reads (line.Call B (call.Chmod (codes "a" ∷ []) 4095)) 12
          ∷ reads (line.Call B (call.Create (codes "d" ∷ codes "a" ∷ []))) 10
          ∷ reads (line.Uncut C) 7
          ∷ reads (line.Call C (call.List (codes "d" ∷ []))) 8
          ∷ reads (line.Resend A) 8
          ∷ reads (line.Call B (call.Rename (codes "d" ∷ []) (codes "d" ∷ []))) 13
          ∷ reads (line.Push B 3) 8
          ∷ reads (line.Call B (call.Rename (codes "a" ∷ []) (codes "e" ∷ codes "a" ∷ []))) 13
          ∷ reads (line.Push A 1) 8
          ∷ reads (line.Call B (call.Rmdir (codes "d" ∷ []))) 9
          ∷ reads (line.Call C (call.Forder ((codes "d" ∷ codes "a" ∷ []) ∷ (codes "d" ∷ []) ∷ (codes "d" ∷ codes "a" ∷ []) ∷ []))) 18
          ∷ reads (line.Call A (call.Write (codes "d" ∷ codes "a" ∷ []) 5 (codes "zx"))) 16
          ∷ reads (line.Call A (call.Write (codes "d" ∷ codes "a" ∷ []) 3 (codes "x"))) 16
          ∷ reads (line.Cut C) 5
          ∷ reads (line.End C) 5
          ∷ reads (line.Uncut C) 7
          ∷ reads (line.Call C (call.List [])) 8
          ∷ reads (line.Call C (call.Read (codes "e" ∷ codes "a" ∷ []) 0 9)) 15
          ∷ reads (line.Call C call.Sync) 3
          ∷ reads (line.Call C (call.Write (codes "d" ∷ codes "a" ∷ []) 2 (codes "z"))) 16
          ∷ reads (line.Call C (call.Write (codes "d" ∷ codes "a" ∷ []) 5 (codes "za"))) 16
          ∷ reads (line.Push C 10) 8
          ∷ reads (line.Call C (call.Stat (codes "d" ∷ []))) 8
          ∷ reads (line.Call A (call.Fsync (codes "e" ∷ codes "a" ∷ []))) 9
          ∷ reads (line.Call C (call.Write (codes "e" ∷ codes "a" ∷ []) 6 (codes "zy"))) 16
          ∷ reads (line.Call C (call.Mkdir (codes "e" ∷ []))) 9
          ∷ reads (line.Call B (call.Mkdir (codes "d" ∷ []))) 9
          ∷ reads (line.Call A (call.Rename (codes "d" ∷ codes "a" ∷ []) (codes "d" ∷ codes "a" ∷ []))) 15
          ∷ reads (line.Call B (call.Write (codes "e" ∷ codes "a" ∷ []) 3 (codes "bxbzx"))) 16
          ∷ reads (line.Call B (call.Create (codes "a" ∷ []))) 10
          ∷ reads (line.Call A (call.Stat (codes "e" ∷ []))) 8
          ∷ reads (line.Call B (call.Fsync [])) 9
          ∷ reads (line.Resend A) 8
          ∷ reads (line.Resend B) 8
          ∷ reads (line.Resend C) 8
          ∷ reads (line.Resend A) 8
          ∷ reads (line.Resend B) 8
          ∷ reads (line.Resend C) 8
          ∷ reads (line.Call A (call.List [])) 8
          ∷ reads (line.Call B (call.List [])) 8
          ∷ reads (line.Call C (call.List [])) 8
          ∷ reads (line.Call C (call.Read (codes "a" ∷ []) 0 64)) 13
          ∷ reads (line.Call B (call.Read (codes "d" ∷ codes "a" ∷ []) 0 64)) 15
          ∷ reads (line.Call A (call.Read (codes "e" ∷ codes "a" ∷ []) 0 64)) 15
          ∷ [];
      fates = [];
      max_objects = 1024;
      shown =
          Waits 1 C (call.Mkdir (codes "d" ∷ []))
          ∷ Answered 1 C (call.Mkdir (codes "d" ∷ [])) (answer.Reply reply.Ok) (Some 1)
          ∷ Answered 2 C (call.Create (codes "a" ∷ [])) (answer.Reply reply.Ok) (Some 2)
          ∷ Answered 3 C (call.Write (codes "a" ∷ []) 0 (codes "abcdefgh")) (answer.Reply reply.Ok) (Some 3)
          ∷ Waits 4 B (call.Create (codes "d" ∷ codes "a" ∷ []))
          ∷ Durable C (1 ∷ 2 ∷ [])
          ∷ Answered 4 B (call.Create (codes "d" ∷ codes "a" ∷ [])) (answer.Reply reply.Ok) (Some 1)
          ∷ Answered 5 B (call.Write (codes "d" ∷ codes "a" ∷ []) 0 (codes "abcdefgh")) (answer.Reply reply.Ok) (Some 2)
          ∷ Answered 6 C (call.Create (codes "e" ∷ codes "a" ∷ [])) (answer.Reply (reply.Refused (no.NotFound 1))) None
          ∷ Answered 7 C (call.Write (codes "e" ∷ codes "a" ∷ []) 0 (codes "abcdefgh")) (answer.Reply (reply.Refused (no.NotFound 1))) None
          ∷ Answered 8 A call.Sync (answer.Reply reply.Ok) None
          ∷ Waits 9 B call.Sync
          ∷ Durable B (1 ∷ 2 ∷ [])
          ∷ Answered 9 B call.Sync (answer.Reply reply.Ok) None
          ∷ Waits 10 C call.Sync
          ∷ Durable C (3 ∷ [])
          ∷ Answered 10 C call.Sync (answer.Reply reply.Ok) None
          ∷ Waits 12 C (call.Stat (codes "d" ∷ codes "a" ∷ []))
          ∷ Ended B []
          ∷ Told B []
          ∷ Waits 14 B (call.Rename (codes "d" ∷ codes "a" ∷ []) (codes "e" ∷ codes "a" ∷ []))
          ∷ Answered 14 B (call.Rename (codes "d" ∷ codes "a" ∷ []) (codes "e" ∷ codes "a" ∷ [])) (answer.Reply (reply.Refused (no.NotFound 1))) None
          ∷ Answered 15 C (call.Write (codes "a" ∷ []) 0 (codes "zy")) (answer.Reply reply.Ok) (Some 4)
          ∷ Answered 16 C (call.Write (codes "a" ∷ []) 1 (codes "ay")) (answer.Reply reply.Ok) (Some 5)
          ∷ Answered 17 C (call.Write (codes "a" ∷ []) 0 (codes "b")) (answer.Reply reply.Ok) (Some 6)
          ∷ Answered 19 B (call.Create (codes "d" ∷ codes "a" ∷ [])) (answer.Reply (reply.Refused no.Exists)) None
          ∷ Waits 20 B (call.Rename (codes "a" ∷ []) (codes "a" ∷ []))
          ∷ Answered 21 B (call.Create (codes "d" ∷ codes "a" ∷ [])) (answer.Reply (reply.Refused no.Exists)) None
          ∷ Waits 22 B (call.Write (codes "a" ∷ []) 1 (codes "abcxx"))
          ∷ Waits 23 B (call.Mkdir (codes "e" ∷ []))
          ∷ Answered 24 C (call.Write (codes "a" ∷ []) 3 (codes "ya")) (answer.Reply reply.Ok) (Some 7)
          ∷ Waits 25 A (call.Write (codes "d" ∷ codes "a" ∷ []) 0 (codes "yba"))
          ∷ Answered 25 A (call.Write (codes "d" ∷ codes "a" ∷ []) 0 (codes "yba")) (answer.Reply reply.Ok) (Some 1)
          ∷ Waits 26 A (call.Mkdir (codes "e" ∷ []))
          ∷ Waits 27 B (call.Mkdir (codes "e" ∷ []))
          ∷ Waits 29 B (call.Chmod (codes "a" ∷ []) 4095)
          ∷ Waits 30 B (call.Create (codes "d" ∷ codes "a" ∷ []))
          ∷ Durable C (4 ∷ 6 ∷ [])
          ∷ Answered 30 B (call.Create (codes "d" ∷ codes "a" ∷ [])) (answer.Reply (reply.Refused no.Exists)) None
          ∷ Durable C (5 ∷ 7 ∷ [])
          ∷ Answered 20 B (call.Rename (codes "a" ∷ []) (codes "a" ∷ [])) (answer.Reply reply.Ok) None
          ∷ Durable A (1 ∷ [])
          ∷ Answered 26 A (call.Mkdir (codes "e" ∷ [])) (answer.Reply reply.Ok) (Some 2)
          ∷ Durable A (2 ∷ [])
          ∷ Answered 22 B (call.Write (codes "a" ∷ []) 1 (codes "abcxx")) (answer.Reply reply.Ok) (Some 3)
          ∷ Answered 23 B (call.Mkdir (codes "e" ∷ [])) (answer.Reply (reply.Refused no.Exists)) None
          ∷ Answered 27 B (call.Mkdir (codes "e" ∷ [])) (answer.Reply (reply.Refused no.Exists)) None
          ∷ Answered 29 B (call.Chmod (codes "a" ∷ []) 4095) (answer.Reply reply.Ok) (Some 4)
          ∷ Answered 12 C (call.Stat (codes "d" ∷ codes "a" ∷ [])) (answer.Reply (reply.Stat kind.File 420 0 0 8)) None
          ∷ Answered 32 C (call.List (codes "d" ∷ [])) (answer.Reply (reply.Names (codes "a" ∷ []))) None
          ∷ Answered 34 B (call.Rename (codes "d" ∷ []) (codes "d" ∷ [])) (answer.Reply reply.Ok) None
          ∷ Durable B (3 ∷ [])
          ∷ Waits 36 B (call.Rename (codes "a" ∷ []) (codes "e" ∷ codes "a" ∷ []))
          ∷ Answered 36 B (call.Rename (codes "a" ∷ []) (codes "e" ∷ codes "a" ∷ [])) (answer.Reply reply.Ok) (Some 5)
          ∷ Nothing
          ∷ Answered 38 B (call.Rmdir (codes "d" ∷ [])) (answer.Reply (reply.Refused no.NotEmpty)) None
          ∷ Waits 39 C (call.Forder ((codes "d" ∷ codes "a" ∷ []) ∷ (codes "d" ∷ []) ∷ (codes "d" ∷ codes "a" ∷ []) ∷ []))
          ∷ Durable B (4 ∷ 5 ∷ [])
          ∷ Answered 39 C (call.Forder ((codes "d" ∷ codes "a" ∷ []) ∷ (codes "d" ∷ []) ∷ (codes "d" ∷ codes "a" ∷ []) ∷ [])) (answer.Reply reply.Ok) (Some 8)
          ∷ Waits 40 A (call.Write (codes "d" ∷ codes "a" ∷ []) 5 (codes "zx"))
          ∷ Durable C (8 ∷ [])
          ∷ Answered 40 A (call.Write (codes "d" ∷ codes "a" ∷ []) 5 (codes "zx")) (answer.Reply reply.Ok) (Some 3)
          ∷ Answered 41 A (call.Write (codes "d" ∷ codes "a" ∷ []) 3 (codes "x")) (answer.Reply reply.Ok) (Some 4)
          ∷ Ended C []
          ∷ Told C []
          ∷ Waits 45 C (call.List [])
          ∷ Answered 45 C (call.List []) (answer.Reply (reply.Names (codes "d" ∷ codes "e" ∷ []))) None
          ∷ Waits 46 C (call.Read (codes "e" ∷ codes "a" ∷ []) 0 9)
          ∷ Answered 46 C (call.Read (codes "e" ∷ codes "a" ∷ []) 0 9) (answer.Reply (reply.Data (codes "babcxxgh"))) None
          ∷ Answered 47 C call.Sync (answer.Reply reply.Ok) None
          ∷ Waits 48 C (call.Write (codes "d" ∷ codes "a" ∷ []) 2 (codes "z"))
          ∷ Durable A (3 ∷ 4 ∷ [])
          ∷ Answered 48 C (call.Write (codes "d" ∷ codes "a" ∷ []) 2 (codes "z")) (answer.Reply reply.Ok) (Some 9)
          ∷ Answered 49 C (call.Write (codes "d" ∷ codes "a" ∷ []) 5 (codes "za")) (answer.Reply reply.Ok) (Some 10)
          ∷ Durable C (10 ∷ [])
          ∷ Answered 51 C (call.Stat (codes "d" ∷ [])) (answer.Reply (reply.Stat kind.Dir 493 0 0 1)) None
          ∷ Waits 52 A (call.Fsync (codes "e" ∷ codes "a" ∷ []))
          ∷ Answered 52 A (call.Fsync (codes "e" ∷ codes "a" ∷ [])) (answer.Reply reply.Ok) None
          ∷ Waits 53 C (call.Write (codes "e" ∷ codes "a" ∷ []) 6 (codes "zy"))
          ∷ Answered 53 C (call.Write (codes "e" ∷ codes "a" ∷ []) 6 (codes "zy")) (answer.Reply reply.Ok) (Some 11)
          ∷ Answered 54 C (call.Mkdir (codes "e" ∷ [])) (answer.Reply (reply.Refused no.Exists)) None
          ∷ Answered 55 B (call.Mkdir (codes "d" ∷ [])) (answer.Reply (reply.Refused no.Exists)) None
          ∷ Waits 56 A (call.Rename (codes "d" ∷ codes "a" ∷ []) (codes "d" ∷ codes "a" ∷ []))
          ∷ Durable C (9 ∷ [])
          ∷ Answered 56 A (call.Rename (codes "d" ∷ codes "a" ∷ []) (codes "d" ∷ codes "a" ∷ [])) (answer.Reply reply.Ok) None
          ∷ Waits 57 B (call.Write (codes "e" ∷ codes "a" ∷ []) 3 (codes "bxbzx"))
          ∷ Durable C (11 ∷ [])
          ∷ Answered 57 B (call.Write (codes "e" ∷ codes "a" ∷ []) 3 (codes "bxbzx")) (answer.Reply reply.Ok) (Some 6)
          ∷ Waits 58 B (call.Create (codes "a" ∷ []))
          ∷ Answered 58 B (call.Create (codes "a" ∷ [])) (answer.Reply reply.Ok) (Some 7)
          ∷ Waits 59 A (call.Stat (codes "e" ∷ []))
          ∷ Durable B (7 ∷ [])
          ∷ Answered 59 A (call.Stat (codes "e" ∷ [])) (answer.Reply (reply.Stat kind.Dir 493 0 0 1)) None
          ∷ Answered 60 B (call.Fsync []) (answer.Reply reply.Ok) None
          ∷ Answered 67 A (call.List []) (answer.Reply (reply.Names (codes "a" ∷ codes "d" ∷ codes "e" ∷ []))) None
          ∷ Answered 68 B (call.List []) (answer.Reply (reply.Names (codes "a" ∷ codes "d" ∷ codes "e" ∷ []))) None
          ∷ Waits 69 C (call.List [])
          ∷ Answered 69 C (call.List []) (answer.Reply (reply.Names (codes "a" ∷ codes "d" ∷ codes "e" ∷ []))) None
          ∷ Waits 70 C (call.Read (codes "a" ∷ []) 0 64)
          ∷ Answered 70 C (call.Read (codes "a" ∷ []) 0 64) (answer.Reply (reply.Data [])) None
          ∷ Waits 71 B (call.Read (codes "d" ∷ codes "a" ∷ []) 0 64)
          ∷ Answered 71 B (call.Read (codes "d" ∷ codes "a" ∷ []) 0 64) (answer.Reply (reply.Data (codes "ybzxezah"))) None
          ∷ Waits 72 A (call.Read (codes "e" ∷ codes "a" ∷ []) 0 64)
          ∷ Durable B (6 ∷ [])
          ∷ Answered 72 A (call.Read (codes "e" ∷ codes "a" ∷ []) 0 64) (answer.Reply (reply.Data (codes "babbxbzx"))) None
          ∷ [];
      status = 0;
    }

abbrev pub crash_23 : Run
crash_23 =
    record {
      lines =
          reads (line.Call C (call.Mkdir (codes "d" ∷ []))) 9
          ∷ reads (line.Call C (call.Create (codes "a" ∷ []))) 10
          ∷ reads (line.Call C (call.Write (codes "a" ∷ []) 0 (codes "abcdefgh"))) 14
          ∷ reads (line.Call B (call.Create (codes "b" ∷ []))) 10
          ∷ reads (line.Call B (call.Write (codes "b" ∷ []) 0 (codes "abcdefgh"))) 14
          ∷ reads (line.Call B (call.Create (codes "d" ∷ codes "a" ∷ []))) 10
          ∷ reads (line.Call B (call.Write (codes "d" ∷ codes "a" ∷ []) 0 (codes "abcdefgh"))) 16
          ∷ reads (line.Call C (call.Rename (codes "a" ∷ []) (codes "a2" ∷ []))) 13
          ∷ reads (line.Call A (call.Rmdir (codes "d" ∷ []))) 9
          ∷ reads (line.Call C (call.Create (codes "a" ∷ []))) 10
          ∷ reads (line.Call C (call.SetLen (codes "a" ∷ []) 0)) 13
          ∷ reads (line.Call C (call.Mkdir (codes "d" ∷ codes "k" ∷ []))) 9
          ∷ reads (line.Call C (call.Mkdir (codes "e" ∷ []))) 9
          ∷ reads (line.Call B (call.Rename (codes "d" ∷ codes "b" ∷ []) (codes "d" ∷ codes "b" ∷ []))) 15
          ∷ reads (line.Call A (call.Rename (codes "a" ∷ []) (codes "e" ∷ codes "a" ∷ []))) 13
          ∷ reads (line.Call C (call.Create (codes "d" ∷ codes "b" ∷ []))) 10
          ∷ reads (line.Call B (call.Stat [])) 8
          ∷ reads (line.Call C (call.Write (codes "d" ∷ codes "a" ∷ []) 5 (codes "xy"))) 16
          ∷ reads (line.Call C (call.Write (codes "d" ∷ codes "a" ∷ []) 4 (codes "bb"))) 16
          ∷ reads (line.Push A 1) 8
          ∷ reads (line.Call A (call.Write (codes "d" ∷ codes "b" ∷ []) 2 (codes "c"))) 16
          ∷ reads (line.Call A (call.Write (codes "d" ∷ codes "b" ∷ []) 2 (codes "cy"))) 16
          ∷ reads (line.Call A (call.Write (codes "d" ∷ codes "b" ∷ []) 2 (codes "y"))) 16
          ∷ reads (line.Call C (call.Read (codes "d" ∷ codes "a" ∷ []) 0 9)) 15
          ∷ reads (line.Push C 11) 8
          ∷ reads (line.Call B (call.Write (codes "b" ∷ []) 1 (codes "xa"))) 14
          ∷ reads (line.Call B (call.Write (codes "b" ∷ []) 5 (codes "b"))) 14
          ∷ reads (line.Call B (call.Write (codes "b" ∷ []) 4 (codes "xz"))) 14
          ∷ reads (line.Push B 7) 8
          ∷ reads (line.Call C (call.Create (codes "a" ∷ []))) 10
          ∷ reads (line.Call B (call.Rmdir (codes "d" ∷ []))) 9
          ∷ reads (line.Call B (call.Write (codes "d" ∷ codes "a" ∷ []) 4 (codes "ca"))) 16
          ∷ reads (line.Call B (call.Write (codes "d" ∷ codes "a" ∷ []) 4 (codes "x"))) 16
          ∷ reads (line.Call B (call.Write (codes "d" ∷ codes "a" ∷ []) 5 (codes "ac"))) 16
          ∷ reads (line.Push B 10) 8
          ∷ reads (line.Call A (call.Rename (codes "d" ∷ codes "a" ∷ []) (codes "d" ∷ codes "a" ∷ []))) 15
          ∷ reads (line.Resend C) 8
          ∷ reads (line.Call A (call.Mkdir (codes "d" ∷ codes "e" ∷ []))) 9
          ∷ reads (line.Call B (call.Write (codes "a" ∷ []) 2 (codes "aba"))) 14
          ∷ reads (line.Call B (call.Create (codes "d" ∷ codes "e" ∷ codes "a" ∷ []))) 10
          ∷ reads (line.Call B (call.SetLen (codes "d" ∷ codes "b" ∷ []) 1)) 15
          ∷ reads (line.Call B (call.Rename (codes "d" ∷ codes "e" ∷ codes "a" ∷ []) (codes "d" ∷ codes "b" ∷ []))) 17
          ∷ reads (line.Call A (call.Read (codes "b" ∷ []) 0 9)) 13
          ∷ reads (line.Call B (call.Create (codes "d" ∷ codes "e" ∷ codes "a" ∷ []))) 10
          ∷ reads (line.Call A (call.SetLen (codes "d" ∷ codes "b" ∷ []) 8)) 15
          ∷ reads (line.Call C (call.Fsync (codes "e" ∷ codes "a" ∷ []))) 9
          ∷ reads (line.Call C (call.Create (codes "b" ∷ []))) 10
          ∷ reads (line.Call A (call.Write (codes "e" ∷ codes "a" ∷ []) 3 (codes "z"))) 16
          ∷ reads (line.Push B 9) 8
          ∷ reads (line.Call A (call.Forder ((codes "d" ∷ codes "k" ∷ []) ∷ (codes "d" ∷ codes "a" ∷ []) ∷ (codes "e" ∷ codes "a" ∷ []) ∷ []))) 20
          ∷ reads (line.Call A (call.Stat (codes "e" ∷ []))) 8
          ∷ reads (line.Call C (call.Write (codes "e" ∷ codes "a" ∷ []) 0 (codes "z"))) 16
          ∷ reads (line.Push B 12) 8
          ∷ reads (line.Call C (call.Write (codes "a2" ∷ []) 0 (codes "bcb"))) 15
          ∷ reads (line.Call A (call.Read (codes "a2" ∷ []) 3 0)) 14
          ∷ reads (line.Call B (call.Touch (codes "d" ∷ codes "a" ∷ []) 5)) 14
          ∷ reads (line.Call B (call.Write (codes "a2" ∷ []) 0 (codes "bxz"))) 15
          ∷ reads (line.End C) 5
          ∷ reads (line.Call B (call.Create (codes "d" ∷ codes "e" ∷ codes "a" ∷ []))) 10
          ∷ reads (line.Call A (call.Chown [] 6)) 11
          ∷ [];
      fates = [];
      max_objects = 1024;
      shown =
          Waits 1 C (call.Mkdir (codes "d" ∷ []))
          ∷ Answered 1 C (call.Mkdir (codes "d" ∷ [])) (answer.Reply reply.Ok) (Some 1)
          ∷ Answered 2 C (call.Create (codes "a" ∷ [])) (answer.Reply reply.Ok) (Some 2)
          ∷ Answered 3 C (call.Write (codes "a" ∷ []) 0 (codes "abcdefgh")) (answer.Reply reply.Ok) (Some 3)
          ∷ Waits 4 B (call.Create (codes "b" ∷ []))
          ∷ Durable C (1 ∷ 2 ∷ [])
          ∷ Answered 4 B (call.Create (codes "b" ∷ [])) (answer.Reply reply.Ok) (Some 1)
          ∷ Answered 5 B (call.Write (codes "b" ∷ []) 0 (codes "abcdefgh")) (answer.Reply reply.Ok) (Some 2)
          ∷ Waits 6 B (call.Create (codes "d" ∷ codes "a" ∷ []))
          ∷ Answered 6 B (call.Create (codes "d" ∷ codes "a" ∷ [])) (answer.Reply reply.Ok) (Some 3)
          ∷ Answered 7 B (call.Write (codes "d" ∷ codes "a" ∷ []) 0 (codes "abcdefgh")) (answer.Reply reply.Ok) (Some 4)
          ∷ Waits 8 C (call.Rename (codes "a" ∷ []) (codes "a2" ∷ []))
          ∷ Durable B (1 ∷ [])
          ∷ Answered 8 C (call.Rename (codes "a" ∷ []) (codes "a2" ∷ [])) (answer.Reply reply.Ok) (Some 4)
          ∷ Waits 9 A (call.Rmdir (codes "d" ∷ []))
          ∷ Durable C (3 ∷ 4 ∷ [])
          ∷ Durable B (3 ∷ [])
          ∷ Answered 9 A (call.Rmdir (codes "d" ∷ [])) (answer.Reply (reply.Refused no.NotEmpty)) None
          ∷ Waits 10 C (call.Create (codes "a" ∷ []))
          ∷ Answered 10 C (call.Create (codes "a" ∷ [])) (answer.Reply reply.Ok) (Some 5)
          ∷ Answered 11 C (call.SetLen (codes "a" ∷ []) 0) (answer.Reply reply.Ok) (Some 6)
          ∷ Waits 12 C (call.Mkdir (codes "d" ∷ codes "k" ∷ []))
          ∷ Answered 12 C (call.Mkdir (codes "d" ∷ codes "k" ∷ [])) (answer.Reply reply.Ok) (Some 7)
          ∷ Answered 13 C (call.Mkdir (codes "e" ∷ [])) (answer.Reply reply.Ok) (Some 8)
          ∷ Waits 14 B (call.Rename (codes "d" ∷ codes "b" ∷ []) (codes "d" ∷ codes "b" ∷ []))
          ∷ Durable C (5 ∷ 8 ∷ [])
          ∷ Durable C (7 ∷ [])
          ∷ Answered 14 B (call.Rename (codes "d" ∷ codes "b" ∷ []) (codes "d" ∷ codes "b" ∷ [])) (answer.Reply (reply.Refused (no.NotFound 2))) None
          ∷ Waits 15 A (call.Rename (codes "a" ∷ []) (codes "e" ∷ codes "a" ∷ []))
          ∷ Durable C (6 ∷ [])
          ∷ Answered 15 A (call.Rename (codes "a" ∷ []) (codes "e" ∷ codes "a" ∷ [])) (answer.Reply reply.Ok) (Some 1)
          ∷ Waits 16 C (call.Create (codes "d" ∷ codes "b" ∷ []))
          ∷ Durable A (1 ∷ [])
          ∷ Answered 16 C (call.Create (codes "d" ∷ codes "b" ∷ [])) (answer.Reply reply.Ok) (Some 9)
          ∷ Waits 17 B (call.Stat [])
          ∷ Answered 17 B (call.Stat []) (answer.Reply (reply.Stat kind.Dir 493 0 0 4)) None
          ∷ Waits 18 C (call.Write (codes "d" ∷ codes "a" ∷ []) 5 (codes "xy"))
          ∷ Durable B (4 ∷ [])
          ∷ Answered 18 C (call.Write (codes "d" ∷ codes "a" ∷ []) 5 (codes "xy")) (answer.Reply reply.Ok) (Some 10)
          ∷ Answered 19 C (call.Write (codes "d" ∷ codes "a" ∷ []) 4 (codes "bb")) (answer.Reply reply.Ok) (Some 11)
          ∷ Nothing
          ∷ Waits 21 A (call.Write (codes "d" ∷ codes "b" ∷ []) 2 (codes "c"))
          ∷ Durable C (9 ∷ [])
          ∷ Answered 21 A (call.Write (codes "d" ∷ codes "b" ∷ []) 2 (codes "c")) (answer.Reply reply.Ok) (Some 2)
          ∷ Answered 22 A (call.Write (codes "d" ∷ codes "b" ∷ []) 2 (codes "cy")) (answer.Reply reply.Ok) (Some 3)
          ∷ Answered 23 A (call.Write (codes "d" ∷ codes "b" ∷ []) 2 (codes "y")) (answer.Reply reply.Ok) (Some 4)
          ∷ Answered 24 C (call.Read (codes "d" ∷ codes "a" ∷ []) 0 9) (answer.Reply (reply.Data (codes "abcdbbyh"))) None
          ∷ Durable C (10 ∷ 11 ∷ [])
          ∷ Answered 26 B (call.Write (codes "b" ∷ []) 1 (codes "xa")) (answer.Reply reply.Ok) (Some 5)
          ∷ Answered 27 B (call.Write (codes "b" ∷ []) 5 (codes "b")) (answer.Reply reply.Ok) (Some 6)
          ∷ Answered 28 B (call.Write (codes "b" ∷ []) 4 (codes "xz")) (answer.Reply reply.Ok) (Some 7)
          ∷ Durable B (2 ∷ 6 ∷ 7 ∷ [])
          ∷ Waits 30 C (call.Create (codes "a" ∷ []))
          ∷ Answered 30 C (call.Create (codes "a" ∷ [])) (answer.Reply reply.Ok) (Some 12)
          ∷ Waits 31 B (call.Rmdir (codes "d" ∷ []))
          ∷ Durable C (12 ∷ [])
          ∷ Answered 31 B (call.Rmdir (codes "d" ∷ [])) (answer.Reply (reply.Refused no.NotEmpty)) None
          ∷ Waits 32 B (call.Write (codes "d" ∷ codes "a" ∷ []) 4 (codes "ca"))
          ∷ Answered 32 B (call.Write (codes "d" ∷ codes "a" ∷ []) 4 (codes "ca")) (answer.Reply reply.Ok) (Some 8)
          ∷ Answered 33 B (call.Write (codes "d" ∷ codes "a" ∷ []) 4 (codes "x")) (answer.Reply reply.Ok) (Some 9)
          ∷ Answered 34 B (call.Write (codes "d" ∷ codes "a" ∷ []) 5 (codes "ac")) (answer.Reply reply.Ok) (Some 10)
          ∷ Durable B (8 ∷ 10 ∷ [])
          ∷ Waits 36 A (call.Rename (codes "d" ∷ codes "a" ∷ []) (codes "d" ∷ codes "a" ∷ []))
          ∷ Durable B (9 ∷ [])
          ∷ Answered 36 A (call.Rename (codes "d" ∷ codes "a" ∷ []) (codes "d" ∷ codes "a" ∷ [])) (answer.Reply reply.Ok) None
          ∷ Waits 38 A (call.Mkdir (codes "d" ∷ codes "e" ∷ []))
          ∷ Answered 38 A (call.Mkdir (codes "d" ∷ codes "e" ∷ [])) (answer.Reply reply.Ok) (Some 5)
          ∷ Waits 39 B (call.Write (codes "a" ∷ []) 2 (codes "aba"))
          ∷ Answered 39 B (call.Write (codes "a" ∷ []) 2 (codes "aba")) (answer.Reply reply.Ok) (Some 11)
          ∷ Waits 40 B (call.Create (codes "d" ∷ codes "e" ∷ codes "a" ∷ []))
          ∷ Durable A (5 ∷ [])
          ∷ Answered 40 B (call.Create (codes "d" ∷ codes "e" ∷ codes "a" ∷ [])) (answer.Reply reply.Ok) (Some 12)
          ∷ Waits 41 B (call.SetLen (codes "d" ∷ codes "b" ∷ []) 1)
          ∷ Durable A (2 ∷ 3 ∷ 4 ∷ [])
          ∷ Answered 41 B (call.SetLen (codes "d" ∷ codes "b" ∷ []) 1) (answer.Reply reply.Ok) (Some 13)
          ∷ Waits 42 B (call.Rename (codes "d" ∷ codes "e" ∷ codes "a" ∷ []) (codes "d" ∷ codes "b" ∷ []))
          ∷ Answered 42 B (call.Rename (codes "d" ∷ codes "e" ∷ codes "a" ∷ []) (codes "d" ∷ codes "b" ∷ [])) (answer.Reply reply.Ok) (Some 14)
          ∷ Waits 43 A (call.Read (codes "b" ∷ []) 0 9)
          ∷ Durable B (5 ∷ [])
          ∷ Answered 43 A (call.Read (codes "b" ∷ []) 0 9) (answer.Reply (reply.Data (codes "axadxzgh"))) None
          ∷ Answered 44 B (call.Create (codes "d" ∷ codes "e" ∷ codes "a" ∷ [])) (answer.Reply reply.Ok) (Some 15)
          ∷ Waits 45 A (call.SetLen (codes "d" ∷ codes "b" ∷ []) 8)
          ∷ Durable B (12 ∷ 13 ∷ 14 ∷ [])
          ∷ Answered 45 A (call.SetLen (codes "d" ∷ codes "b" ∷ []) 8) (answer.Reply reply.Ok) (Some 6)
          ∷ Waits 46 C (call.Fsync (codes "e" ∷ codes "a" ∷ []))
          ∷ Answered 46 C (call.Fsync (codes "e" ∷ codes "a" ∷ [])) (answer.Reply reply.Ok) None
          ∷ Answered 47 C (call.Create (codes "b" ∷ [])) (answer.Reply (reply.Refused no.Exists)) None
          ∷ Waits 48 A (call.Write (codes "e" ∷ codes "a" ∷ []) 3 (codes "z"))
          ∷ Answered 48 A (call.Write (codes "e" ∷ codes "a" ∷ []) 3 (codes "z")) (answer.Reply reply.Ok) (Some 7)
          ∷ Nothing
          ∷ Waits 50 A (call.Forder ((codes "d" ∷ codes "k" ∷ []) ∷ (codes "d" ∷ codes "a" ∷ []) ∷ (codes "e" ∷ codes "a" ∷ []) ∷ []))
          ∷ Answered 50 A (call.Forder ((codes "d" ∷ codes "k" ∷ []) ∷ (codes "d" ∷ codes "a" ∷ []) ∷ (codes "e" ∷ codes "a" ∷ []) ∷ [])) (answer.Reply reply.Ok) (Some 8)
          ∷ Answered 51 A (call.Stat (codes "e" ∷ [])) (answer.Reply (reply.Stat kind.Dir 493 0 0 1)) None
          ∷ Waits 52 C (call.Write (codes "e" ∷ codes "a" ∷ []) 0 (codes "z"))
          ∷ Durable A (7 ∷ 8 ∷ [])
          ∷ Answered 52 C (call.Write (codes "e" ∷ codes "a" ∷ []) 0 (codes "z")) (answer.Reply reply.Ok) (Some 13)
          ∷ Nothing
          ∷ Answered 54 C (call.Write (codes "a2" ∷ []) 0 (codes "bcb")) (answer.Reply reply.Ok) (Some 14)
          ∷ Waits 55 A (call.Read (codes "a2" ∷ []) 3 0)
          ∷ Durable C (14 ∷ [])
          ∷ Answered 55 A (call.Read (codes "a2" ∷ []) 3 0) (answer.Reply (reply.Data [])) None
          ∷ Waits 56 B (call.Touch (codes "d" ∷ codes "a" ∷ []) 5)
          ∷ Answered 56 B (call.Touch (codes "d" ∷ codes "a" ∷ []) 5) (answer.Reply reply.Ok) (Some 16)
          ∷ Waits 57 B (call.Write (codes "a2" ∷ []) 0 (codes "bxz"))
          ∷ Answered 57 B (call.Write (codes "a2" ∷ []) 0 (codes "bxz")) (answer.Reply reply.Ok) (Some 17)
          ∷ Ended C (13 ∷ [])
          ∷ Told C (13 ∷ [])
          ∷ Answered 59 B (call.Create (codes "d" ∷ codes "e" ∷ codes "a" ∷ [])) (answer.Reply (reply.Refused no.Exists)) None
          ∷ Waits 60 A (call.Chown [] 6)
          ∷ Answered 60 A (call.Chown [] 6) (answer.Reply reply.Ok) (Some 9)
          ∷ [];
      status = 0;
    }

abbrev pub crash_24 : Run
crash_24 =
    record {
      lines =
          reads (line.Call A (call.List (codes "e" ∷ []))) 8
          ∷ reads (line.Call B (call.Create (codes "a" ∷ []))) 10
          ∷ reads (line.Call B (call.Remove (codes "a" ∷ []))) 10
          ∷ reads (line.Resend B) 8
          ∷ reads (line.Call B (call.Mkdir (codes "e" ∷ []))) 9
          ∷ reads (line.Call A (call.Fsync (codes "d" ∷ codes "a" ∷ []))) 9
          ∷ reads (line.Call B call.Sync) 3
          ∷ reads (line.Push B 1) 8
          ∷ reads (line.Call A (call.Rename (codes "a" ∷ []) (codes "e" ∷ codes "a" ∷ []))) 13
          ∷ reads (line.Cut A) 5
          ∷ reads (line.End A) 5
          ∷ reads (line.Call B (call.Stat (codes "a" ∷ []))) 8
          ∷ reads (line.Call A (call.Write (codes "d" ∷ codes "a" ∷ []) 1 (codes "xbzxa"))) 16
          ∷ reads (line.Uncut A) 7
          ∷ reads (line.Call A (call.Read (codes "a" ∷ []) 0 9)) 13
          ∷ reads (line.Call A (call.Stat (codes "d" ∷ codes "a2" ∷ []))) 8
          ∷ reads (line.Call A (call.Read (codes "d" ∷ codes "a" ∷ []) 0 9)) 15
          ∷ reads (line.Call A (call.List (codes "e" ∷ []))) 8
          ∷ reads (line.Cut A) 5
          ∷ reads (line.Call A (call.Touch (codes "a" ∷ []) 3)) 12
          ∷ reads (line.Call A call.Sync) 3
          ∷ reads (line.Crash A) 7
          ∷ reads (line.Call A (call.Rmdir (codes "e" ∷ []))) 9
          ∷ reads (line.Call B (call.Read (codes "e" ∷ codes "a" ∷ []) 0 9)) 15
          ∷ reads (line.Uncut A) 7
          ∷ reads (line.Call A call.Sync) 3
          ∷ reads (line.Call A (call.Read (codes "a" ∷ []) 0 9)) 13
          ∷ reads (line.Call A (call.Read (codes "e" ∷ codes "a" ∷ []) 0 9)) 15
          ∷ reads (line.End B) 5
          ∷ reads (line.End B) 5
          ∷ reads (line.Call B (call.Create (codes "a" ∷ []))) 10
          ∷ reads (line.Call A (call.Create (codes "a" ∷ []))) 10
          ∷ reads (line.Call A (call.Write (codes "a" ∷ []) 1 (codes "zazyc"))) 14
          ∷ reads (line.Repeat B msg.Kept 1) 15
          ∷ reads (line.Call A (call.Write (codes "a" ∷ []) 4 (codes "aazyc"))) 14
          ∷ reads (line.Call A (call.Create (codes "a" ∷ []))) 10
          ∷ reads (line.Call A (call.Read (codes "a" ∷ []) 3 0)) 13
          ∷ reads (line.Cut B) 5
          ∷ reads (line.End B) 5
          ∷ reads (line.Call A (call.Rename (codes "d" ∷ []) (codes "d" ∷ []))) 13
          ∷ reads (line.Uncut B) 7
          ∷ reads (line.Call B call.Sync) 3
          ∷ reads (line.Call B (call.List [])) 8
          ∷ reads (line.Call B (call.Read (codes "a" ∷ []) 0 9)) 13
          ∷ reads (line.Call B call.Sync) 3
          ∷ reads (line.Call A (call.Read (codes "a" ∷ []) 70000 4)) 17
          ∷ reads (line.Call B (call.Mkdir (codes "d" ∷ []))) 9
          ∷ reads (line.Call B (call.SetLen (codes "a" ∷ []) 0)) 13
          ∷ reads (line.Call A (call.Write (codes "a" ∷ []) 5 (codes "za"))) 14
          ∷ reads (line.Call A (call.Write (codes "a" ∷ []) 4 (codes "cz"))) 14
          ∷ reads (line.Call A (call.Write (codes "a" ∷ []) 2 (codes "z"))) 14
          ∷ reads (line.Push A 5) 8
          ∷ reads (line.Call B (call.Fsync (codes "d" ∷ []))) 9
          ∷ reads (line.Call A (call.Stat [])) 8
          ∷ reads (line.Call B (call.Mkdir (codes "e" ∷ []))) 9
          ∷ reads (line.Uncut A) 7
          ∷ reads (line.Call A (call.Write (codes "a" ∷ []) 2 (codes "zy"))) 14
          ∷ reads (line.Call A (call.Write (codes "a" ∷ []) 1 (codes "x"))) 14
          ∷ reads (line.Push A 7) 8
          ∷ reads (line.Push B 7) 8
          ∷ reads (line.Resend A) 8
          ∷ reads (line.Resend B) 8
          ∷ reads (line.Resend A) 8
          ∷ reads (line.Resend B) 8
          ∷ reads (line.Call A (call.List [])) 8
          ∷ reads (line.Call B (call.List [])) 8
          ∷ reads (line.Call B (call.Read (codes "a" ∷ []) 0 64)) 13
          ∷ reads (line.Call B (call.Read (codes "d" ∷ codes "a" ∷ []) 0 64)) 15
          ∷ reads (line.Call B (call.Read (codes "e" ∷ codes "a" ∷ []) 0 64)) 15
          ∷ reads (line.Call A call.Sync) 3
          ∷ reads (line.Call B call.Sync) 3
          ∷ [];
      fates = [];
      max_objects = 1024;
      shown =
          Waits 1 A (call.List (codes "e" ∷ []))
          ∷ Answered 1 A (call.List (codes "e" ∷ [])) (answer.Reply (reply.Refused (no.NotFound 1))) None
          ∷ Waits 2 B (call.Create (codes "a" ∷ []))
          ∷ Answered 2 B (call.Create (codes "a" ∷ [])) (answer.Reply reply.Ok) (Some 1)
          ∷ Answered 3 B (call.Remove (codes "a" ∷ [])) (answer.Reply reply.Ok) (Some 2)
          ∷ Answered 5 B (call.Mkdir (codes "e" ∷ [])) (answer.Reply reply.Ok) (Some 3)
          ∷ Waits 6 A (call.Fsync (codes "d" ∷ codes "a" ∷ []))
          ∷ Durable B (1 ∷ 2 ∷ 3 ∷ [])
          ∷ Answered 6 A (call.Fsync (codes "d" ∷ codes "a" ∷ [])) (answer.Reply (reply.Refused (no.NotFound 1))) None
          ∷ Answered 7 B call.Sync (answer.Reply reply.Ok) None
          ∷ Nothing
          ∷ Answered 9 A (call.Rename (codes "a" ∷ []) (codes "e" ∷ codes "a" ∷ [])) (answer.Reply (reply.Refused (no.NotFound 1))) None
          ∷ Ended A []
          ∷ Answered 12 B (call.Stat (codes "a" ∷ [])) (answer.Reply (reply.Refused (no.NotFound 1))) None
          ∷ Answered 13 A (call.Write (codes "d" ∷ codes "a" ∷ []) 1 (codes "xbzxa")) (answer.Reply (reply.Refused (no.NotFound 1))) None
          ∷ Told A []
          ∷ Waits 15 A (call.Read (codes "a" ∷ []) 0 9)
          ∷ Answered 15 A (call.Read (codes "a" ∷ []) 0 9) (answer.Reply (reply.Refused (no.NotFound 1))) None
          ∷ Answered 16 A (call.Stat (codes "d" ∷ codes "a2" ∷ [])) (answer.Reply (reply.Refused (no.NotFound 1))) None
          ∷ Answered 17 A (call.Read (codes "d" ∷ codes "a" ∷ []) 0 9) (answer.Reply (reply.Refused (no.NotFound 1))) None
          ∷ Waits 18 A (call.List (codes "e" ∷ []))
          ∷ Answered 18 A (call.List (codes "e" ∷ [])) (answer.Reply (reply.Names [])) None
          ∷ Answered 20 A (call.Touch (codes "a" ∷ []) 3) (answer.Reply (reply.Refused (no.NotFound 1))) None
          ∷ Answered 21 A call.Sync (answer.Reply reply.Ok) None
          ∷ Crashed A
          ∷ Waits 23 A (call.Rmdir (codes "e" ∷ []))
          ∷ Answered 24 B (call.Read (codes "e" ∷ codes "a" ∷ []) 0 9) (answer.Reply (reply.Refused (no.NotFound 2))) None
          ∷ Ended A []
          ∷ Answered 23 A (call.Rmdir (codes "e" ∷ [])) (answer.Reply reply.Ok) (Some 1)
          ∷ Waits 26 A call.Sync
          ∷ Durable A (1 ∷ [])
          ∷ Answered 26 A call.Sync (answer.Reply reply.Ok) None
          ∷ Answered 27 A (call.Read (codes "a" ∷ []) 0 9) (answer.Reply (reply.Refused (no.NotFound 1))) None
          ∷ Answered 28 A (call.Read (codes "e" ∷ codes "a" ∷ []) 0 9) (answer.Reply (reply.Refused (no.NotFound 1))) None
          ∷ Ended B []
          ∷ Told B []
          ∷ Ended B []
          ∷ Told B []
          ∷ Waits 31 B (call.Create (codes "a" ∷ []))
          ∷ Answered 31 B (call.Create (codes "a" ∷ [])) (answer.Reply reply.Ok) (Some 4)
          ∷ Waits 32 A (call.Create (codes "a" ∷ []))
          ∷ Durable B (4 ∷ [])
          ∷ Answered 32 A (call.Create (codes "a" ∷ [])) (answer.Reply (reply.Refused no.Exists)) None
          ∷ Waits 33 A (call.Write (codes "a" ∷ []) 1 (codes "zazyc"))
          ∷ Answered 33 A (call.Write (codes "a" ∷ []) 1 (codes "zazyc")) (answer.Reply reply.Ok) (Some 2)
          ∷ Answered 35 A (call.Write (codes "a" ∷ []) 4 (codes "aazyc")) (answer.Reply reply.Ok) (Some 3)
          ∷ Answered 36 A (call.Create (codes "a" ∷ [])) (answer.Reply (reply.Refused no.Exists)) None
          ∷ Answered 37 A (call.Read (codes "a" ∷ []) 3 0) (answer.Reply (reply.Data [])) None
          ∷ Ended B []
          ∷ Answered 40 A (call.Rename (codes "d" ∷ []) (codes "d" ∷ [])) (answer.Reply (reply.Refused (no.NotFound 1))) None
          ∷ Told B []
          ∷ Answered 42 B call.Sync (answer.Reply reply.Ok) None
          ∷ Waits 43 B (call.List [])
          ∷ Answered 43 B (call.List []) (answer.Reply (reply.Names (codes "a" ∷ []))) None
          ∷ Waits 44 B (call.Read (codes "a" ∷ []) 0 9)
          ∷ Durable A (2 ∷ 3 ∷ [])
          ∷ Answered 44 B (call.Read (codes "a" ∷ []) 0 9) (answer.Reply (reply.Data (0 ∷ 122 ∷ 97 ∷ 122 ∷ 97 ∷ 97 ∷ 122 ∷ 121 ∷ 99 ∷ []))) None
          ∷ Answered 45 B call.Sync (answer.Reply reply.Ok) None
          ∷ Answered 46 A (call.Read (codes "a" ∷ []) 70000 4) (answer.Reply (reply.Data [])) None
          ∷ Waits 47 B (call.Mkdir (codes "d" ∷ []))
          ∷ Answered 47 B (call.Mkdir (codes "d" ∷ [])) (answer.Reply reply.Ok) (Some 5)
          ∷ Waits 48 B (call.SetLen (codes "a" ∷ []) 0)
          ∷ Answered 48 B (call.SetLen (codes "a" ∷ []) 0) (answer.Reply reply.Ok) (Some 6)
          ∷ Waits 49 A (call.Write (codes "a" ∷ []) 5 (codes "za"))
          ∷ Durable B (5 ∷ [])
          ∷ Durable B (6 ∷ [])
          ∷ Answered 49 A (call.Write (codes "a" ∷ []) 5 (codes "za")) (answer.Reply reply.Ok) (Some 4)
          ∷ Answered 50 A (call.Write (codes "a" ∷ []) 4 (codes "cz")) (answer.Reply reply.Ok) (Some 5)
          ∷ Answered 51 A (call.Write (codes "a" ∷ []) 2 (codes "z")) (answer.Reply reply.Ok) (Some 6)
          ∷ Durable A (4 ∷ 5 ∷ [])
          ∷ Answered 53 B (call.Fsync (codes "d" ∷ [])) (answer.Reply reply.Ok) None
          ∷ Answered 54 A (call.Stat []) (answer.Reply (reply.Stat kind.Dir 493 0 0 2)) None
          ∷ Waits 55 B (call.Mkdir (codes "e" ∷ []))
          ∷ Answered 55 B (call.Mkdir (codes "e" ∷ [])) (answer.Reply reply.Ok) (Some 7)
          ∷ Nothing
          ∷ Waits 57 A (call.Write (codes "a" ∷ []) 2 (codes "zy"))
          ∷ Durable B (7 ∷ [])
          ∷ Answered 57 A (call.Write (codes "a" ∷ []) 2 (codes "zy")) (answer.Reply reply.Ok) (Some 7)
          ∷ Answered 58 A (call.Write (codes "a" ∷ []) 1 (codes "x")) (answer.Reply reply.Ok) (Some 8)
          ∷ Durable A (6 ∷ 7 ∷ [])
          ∷ Nothing
          ∷ Answered 65 A (call.List []) (answer.Reply (reply.Names (codes "a" ∷ codes "d" ∷ codes "e" ∷ []))) None
          ∷ Answered 66 B (call.List []) (answer.Reply (reply.Names (codes "a" ∷ codes "d" ∷ codes "e" ∷ []))) None
          ∷ Waits 67 B (call.Read (codes "a" ∷ []) 0 64)
          ∷ Durable A (8 ∷ [])
          ∷ Answered 67 B (call.Read (codes "a" ∷ []) 0 64) (answer.Reply (reply.Data (0 ∷ 120 ∷ 122 ∷ 121 ∷ 99 ∷ 122 ∷ 97 ∷ []))) None
          ∷ Answered 68 B (call.Read (codes "d" ∷ codes "a" ∷ []) 0 64) (answer.Reply (reply.Refused (no.NotFound 2))) None
          ∷ Answered 69 B (call.Read (codes "e" ∷ codes "a" ∷ []) 0 64) (answer.Reply (reply.Refused (no.NotFound 2))) None
          ∷ Answered 70 A call.Sync (answer.Reply reply.Ok) None
          ∷ Answered 71 B call.Sync (answer.Reply reply.Ok) None
          ∷ [];
      status = 0;
    }
