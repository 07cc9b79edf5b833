-- Random scripts with crashes and ended sessions.
use Rattle.std.specs.Prelude.{[], ◌∷◌, None, Some, codes}
use Rattle.ec_volume.specs.declared.image.Kind.TheVariants as kind
use Rattle.ec_plain.specs.declared.call.Call.TheVariants as call
use Rattle.ec_plain.specs.declared.call.Reply.TheVariants as reply
use Rattle.ec_plain.specs.declared.call.Refusal.TheVariants as no
use Rattle.ec_history.specs.declared.entry.Answer.TheVariants as answer
use Rattle.ec_history.specs.declared.shown.Shown.TheVariants.{Waits, Answered, Durable, Ended, Unseen, Told, Crashed, Nothing}
use Rattle.ec_wire.specs.declared.msg.MsgKind.TheVariants as msg
use Rattle.ec_protocol.specs.declared.script.Line.TheVariants as line
use Rattle.ec_protocol.specs.Drill.{reads}
use Rattle.ec_protocol.specs.Runs.{Run, A, B, C, D}

abbrev pub crash_0 : Run
crash_0 =
    record {
      lines =
          reads (line.Call B (call.Mkdir (codes "d" ∷ []))) 9 ∷ reads (line.Call A (call.Create (codes "a" ∷ []))) 10
          ∷ reads (line.Call A (call.Create (codes "d" ∷ codes "a" ∷ []))) 10
          ∷ reads (line.Call A (call.Write (codes "d" ∷ codes "a" ∷ []) 6 (codes "a"))) 16 ∷ reads (line.Call B (call.Remove (codes "a" ∷ []))) 10
          ∷ reads (line.Call B (call.Read (codes "d" ∷ codes "a" ∷ []) 0 9)) 15 ∷ reads (line.Call A (call.Create (codes "a" ∷ []))) 10
          ∷ reads (line.Call C (call.Write (codes "d" ∷ codes "a" ∷ []) 1 (codes "ac"))) 16
          ∷ reads (line.Call C (call.Create (codes "e" ∷ codes "a" ∷ []))) 10 ∷ reads (line.Repeat C msg.Want 1) 15 ∷ reads (line.End B) 5
          ∷ reads (line.Call A (call.Read (codes "a" ∷ []) 0 9)) 13 ∷ reads (line.Call C (call.Write (codes "d" ∷ codes "a" ∷ []) 4 (codes "by"))) 16
          ∷ reads (line.Call B (call.Create (codes "a" ∷ []))) 10 ∷ reads (line.Call A (call.Touch (codes "d" ∷ []) 0)) 12
          ∷ reads (line.Call A (call.Read (codes "a" ∷ []) 0 0)) 13 ∷ reads (line.Call A (call.Mkdir (codes "e" ∷ []))) 9
          ∷ reads (line.Call B (call.SetLen (codes "a" ∷ []) 2)) 13 ∷ reads (line.Uncut B) 7
          ∷ reads (line.Call C (call.Create (codes "e" ∷ codes "a" ∷ []))) 10
          ∷ reads (line.Call B (call.Rename (codes "d" ∷ []) (codes "d" ∷ codes "z" ∷ []))) 13 ∷ reads (line.Call A (call.List [])) 8
          ∷ reads (line.Call B (call.Mkdir (codes "e" ∷ []))) 9 ∷ reads (line.Call B (call.Create (codes "d" ∷ codes "a" ∷ []))) 10
          ∷ reads (line.Repeat A msg.Recall 10) 17 ∷ reads (line.Call A (call.Mkdir (codes "e" ∷ []))) 9
          ∷ reads (line.Call B (call.Create (codes "d" ∷ codes "a" ∷ []))) 10 ∷ reads (line.Cut A) 5 ∷ reads (line.End A) 5
          ∷ reads (line.Call C (call.Fsync (codes "a" ∷ []))) 9 ∷ reads (line.Call B (call.Rename (codes "a" ∷ []) (codes "a2" ∷ []))) 13
          ∷ reads (line.Uncut A) 7 ∷ reads (line.Call A (call.List [])) 8 ∷ reads (line.Call A (call.Read (codes "a" ∷ []) 0 9)) 13
          ∷ reads (line.Call A (call.Stat (codes "a2" ∷ []))) 8 ∷ reads (line.Resend A) 8 ∷ reads (line.Resend B) 8
          ∷ reads (line.Call B (call.Write (codes "d" ∷ codes "a" ∷ []) 2 (codes "b"))) 16 ∷ reads (line.Resend C) 8
          ∷ reads (line.Call C (call.Mkdir (codes "e" ∷ []))) 9 ∷ reads (line.Resend A) 8 ∷ reads (line.Resend B) 8 ∷ reads (line.Resend C) 8
          ∷ reads (line.Resend A) 8 ∷ reads (line.Resend B) 8 ∷ reads (line.Resend C) 8 ∷ reads (line.Call A (call.List [])) 8
          ∷ reads (line.Call B (call.List [])) 8 ∷ reads (line.Call C (call.List [])) 8 ∷ reads (line.Call C (call.Read (codes "a" ∷ []) 0 64)) 13
          ∷ reads (line.Call C (call.Read (codes "d" ∷ codes "a" ∷ []) 0 64)) 15
          ∷ reads (line.Call B (call.Read (codes "e" ∷ codes "a" ∷ []) 0 64)) 15 ∷ reads (line.Call A call.Sync) 3 ∷ reads (line.Call B call.Sync) 3
          ∷ reads (line.Call C call.Sync) 3 ∷ [];
      fates = [];
      max_objects = 1024;
      shown =
          Waits 1 B (call.Mkdir (codes "d" ∷ [])) ∷ Answered 1 B (call.Mkdir (codes "d" ∷ [])) (answer.Reply reply.Ok) (Some 1)
          ∷ Waits 2 A (call.Create (codes "a" ∷ [])) ∷ Durable B (1 ∷ [])
          ∷ Answered 2 A (call.Create (codes "a" ∷ [])) (answer.Reply reply.Ok) (Some 1) ∷ Waits 3 A (call.Create (codes "d" ∷ codes "a" ∷ []))
          ∷ Answered 3 A (call.Create (codes "d" ∷ codes "a" ∷ [])) (answer.Reply reply.Ok) (Some 2)
          ∷ Answered 4 A (call.Write (codes "d" ∷ codes "a" ∷ []) 6 (codes "a")) (answer.Reply reply.Ok) (Some 3)
          ∷ Waits 5 B (call.Remove (codes "a" ∷ [])) ∷ Durable A (1 ∷ [])
          ∷ Answered 5 B (call.Remove (codes "a" ∷ [])) (answer.Reply reply.Ok) (Some 2) ∷ Waits 6 B (call.Read (codes "d" ∷ codes "a" ∷ []) 0 9)
          ∷ Durable A (2 ∷ []) ∷ Durable A (3 ∷ [])
          ∷ Answered 6 B (call.Read (codes "d" ∷ codes "a" ∷ []) 0 9) (answer.Reply (reply.Data (0 ∷ 0 ∷ 0 ∷ 0 ∷ 0 ∷ 0 ∷ 97 ∷ []))) None
          ∷ Waits 7 A (call.Create (codes "a" ∷ [])) ∷ Durable B (2 ∷ [])
          ∷ Answered 7 A (call.Create (codes "a" ∷ [])) (answer.Reply reply.Ok) (Some 4)
          ∷ Waits 8 C (call.Write (codes "d" ∷ codes "a" ∷ []) 1 (codes "ac")) ∷ Durable A (4 ∷ [])
          ∷ Answered 8 C (call.Write (codes "d" ∷ codes "a" ∷ []) 1 (codes "ac")) (answer.Reply reply.Ok) (Some 1)
          ∷ Answered 9 C (call.Create (codes "e" ∷ codes "a" ∷ [])) (answer.Reply (reply.Refused (no.NotFound 1))) None ∷ Ended B [] ∷ Told B []
          ∷ Answered 12 A (call.Read (codes "a" ∷ []) 0 9) (answer.Reply (reply.Data [])) None
          ∷ Answered 13 C (call.Write (codes "d" ∷ codes "a" ∷ []) 4 (codes "by")) (answer.Reply reply.Ok) (Some 2)
          ∷ Waits 14 B (call.Create (codes "a" ∷ [])) ∷ Answered 14 B (call.Create (codes "a" ∷ [])) (answer.Reply (reply.Refused no.Exists)) None
          ∷ Waits 15 A (call.Touch (codes "d" ∷ []) 0) ∷ Answered 15 A (call.Touch (codes "d" ∷ []) 0) (answer.Reply reply.Ok) (Some 5)
          ∷ Answered 16 A (call.Read (codes "a" ∷ []) 0 0) (answer.Reply (reply.Data [])) None ∷ Waits 17 A (call.Mkdir (codes "e" ∷ []))
          ∷ Answered 17 A (call.Mkdir (codes "e" ∷ [])) (answer.Reply reply.Ok) (Some 6) ∷ Waits 18 B (call.SetLen (codes "a" ∷ []) 2)
          ∷ Durable A (6 ∷ []) ∷ Answered 18 B (call.SetLen (codes "a" ∷ []) 2) (answer.Reply reply.Ok) (Some 3) ∷ Nothing
          ∷ Waits 20 C (call.Create (codes "e" ∷ codes "a" ∷ []))
          ∷ Answered 20 C (call.Create (codes "e" ∷ codes "a" ∷ [])) (answer.Reply reply.Ok) (Some 3)
          ∷ Waits 21 B (call.Rename (codes "d" ∷ []) (codes "d" ∷ codes "z" ∷ [])) ∷ Durable A (5 ∷ [])
          ∷ Answered 21 B (call.Rename (codes "d" ∷ []) (codes "d" ∷ codes "z" ∷ [])) (answer.Reply (reply.Refused no.Loop)) None
          ∷ Answered 22 A (call.List []) (answer.Reply (reply.Names (codes "a" ∷ codes "d" ∷ codes "e" ∷ []))) None
          ∷ Answered 23 B (call.Mkdir (codes "e" ∷ [])) (answer.Reply (reply.Refused no.Exists)) None
          ∷ Answered 24 B (call.Create (codes "d" ∷ codes "a" ∷ [])) (answer.Reply (reply.Refused no.Exists)) None
          ∷ Answered 26 A (call.Mkdir (codes "e" ∷ [])) (answer.Reply (reply.Refused no.Exists)) None
          ∷ Answered 27 B (call.Create (codes "d" ∷ codes "a" ∷ [])) (answer.Reply (reply.Refused no.Exists)) None ∷ Ended A []
          ∷ Waits 30 C (call.Fsync (codes "a" ∷ [])) ∷ Durable B (3 ∷ []) ∷ Answered 30 C (call.Fsync (codes "a" ∷ [])) (answer.Reply reply.Ok) None
          ∷ Waits 31 B (call.Rename (codes "a" ∷ []) (codes "a2" ∷ []))
          ∷ Answered 31 B (call.Rename (codes "a" ∷ []) (codes "a2" ∷ [])) (answer.Reply reply.Ok) (Some 4) ∷ Told A [] ∷ Waits 33 A (call.List [])
          ∷ Durable B (4 ∷ []) ∷ Answered 33 A (call.List []) (answer.Reply (reply.Names (codes "a2" ∷ codes "d" ∷ codes "e" ∷ []))) None
          ∷ Answered 34 A (call.Read (codes "a" ∷ []) 0 9) (answer.Reply (reply.Refused (no.NotFound 1))) None
          ∷ Waits 35 A (call.Stat (codes "a2" ∷ []))
          ∷ Answered 35 A (call.Stat (codes "a2" ∷ [])) (answer.Reply (reply.Stat kind.File 420 0 0 2)) None
          ∷ Waits 38 B (call.Write (codes "d" ∷ codes "a" ∷ []) 2 (codes "b")) ∷ Durable C (1 ∷ 2 ∷ [])
          ∷ Answered 38 B (call.Write (codes "d" ∷ codes "a" ∷ []) 2 (codes "b")) (answer.Reply reply.Ok) (Some 5)
          ∷ Waits 40 C (call.Mkdir (codes "e" ∷ [])) ∷ Answered 40 C (call.Mkdir (codes "e" ∷ [])) (answer.Reply (reply.Refused no.Exists)) None
          ∷ Answered 47 A (call.List []) (answer.Reply (reply.Names (codes "a2" ∷ codes "d" ∷ codes "e" ∷ []))) None
          ∷ Answered 48 B (call.List []) (answer.Reply (reply.Names (codes "a2" ∷ codes "d" ∷ codes "e" ∷ []))) None
          ∷ Answered 49 C (call.List []) (answer.Reply (reply.Names (codes "a2" ∷ codes "d" ∷ codes "e" ∷ []))) None
          ∷ Answered 50 C (call.Read (codes "a" ∷ []) 0 64) (answer.Reply (reply.Refused (no.NotFound 1))) None
          ∷ Waits 51 C (call.Read (codes "d" ∷ codes "a" ∷ []) 0 64) ∷ Durable B (5 ∷ [])
          ∷ Answered 51 C (call.Read (codes "d" ∷ codes "a" ∷ []) 0 64) (answer.Reply (reply.Data (0 ∷ 97 ∷ 98 ∷ 0 ∷ 98 ∷ 121 ∷ 97 ∷ []))) None
          ∷ Waits 52 B (call.Read (codes "e" ∷ codes "a" ∷ []) 0 64) ∷ Durable C (3 ∷ [])
          ∷ Answered 52 B (call.Read (codes "e" ∷ codes "a" ∷ []) 0 64) (answer.Reply (reply.Data [])) None
          ∷ Answered 53 A call.Sync (answer.Reply reply.Ok) None ∷ Answered 54 B call.Sync (answer.Reply reply.Ok) None
          ∷ Answered 55 C call.Sync (answer.Reply reply.Ok) None ∷ [];
      status = 0;
    }

abbrev pub crash_1 : Run
crash_1 =
    record {
      lines =
          reads (line.Call B (call.Mkdir (codes "d" ∷ []))) 9 ∷ reads (line.Call A (call.Create (codes "a" ∷ []))) 10
          ∷ reads (line.Call A (call.Write (codes "a" ∷ []) 0 (codes "abcdefgh"))) 14 ∷ reads (line.Call B (call.Create (codes "b" ∷ []))) 10
          ∷ reads (line.Call B (call.Write (codes "b" ∷ []) 0 (codes "abcdefgh"))) 14
          ∷ reads (line.Call A (call.Create (codes "d" ∷ codes "a" ∷ []))) 10
          ∷ reads (line.Call A (call.Write (codes "d" ∷ codes "a" ∷ []) 0 (codes "abcdefgh"))) 16 ∷ reads (line.Call A call.Sync) 3
          ∷ reads (line.Call B call.Sync) 3 ∷ reads (line.Call A (call.Stat (codes "d" ∷ codes "a" ∷ []))) 8
          ∷ reads (line.Call B (call.Write (codes "b" ∷ []) 3 (codes "bzxbc"))) 14
          ∷ reads (line.Call B (call.Rename (codes "d" ∷ codes "a" ∷ []) (codes "e" ∷ codes "a" ∷ []))) 15
          ∷ reads (line.Call B (call.Mkdir (codes "d" ∷ codes "k" ∷ []))) 9 ∷ reads (line.Call B (call.Create (codes "a" ∷ []))) 10
          ∷ reads (line.Call A (call.Read (codes "d" ∷ codes "e" ∷ codes "a" ∷ []) 1 0)) 17
          ∷ reads (line.Call A (call.Rename (codes "d" ∷ codes "a" ∷ []) (codes "d" ∷ codes "a2" ∷ []))) 15
          ∷ reads (line.Call A (call.Forder ((codes "b" ∷ []) ∷ [] ∷ []))) 13
          ∷ reads (line.Call B (call.Write (codes "d" ∷ codes "a2" ∷ []) 0 (codes "a"))) 17
          ∷ reads (line.Call B (call.Create (codes "d" ∷ codes "a" ∷ []))) 10 ∷ reads (line.Call B (call.Touch (codes "d" ∷ codes "a2" ∷ []) 3)) 15
          ∷ reads (line.Call B (call.List [])) 8 ∷ reads (line.Call A (call.Stat (codes "d" ∷ []))) 8
          ∷ reads (line.Call B (call.Create (codes "d" ∷ codes "b" ∷ []))) 10 ∷ reads (line.Call A (call.Remove (codes "d" ∷ codes "a2" ∷ []))) 10
          ∷ reads (line.Call B (call.Stat (codes "d" ∷ []))) 8
          ∷ reads (line.Call A (call.Forder ((codes "d" ∷ codes "b" ∷ []) ∷ (codes "a" ∷ []) ∷ []))) 15 ∷ reads (line.Call B (call.Chmod [] 4095)) 11
          ∷ reads (line.Call A (call.Stat (codes "d" ∷ []))) 8 ∷ reads (line.Call A (call.Write (codes "a" ∷ []) 3 (codes "xz"))) 14
          ∷ reads (line.Call A (call.Create (codes "d" ∷ codes "b" ∷ []))) 10 ∷ reads (line.Call A (call.SetLen (codes "b" ∷ []) 4)) 13
          ∷ reads (line.Call A (call.Read (codes "d" ∷ codes "a" ∷ []) 0 9)) 15 ∷ reads (line.Call A (call.Fsync [])) 9 ∷ reads (line.Push A 7) 8
          ∷ reads (line.Call A (call.Write (codes "a" ∷ []) 6 (codes "xzyyb"))) 14 ∷ reads (line.Call B (call.Mkdir (codes "d" ∷ codes "e" ∷ []))) 9
          ∷ reads (line.Call B (call.Touch [] 5)) 11 ∷ reads (line.Call B (call.Create (codes "d" ∷ codes "e" ∷ codes "a" ∷ []))) 10
          ∷ reads (line.Call B (call.Write (codes "d" ∷ codes "a" ∷ []) 4 (codes "bb"))) 16
          ∷ reads (line.Call B (call.Write (codes "d" ∷ codes "a" ∷ []) 3 (codes "z"))) 16 ∷ reads (line.Resend A) 8 ∷ reads (line.Resend B) 8
          ∷ reads (line.Resend A) 8 ∷ reads (line.Resend B) 8 ∷ reads (line.Call A (call.List [])) 8 ∷ reads (line.Call B (call.List [])) 8
          ∷ reads (line.Call B (call.Read (codes "a" ∷ []) 0 64)) 13 ∷ reads (line.Call B (call.Read (codes "b" ∷ []) 0 64)) 13
          ∷ reads (line.Call B (call.Read (codes "d" ∷ codes "a" ∷ []) 0 64)) 15 ∷ reads (line.Call A call.Sync) 3 ∷ reads (line.Call B call.Sync) 3
          ∷ [];
      fates = [];
      max_objects = 1024;
      shown =
          Waits 1 B (call.Mkdir (codes "d" ∷ [])) ∷ Answered 1 B (call.Mkdir (codes "d" ∷ [])) (answer.Reply reply.Ok) (Some 1)
          ∷ Waits 2 A (call.Create (codes "a" ∷ [])) ∷ Durable B (1 ∷ [])
          ∷ Answered 2 A (call.Create (codes "a" ∷ [])) (answer.Reply reply.Ok) (Some 1)
          ∷ Answered 3 A (call.Write (codes "a" ∷ []) 0 (codes "abcdefgh")) (answer.Reply reply.Ok) (Some 2)
          ∷ Waits 4 B (call.Create (codes "b" ∷ [])) ∷ Durable A (1 ∷ [])
          ∷ Answered 4 B (call.Create (codes "b" ∷ [])) (answer.Reply reply.Ok) (Some 2)
          ∷ Answered 5 B (call.Write (codes "b" ∷ []) 0 (codes "abcdefgh")) (answer.Reply reply.Ok) (Some 3)
          ∷ Waits 6 A (call.Create (codes "d" ∷ codes "a" ∷ [])) ∷ Durable B (2 ∷ [])
          ∷ Answered 6 A (call.Create (codes "d" ∷ codes "a" ∷ [])) (answer.Reply reply.Ok) (Some 3)
          ∷ Answered 7 A (call.Write (codes "d" ∷ codes "a" ∷ []) 0 (codes "abcdefgh")) (answer.Reply reply.Ok) (Some 4) ∷ Waits 8 A call.Sync
          ∷ Durable A (2 ∷ 3 ∷ 4 ∷ []) ∷ Answered 8 A call.Sync (answer.Reply reply.Ok) None ∷ Waits 9 B call.Sync ∷ Durable B (3 ∷ [])
          ∷ Answered 9 B call.Sync (answer.Reply reply.Ok) None
          ∷ Answered 10 A (call.Stat (codes "d" ∷ codes "a" ∷ [])) (answer.Reply (reply.Stat kind.File 420 0 0 8)) None
          ∷ Answered 11 B (call.Write (codes "b" ∷ []) 3 (codes "bzxbc")) (answer.Reply reply.Ok) (Some 4)
          ∷ Waits 12 B (call.Rename (codes "d" ∷ codes "a" ∷ []) (codes "e" ∷ codes "a" ∷ []))
          ∷ Answered 12 B (call.Rename (codes "d" ∷ codes "a" ∷ []) (codes "e" ∷ codes "a" ∷ [])) (answer.Reply (reply.Refused (no.NotFound 1))) None
          ∷ Waits 13 B (call.Mkdir (codes "d" ∷ codes "k" ∷ []))
          ∷ Answered 13 B (call.Mkdir (codes "d" ∷ codes "k" ∷ [])) (answer.Reply reply.Ok) (Some 5)
          ∷ Answered 14 B (call.Create (codes "a" ∷ [])) (answer.Reply (reply.Refused no.Exists)) None
          ∷ Waits 15 A (call.Read (codes "d" ∷ codes "e" ∷ codes "a" ∷ []) 1 0) ∷ Durable B (5 ∷ [])
          ∷ Answered 15 A (call.Read (codes "d" ∷ codes "e" ∷ codes "a" ∷ []) 1 0) (answer.Reply (reply.Refused (no.NotFound 2))) None
          ∷ Waits 16 A (call.Rename (codes "d" ∷ codes "a" ∷ []) (codes "d" ∷ codes "a2" ∷ []))
          ∷ Answered 16 A (call.Rename (codes "d" ∷ codes "a" ∷ []) (codes "d" ∷ codes "a2" ∷ [])) (answer.Reply reply.Ok) (Some 5)
          ∷ Waits 17 A (call.Forder ((codes "b" ∷ []) ∷ [] ∷ [])) ∷ Durable B (4 ∷ [])
          ∷ Answered 17 A (call.Forder ((codes "b" ∷ []) ∷ [] ∷ [])) (answer.Reply reply.Ok) (Some 6)
          ∷ Waits 18 B (call.Write (codes "d" ∷ codes "a2" ∷ []) 0 (codes "a")) ∷ Durable A (6 ∷ []) ∷ Durable A (5 ∷ [])
          ∷ Answered 18 B (call.Write (codes "d" ∷ codes "a2" ∷ []) 0 (codes "a")) (answer.Reply reply.Ok) (Some 6)
          ∷ Waits 19 B (call.Create (codes "d" ∷ codes "a" ∷ []))
          ∷ Answered 19 B (call.Create (codes "d" ∷ codes "a" ∷ [])) (answer.Reply reply.Ok) (Some 7)
          ∷ Answered 20 B (call.Touch (codes "d" ∷ codes "a2" ∷ []) 3) (answer.Reply reply.Ok) (Some 8)
          ∷ Answered 21 B (call.List []) (answer.Reply (reply.Names (codes "a" ∷ codes "b" ∷ codes "d" ∷ []))) None
          ∷ Waits 22 A (call.Stat (codes "d" ∷ [])) ∷ Durable B (7 ∷ [])
          ∷ Answered 22 A (call.Stat (codes "d" ∷ [])) (answer.Reply (reply.Stat kind.Dir 493 0 0 3)) None
          ∷ Waits 23 B (call.Create (codes "d" ∷ codes "b" ∷ []))
          ∷ Answered 23 B (call.Create (codes "d" ∷ codes "b" ∷ [])) (answer.Reply reply.Ok) (Some 9)
          ∷ Waits 24 A (call.Remove (codes "d" ∷ codes "a2" ∷ [])) ∷ Durable B (9 ∷ []) ∷ Durable B (6 ∷ 8 ∷ [])
          ∷ Answered 24 A (call.Remove (codes "d" ∷ codes "a2" ∷ [])) (answer.Reply reply.Ok) (Some 7) ∷ Waits 25 B (call.Stat (codes "d" ∷ []))
          ∷ Durable A (7 ∷ []) ∷ Answered 25 B (call.Stat (codes "d" ∷ [])) (answer.Reply (reply.Stat kind.Dir 493 0 0 3)) None
          ∷ Waits 26 A (call.Forder ((codes "d" ∷ codes "b" ∷ []) ∷ (codes "a" ∷ []) ∷ []))
          ∷ Answered 26 A (call.Forder ((codes "d" ∷ codes "b" ∷ []) ∷ (codes "a" ∷ []) ∷ [])) (answer.Reply reply.Ok) (Some 8)
          ∷ Waits 27 B (call.Chmod [] 4095) ∷ Answered 27 B (call.Chmod [] 4095) (answer.Reply reply.Ok) (Some 10)
          ∷ Waits 28 A (call.Stat (codes "d" ∷ [])) ∷ Durable B (10 ∷ [])
          ∷ Answered 28 A (call.Stat (codes "d" ∷ [])) (answer.Reply (reply.Stat kind.Dir 493 0 0 3)) None
          ∷ Answered 29 A (call.Write (codes "a" ∷ []) 3 (codes "xz")) (answer.Reply reply.Ok) (Some 9)
          ∷ Answered 30 A (call.Create (codes "d" ∷ codes "b" ∷ [])) (answer.Reply (reply.Refused no.Exists)) None
          ∷ Answered 31 A (call.SetLen (codes "b" ∷ []) 4) (answer.Reply reply.Ok) (Some 10) ∷ Waits 32 A (call.Read (codes "d" ∷ codes "a" ∷ []) 0 9)
          ∷ Answered 32 A (call.Read (codes "d" ∷ codes "a" ∷ []) 0 9) (answer.Reply (reply.Data [])) None
          ∷ Answered 33 A (call.Fsync []) (answer.Reply reply.Ok) None ∷ Nothing
          ∷ Answered 35 A (call.Write (codes "a" ∷ []) 6 (codes "xzyyb")) (answer.Reply reply.Ok) (Some 11)
          ∷ Waits 36 B (call.Mkdir (codes "d" ∷ codes "e" ∷ []))
          ∷ Answered 36 B (call.Mkdir (codes "d" ∷ codes "e" ∷ [])) (answer.Reply reply.Ok) (Some 11) ∷ Waits 37 B (call.Touch [] 5)
          ∷ Answered 37 B (call.Touch [] 5) (answer.Reply reply.Ok) (Some 12)
          ∷ Answered 38 B (call.Create (codes "d" ∷ codes "e" ∷ codes "a" ∷ [])) (answer.Reply reply.Ok) (Some 13)
          ∷ Waits 39 B (call.Write (codes "d" ∷ codes "a" ∷ []) 4 (codes "bb"))
          ∷ Answered 39 B (call.Write (codes "d" ∷ codes "a" ∷ []) 4 (codes "bb")) (answer.Reply reply.Ok) (Some 14)
          ∷ Answered 40 B (call.Write (codes "d" ∷ codes "a" ∷ []) 3 (codes "z")) (answer.Reply reply.Ok) (Some 15) ∷ Waits 45 A (call.List [])
          ∷ Durable B (12 ∷ []) ∷ Answered 45 A (call.List []) (answer.Reply (reply.Names (codes "a" ∷ codes "b" ∷ codes "d" ∷ []))) None
          ∷ Answered 46 B (call.List []) (answer.Reply (reply.Names (codes "a" ∷ codes "b" ∷ codes "d" ∷ []))) None
          ∷ Waits 47 B (call.Read (codes "a" ∷ []) 0 64) ∷ Durable A (8 ∷ 9 ∷ 11 ∷ [])
          ∷ Answered 47 B (call.Read (codes "a" ∷ []) 0 64) (answer.Reply (reply.Data (codes "abcxzfxzyyb"))) None
          ∷ Waits 48 B (call.Read (codes "b" ∷ []) 0 64) ∷ Durable A (10 ∷ [])
          ∷ Answered 48 B (call.Read (codes "b" ∷ []) 0 64) (answer.Reply (reply.Data (codes "abcb"))) None
          ∷ Answered 49 B (call.Read (codes "d" ∷ codes "a" ∷ []) 0 64) (answer.Reply (reply.Data (0 ∷ 0 ∷ 0 ∷ 122 ∷ 98 ∷ 98 ∷ []))) None
          ∷ Answered 50 A call.Sync (answer.Reply reply.Ok) None ∷ Waits 51 B call.Sync ∷ Durable B (11 ∷ 13 ∷ 14 ∷ 15 ∷ [])
          ∷ Answered 51 B call.Sync (answer.Reply reply.Ok) None ∷ [];
      status = 0;
    }

abbrev pub crash_2 : Run
crash_2 =
    record {
      lines =
          reads (line.Call A (call.Mkdir (codes "d" ∷ []))) 9 ∷ reads (line.Call A (call.Create (codes "a" ∷ []))) 10
          ∷ reads (line.Call A (call.Write (codes "a" ∷ []) 0 (codes "abcdefgh"))) 14 ∷ reads (line.Call A (call.Create (codes "b" ∷ []))) 10
          ∷ reads (line.Call A (call.Write (codes "b" ∷ []) 0 (codes "abcdefgh"))) 14 ∷ reads (line.Repeat A msg.Want 1) 15
          ∷ reads (line.Call A (call.Write (codes "a" ∷ []) 1 (codes "zaabz"))) 14 ∷ reads (line.Call B (call.Read (codes "b" ∷ []) 3 9)) 13
          ∷ reads (line.Call A (call.Rename (codes "b" ∷ []) (codes "b" ∷ []))) 13 ∷ reads (line.Resend A) 8 ∷ reads (line.Cut B) 5
          ∷ reads (line.Cut A) 5 ∷ reads (line.Push A 3) 8 ∷ reads (line.Deliver A msg.Flush 3) 17
          ∷ reads (line.Call A (call.Rename (codes "a" ∷ []) (codes "b" ∷ []))) 13 ∷ reads (line.Crash A) 7
          ∷ reads (line.Call A (call.Write (codes "d" ∷ codes "a" ∷ []) 3 (codes "by"))) 16
          ∷ reads (line.Call A (call.Write (codes "d" ∷ codes "a" ∷ []) 0 (codes "x"))) 16 ∷ reads (line.Uncut A) 7
          ∷ reads (line.Call A (call.Read (codes "a" ∷ []) 0 9)) 13 ∷ reads (line.Call A (call.List [])) 8
          ∷ reads (line.Call A (call.Stat (codes "a2" ∷ []))) 8 ∷ reads (line.Call A (call.Create (codes "d" ∷ codes "b" ∷ []))) 10
          ∷ reads (line.Push A 1) 8 ∷ reads (line.Cut A) 5 ∷ reads (line.End A) 5 ∷ reads (line.Call B (call.Touch (codes "d" ∷ []) 4)) 12
          ∷ reads (line.Call A (call.SetLen (codes "d" ∷ codes "b" ∷ []) 4)) 15 ∷ reads (line.Uncut A) 7 ∷ reads (line.Call A (call.List [])) 8
          ∷ reads (line.Call A (call.Read (codes "a" ∷ []) 0 9)) 13 ∷ reads (line.Call A (call.Read (codes "b" ∷ []) 0 9)) 13
          ∷ reads (line.Deliver B msg.Want 3) 16 ∷ reads (line.Resend A) 8 ∷ reads (line.Resend A) 8 ∷ reads (line.Repeat A msg.Flush 3) 16
          ∷ reads (line.Deliver B msg.Grant 3) 17 ∷ reads (line.Deliver B msg.Want 4) 16 ∷ reads (line.End A) 5 ∷ reads (line.End B) 5
          ∷ reads (line.Uncut B) 7 ∷ reads (line.Resend A) 8 ∷ reads (line.Resend B) 8 ∷ reads (line.Resend A) 8 ∷ reads (line.Resend B) 8
          ∷ reads (line.Call A (call.List [])) 8 ∷ reads (line.Call B (call.List [])) 8 ∷ reads (line.Call A (call.Read (codes "a" ∷ []) 0 64)) 13
          ∷ reads (line.Call B (call.Read (codes "b" ∷ []) 0 64)) 13 ∷ reads (line.Call B (call.Read (codes "d" ∷ codes "a" ∷ []) 0 64)) 15
          ∷ reads (line.Call A call.Sync) 3 ∷ reads (line.Call B call.Sync) 3 ∷ [];
      fates = [];
      max_objects = 1024;
      shown =
          Waits 1 A (call.Mkdir (codes "d" ∷ [])) ∷ Answered 1 A (call.Mkdir (codes "d" ∷ [])) (answer.Reply reply.Ok) (Some 1)
          ∷ Answered 2 A (call.Create (codes "a" ∷ [])) (answer.Reply reply.Ok) (Some 2)
          ∷ Answered 3 A (call.Write (codes "a" ∷ []) 0 (codes "abcdefgh")) (answer.Reply reply.Ok) (Some 3)
          ∷ Answered 4 A (call.Create (codes "b" ∷ [])) (answer.Reply reply.Ok) (Some 4)
          ∷ Answered 5 A (call.Write (codes "b" ∷ []) 0 (codes "abcdefgh")) (answer.Reply reply.Ok) (Some 5)
          ∷ Answered 7 A (call.Write (codes "a" ∷ []) 1 (codes "zaabz")) (answer.Reply reply.Ok) (Some 6) ∷ Waits 8 B (call.Read (codes "b" ∷ []) 3 9)
          ∷ Durable A (1 ∷ 2 ∷ 4 ∷ []) ∷ Durable A (5 ∷ [])
          ∷ Answered 8 B (call.Read (codes "b" ∷ []) 3 9) (answer.Reply (reply.Data (codes "defgh"))) None
          ∷ Answered 9 A (call.Rename (codes "b" ∷ []) (codes "b" ∷ [])) (answer.Reply reply.Ok) None ∷ Durable A (3 ∷ [])
          ∷ Waits 15 A (call.Rename (codes "a" ∷ []) (codes "b" ∷ [])) ∷ Crashed A
          ∷ Waits 17 A (call.Write (codes "d" ∷ codes "a" ∷ []) 3 (codes "by")) ∷ Waits 18 A (call.Write (codes "d" ∷ codes "a" ∷ []) 0 (codes "x"))
          ∷ Ended A (6 ∷ [])
          ∷ Answered 17 A (call.Write (codes "d" ∷ codes "a" ∷ []) 3 (codes "by")) (answer.Reply (reply.Refused (no.NotFound 2))) None
          ∷ Answered 18 A (call.Write (codes "d" ∷ codes "a" ∷ []) 0 (codes "x")) (answer.Reply (reply.Refused (no.NotFound 2))) None
          ∷ Waits 20 A (call.Read (codes "a" ∷ []) 0 9)
          ∷ Answered 20 A (call.Read (codes "a" ∷ []) 0 9) (answer.Reply (reply.Data (codes "abcdefgh"))) None
          ∷ Answered 21 A (call.List []) (answer.Reply (reply.Names (codes "a" ∷ codes "b" ∷ codes "d" ∷ []))) None
          ∷ Answered 22 A (call.Stat (codes "a2" ∷ [])) (answer.Reply (reply.Refused (no.NotFound 1))) None
          ∷ Waits 23 A (call.Create (codes "d" ∷ codes "b" ∷ []))
          ∷ Answered 23 A (call.Create (codes "d" ∷ codes "b" ∷ [])) (answer.Reply reply.Ok) (Some 1) ∷ Durable A (1 ∷ []) ∷ Ended A []
          ∷ Waits 27 B (call.Touch (codes "d" ∷ []) 4) ∷ Answered 28 A (call.SetLen (codes "d" ∷ codes "b" ∷ []) 4) (answer.Reply reply.Ok) (Some 2)
          ∷ Told A (2 ∷ []) ∷ Waits 30 A (call.List [])
          ∷ Answered 30 A (call.List []) (answer.Reply (reply.Names (codes "a" ∷ codes "b" ∷ codes "d" ∷ []))) None
          ∷ Waits 31 A (call.Read (codes "a" ∷ []) 0 9)
          ∷ Answered 31 A (call.Read (codes "a" ∷ []) 0 9) (answer.Reply (reply.Data (codes "abcdefgh"))) None
          ∷ Waits 32 A (call.Read (codes "b" ∷ []) 0 9)
          ∷ Answered 32 A (call.Read (codes "b" ∷ []) 0 9) (answer.Reply (reply.Data (codes "abcdefgh"))) None ∷ Ended A [] ∷ Told A [] ∷ Ended B []
          ∷ Told B [] ∷ Answered 27 B (call.Touch (codes "d" ∷ []) 4) (answer.Reply reply.Ok) (Some 1) ∷ Waits 46 A (call.List [])
          ∷ Answered 46 A (call.List []) (answer.Reply (reply.Names (codes "a" ∷ codes "b" ∷ codes "d" ∷ []))) None
          ∷ Answered 47 B (call.List []) (answer.Reply (reply.Names (codes "a" ∷ codes "b" ∷ codes "d" ∷ []))) None
          ∷ Waits 48 A (call.Read (codes "a" ∷ []) 0 64)
          ∷ Answered 48 A (call.Read (codes "a" ∷ []) 0 64) (answer.Reply (reply.Data (codes "abcdefgh"))) None
          ∷ Waits 49 B (call.Read (codes "b" ∷ []) 0 64)
          ∷ Answered 49 B (call.Read (codes "b" ∷ []) 0 64) (answer.Reply (reply.Data (codes "abcdefgh"))) None
          ∷ Answered 50 B (call.Read (codes "d" ∷ codes "a" ∷ []) 0 64) (answer.Reply (reply.Refused (no.NotFound 2))) None
          ∷ Answered 51 A call.Sync (answer.Lost (2 ∷ [])) None ∷ Waits 52 B call.Sync ∷ Durable B (1 ∷ [])
          ∷ Answered 52 B call.Sync (answer.Reply reply.Ok) None ∷ [];
      status = 0;
    }

abbrev pub crash_3 : Run
crash_3 =
    record {
      lines =
          reads (line.Call A (call.Mkdir (codes "d" ∷ []))) 9 ∷ reads (line.Call B (call.Create (codes "a" ∷ []))) 10
          ∷ reads (line.Call A call.Sync) 3 ∷ reads (line.Call B call.Sync) 3 ∷ reads (line.Call B (call.Touch (codes "d" ∷ []) 2)) 12
          ∷ reads (line.Call A (call.Remove (codes "a" ∷ []))) 10 ∷ reads (line.Call B (call.Fsync [])) 9
          ∷ reads (line.Call B (call.Rename (codes "e" ∷ codes "a" ∷ []) (codes "e" ∷ codes "a2" ∷ []))) 15
          ∷ reads (line.Call A (call.Create (codes "a" ∷ []))) 10 ∷ reads (line.Uncut A) 7
          ∷ reads (line.Call B (call.Write (codes "a" ∷ []) 4 (codes "czx"))) 14 ∷ reads (line.Call A call.Sync) 3 ∷ reads (line.Uncut A) 7
          ∷ reads (line.Call A (call.Remove (codes "a" ∷ []))) 10 ∷ reads (line.Push A 1) 8 ∷ reads (line.Call A (call.Fsync [])) 9
          ∷ reads (line.Call B (call.Write (codes "a" ∷ []) 1 (codes "b"))) 14 ∷ reads (line.Call A (call.Fsync (codes "d" ∷ []))) 9
          ∷ reads (line.Call B (call.Rename (codes "a" ∷ []) (codes "d" ∷ codes "a" ∷ []))) 13
          ∷ reads (line.Call A (call.Rename (codes "d" ∷ []) (codes "d" ∷ []))) 13 ∷ reads (line.Cut B) 5 ∷ reads (line.End B) 5
          ∷ reads (line.Call B (call.Touch (codes "d" ∷ []) 2)) 12 ∷ reads (line.Call B (call.Write (codes "e" ∷ codes "a" ∷ []) 6 (codes "cc"))) 16
          ∷ reads (line.Uncut B) 7 ∷ reads (line.Call B call.Sync) 3 ∷ reads (line.Call B (call.Stat (codes "e" ∷ codes "a2" ∷ []))) 8
          ∷ reads (line.Call B (call.Read (codes "e" ∷ codes "a" ∷ []) 0 9)) 15
          ∷ reads (line.Call B (call.Write (codes "e" ∷ codes "a" ∷ []) 2 (codes "c"))) 16
          ∷ reads (line.Call A (call.Remove (codes "d" ∷ codes "a" ∷ []))) 10 ∷ reads (line.Call A (call.Write (codes "a" ∷ []) 4 (codes "yxxxy"))) 14
          ∷ reads (line.Call B (call.Write (codes "d" ∷ codes "a" ∷ []) 4 (codes "zcz"))) 16
          ∷ reads (line.Call A (call.Write (codes "d" ∷ codes "a" ∷ []) 3 (codes "b"))) 16 ∷ reads (line.Call B (call.Mkdir (codes "e" ∷ []))) 9
          ∷ reads (line.Call B (call.Chown (codes "e" ∷ []) 4)) 12 ∷ reads (line.Call B (call.Create (codes "a" ∷ []))) 10
          ∷ reads (line.Call A (call.Rename (codes "d" ∷ []) (codes "e" ∷ []))) 13 ∷ reads (line.Cut A) 5 ∷ reads (line.Push A 5) 8
          ∷ reads (line.Deliver A msg.Flush 5) 17 ∷ reads (line.Drop A msg.Kept 5) 13
          ∷ reads (line.Call A (call.Write (codes "a" ∷ []) 0 (codes "q"))) 14 ∷ reads (line.Call A call.Sync) 3 ∷ reads (line.End A) 5
          ∷ reads (line.Uncut A) 7 ∷ reads (line.Call A (call.Read (codes "a" ∷ []) 0 9)) 13 ∷ reads (line.Call A (call.Read (codes "a" ∷ []) 0 9)) 13
          ∷ reads (line.Call A (call.List [])) 8 ∷ reads (line.Resend A) 8 ∷ reads (line.Resend B) 8 ∷ reads (line.Resend A) 8
          ∷ reads (line.Resend B) 8 ∷ reads (line.Call A (call.List [])) 8 ∷ reads (line.Call B (call.List [])) 8
          ∷ reads (line.Call B (call.Read (codes "a" ∷ []) 0 64)) 13 ∷ reads (line.Call A (call.Read (codes "d" ∷ codes "a" ∷ []) 0 64)) 15
          ∷ reads (line.Call B (call.Read (codes "e" ∷ codes "a" ∷ []) 0 64)) 15 ∷ reads (line.Call A call.Sync) 3 ∷ reads (line.Call B call.Sync) 3
          ∷ [];
      fates = [];
      max_objects = 1024;
      shown =
          Waits 1 A (call.Mkdir (codes "d" ∷ [])) ∷ Answered 1 A (call.Mkdir (codes "d" ∷ [])) (answer.Reply reply.Ok) (Some 1)
          ∷ Waits 2 B (call.Create (codes "a" ∷ [])) ∷ Durable A (1 ∷ [])
          ∷ Answered 2 B (call.Create (codes "a" ∷ [])) (answer.Reply reply.Ok) (Some 1) ∷ Answered 3 A call.Sync (answer.Reply reply.Ok) None
          ∷ Waits 4 B call.Sync ∷ Durable B (1 ∷ []) ∷ Answered 4 B call.Sync (answer.Reply reply.Ok) None ∷ Waits 5 B (call.Touch (codes "d" ∷ []) 2)
          ∷ Answered 5 B (call.Touch (codes "d" ∷ []) 2) (answer.Reply reply.Ok) (Some 2) ∷ Waits 6 A (call.Remove (codes "a" ∷ []))
          ∷ Answered 6 A (call.Remove (codes "a" ∷ [])) (answer.Reply reply.Ok) (Some 2) ∷ Waits 7 B (call.Fsync []) ∷ Durable A (2 ∷ [])
          ∷ Answered 7 B (call.Fsync []) (answer.Reply reply.Ok) None
          ∷ Answered 8 B (call.Rename (codes "e" ∷ codes "a" ∷ []) (codes "e" ∷ codes "a2" ∷ [])) (answer.Reply (reply.Refused (no.NotFound 1))) None
          ∷ Waits 9 A (call.Create (codes "a" ∷ [])) ∷ Answered 9 A (call.Create (codes "a" ∷ [])) (answer.Reply reply.Ok) (Some 3) ∷ Nothing
          ∷ Waits 11 B (call.Write (codes "a" ∷ []) 4 (codes "czx")) ∷ Durable A (3 ∷ [])
          ∷ Answered 11 B (call.Write (codes "a" ∷ []) 4 (codes "czx")) (answer.Reply reply.Ok) (Some 3)
          ∷ Answered 12 A call.Sync (answer.Reply reply.Ok) None ∷ Nothing ∷ Waits 14 A (call.Remove (codes "a" ∷ [])) ∷ Durable B (3 ∷ [])
          ∷ Answered 14 A (call.Remove (codes "a" ∷ [])) (answer.Reply reply.Ok) (Some 4) ∷ Nothing ∷ Waits 16 A (call.Fsync []) ∷ Durable A (4 ∷ [])
          ∷ Answered 16 A (call.Fsync []) (answer.Reply reply.Ok) None ∷ Waits 17 B (call.Write (codes "a" ∷ []) 1 (codes "b"))
          ∷ Answered 17 B (call.Write (codes "a" ∷ []) 1 (codes "b")) (answer.Reply (reply.Refused (no.NotFound 1))) None
          ∷ Waits 18 A (call.Fsync (codes "d" ∷ [])) ∷ Durable B (2 ∷ []) ∷ Answered 18 A (call.Fsync (codes "d" ∷ [])) (answer.Reply reply.Ok) None
          ∷ Answered 19 B (call.Rename (codes "a" ∷ []) (codes "d" ∷ codes "a" ∷ [])) (answer.Reply (reply.Refused (no.NotFound 1))) None
          ∷ Answered 20 A (call.Rename (codes "d" ∷ []) (codes "d" ∷ [])) (answer.Reply reply.Ok) None ∷ Ended B []
          ∷ Waits 23 B (call.Touch (codes "d" ∷ []) 2)
          ∷ Answered 24 B (call.Write (codes "e" ∷ codes "a" ∷ []) 6 (codes "cc")) (answer.Reply (reply.Refused (no.NotFound 1))) None ∷ Told B []
          ∷ Answered 23 B (call.Touch (codes "d" ∷ []) 2) (answer.Reply reply.Ok) (Some 4) ∷ Waits 26 B call.Sync ∷ Durable B (4 ∷ [])
          ∷ Answered 26 B call.Sync (answer.Reply reply.Ok) None
          ∷ Answered 27 B (call.Stat (codes "e" ∷ codes "a2" ∷ [])) (answer.Reply (reply.Refused (no.NotFound 1))) None
          ∷ Answered 28 B (call.Read (codes "e" ∷ codes "a" ∷ []) 0 9) (answer.Reply (reply.Refused (no.NotFound 1))) None
          ∷ Answered 29 B (call.Write (codes "e" ∷ codes "a" ∷ []) 2 (codes "c")) (answer.Reply (reply.Refused (no.NotFound 1))) None
          ∷ Waits 30 A (call.Remove (codes "d" ∷ codes "a" ∷ []))
          ∷ Answered 30 A (call.Remove (codes "d" ∷ codes "a" ∷ [])) (answer.Reply (reply.Refused (no.NotFound 2))) None
          ∷ Answered 31 A (call.Write (codes "a" ∷ []) 4 (codes "yxxxy")) (answer.Reply (reply.Refused (no.NotFound 1))) None
          ∷ Answered 32 B (call.Write (codes "d" ∷ codes "a" ∷ []) 4 (codes "zcz")) (answer.Reply (reply.Refused (no.NotFound 2))) None
          ∷ Answered 33 A (call.Write (codes "d" ∷ codes "a" ∷ []) 3 (codes "b")) (answer.Reply (reply.Refused (no.NotFound 2))) None
          ∷ Waits 34 B (call.Mkdir (codes "e" ∷ [])) ∷ Answered 34 B (call.Mkdir (codes "e" ∷ [])) (answer.Reply reply.Ok) (Some 5)
          ∷ Answered 35 B (call.Chown (codes "e" ∷ []) 4) (answer.Reply reply.Ok) (Some 6)
          ∷ Answered 36 B (call.Create (codes "a" ∷ [])) (answer.Reply reply.Ok) (Some 7) ∷ Waits 37 A (call.Rename (codes "d" ∷ []) (codes "e" ∷ []))
          ∷ Durable B (5 ∷ 7 ∷ []) ∷ Durable B (6 ∷ [])
          ∷ Answered 37 A (call.Rename (codes "d" ∷ []) (codes "e" ∷ [])) (answer.Reply reply.Ok) (Some 5) ∷ Durable A (5 ∷ [])
          ∷ Waits 42 A (call.Write (codes "a" ∷ []) 0 (codes "q")) ∷ Waits 43 A call.Sync ∷ Ended A [] ∷ Told A []
          ∷ Answered 43 A call.Sync (answer.Reply reply.Ok) None
          ∷ Answered 42 A (call.Write (codes "a" ∷ []) 0 (codes "q")) (answer.Reply reply.Ok) (Some 6)
          ∷ Answered 46 A (call.Read (codes "a" ∷ []) 0 9) (answer.Reply (reply.Data (codes "q"))) None
          ∷ Answered 47 A (call.Read (codes "a" ∷ []) 0 9) (answer.Reply (reply.Data (codes "q"))) None
          ∷ Answered 48 A (call.List []) (answer.Reply (reply.Names (codes "a" ∷ codes "e" ∷ []))) None
          ∷ Answered 53 A (call.List []) (answer.Reply (reply.Names (codes "a" ∷ codes "e" ∷ []))) None ∷ Waits 54 B (call.List [])
          ∷ Answered 54 B (call.List []) (answer.Reply (reply.Names (codes "a" ∷ codes "e" ∷ []))) None ∷ Waits 55 B (call.Read (codes "a" ∷ []) 0 64)
          ∷ Durable A (6 ∷ []) ∷ Answered 55 B (call.Read (codes "a" ∷ []) 0 64) (answer.Reply (reply.Data (codes "q"))) None
          ∷ Answered 56 A (call.Read (codes "d" ∷ codes "a" ∷ []) 0 64) (answer.Reply (reply.Refused (no.NotFound 1))) None
          ∷ Waits 57 B (call.Read (codes "e" ∷ codes "a" ∷ []) 0 64)
          ∷ Answered 57 B (call.Read (codes "e" ∷ codes "a" ∷ []) 0 64) (answer.Reply (reply.Refused (no.NotFound 2))) None
          ∷ Answered 58 A call.Sync (answer.Reply reply.Ok) None ∷ Answered 59 B call.Sync (answer.Reply reply.Ok) None ∷ [];
      status = 0;
    }

abbrev pub crash_4 : Run
crash_4 =
    record {
      lines =
          reads (line.Call C (call.Mkdir (codes "e" ∷ []))) 9 ∷ reads (line.Uncut A) 7 ∷ reads (line.Uncut A) 7 ∷ reads (line.Uncut C) 7
          ∷ reads (line.Call A (call.Chmod (codes "a" ∷ []) 4095)) 12 ∷ reads (line.Call A (call.Create (codes "e" ∷ codes "a" ∷ []))) 10
          ∷ reads (line.Call D (call.Stat (codes "e" ∷ codes "a" ∷ []))) 8 ∷ reads (line.Cut A) 5
          ∷ reads (line.Call C (call.Rename (codes "e" ∷ codes "a" ∷ []) (codes "e" ∷ codes "a" ∷ []))) 15
          ∷ reads (line.Call B (call.Rename (codes "d" ∷ codes "a" ∷ []) (codes "e" ∷ codes "a" ∷ []))) 15 ∷ reads (line.Cut D) 5
          ∷ reads (line.Call A (call.Write (codes "d" ∷ codes "a" ∷ []) 3 (codes "a"))) 16
          ∷ reads (line.Call A (call.Write (codes "d" ∷ codes "a" ∷ []) 4 (codes "xc"))) 16
          ∷ reads (line.Call A (call.List (codes "e" ∷ codes "a" ∷ []))) 8 ∷ reads (line.Call A (call.Stat (codes "e" ∷ []))) 8 ∷ reads (line.Cut B) 5
          ∷ reads (line.Call B (call.Remove (codes "a" ∷ []))) 10 ∷ reads (line.Push A 1) 8
          ∷ reads (line.Call A (call.Write (codes "e" ∷ codes "a" ∷ []) 2 (codes "y"))) 16 ∷ reads (line.Deliver A msg.Want 4) 16
          ∷ reads (line.Call B (call.Remove (codes "e" ∷ codes "a" ∷ []))) 10 ∷ reads (line.Cut C) 5
          ∷ reads (line.Call D (call.Create (codes "a" ∷ []))) 10 ∷ reads (line.Call A (call.Create (codes "a" ∷ []))) 10
          ∷ reads (line.Deliver D msg.Recall 1) 18 ∷ reads (line.Call B (call.Mkdir (codes "d" ∷ []))) 9 ∷ reads (line.Cut D) 5
          ∷ reads (line.Repeat B msg.Grant 1) 16 ∷ reads (line.End C) 5 ∷ reads (line.Call A (call.Remove (codes "e" ∷ codes "a" ∷ []))) 10
          ∷ reads (line.Push A 1) 8 ∷ reads (line.Call D (call.Write (codes "e" ∷ codes "a" ∷ []) 5 (codes "bc"))) 16
          ∷ reads (line.Call D (call.Write (codes "e" ∷ codes "a" ∷ []) 0 (codes "yz"))) 16
          ∷ reads (line.Call B (call.Read (codes "e" ∷ codes "a" ∷ []) 3 2)) 15 ∷ reads (line.Crash B) 7 ∷ reads (line.Deliver A msg.Want 5) 16
          ∷ reads (line.Drop B msg.Grant 1) 14 ∷ reads (line.Call C (call.Rename (codes "e" ∷ codes "a" ∷ []) (codes "e" ∷ codes "a2" ∷ []))) 15
          ∷ reads (line.Uncut D) 7 ∷ reads (line.Resend B) 8 ∷ reads (line.Uncut A) 7 ∷ reads (line.Uncut B) 7 ∷ reads (line.Uncut C) 7
          ∷ reads (line.Resend A) 8 ∷ reads (line.Resend C) 8 ∷ reads (line.Resend D) 8 ∷ reads (line.Resend A) 8 ∷ reads (line.Resend C) 8
          ∷ reads (line.Resend D) 8 ∷ reads (line.Call A (call.List [])) 8 ∷ [];
      fates = [];
      max_objects = 1024;
      shown =
          Waits 1 C (call.Mkdir (codes "e" ∷ [])) ∷ Answered 1 C (call.Mkdir (codes "e" ∷ [])) (answer.Reply reply.Ok) (Some 1) ∷ Nothing ∷ Nothing
          ∷ Nothing ∷ Waits 5 A (call.Chmod (codes "a" ∷ []) 4095) ∷ Durable C (1 ∷ [])
          ∷ Answered 5 A (call.Chmod (codes "a" ∷ []) 4095) (answer.Reply (reply.Refused (no.NotFound 1))) None
          ∷ Waits 6 A (call.Create (codes "e" ∷ codes "a" ∷ []))
          ∷ Answered 6 A (call.Create (codes "e" ∷ codes "a" ∷ [])) (answer.Reply reply.Ok) (Some 1)
          ∷ Waits 7 D (call.Stat (codes "e" ∷ codes "a" ∷ [])) ∷ Durable A (1 ∷ [])
          ∷ Answered 7 D (call.Stat (codes "e" ∷ codes "a" ∷ [])) (answer.Reply (reply.Stat kind.File 420 0 0 0)) None
          ∷ Waits 9 C (call.Rename (codes "e" ∷ codes "a" ∷ []) (codes "e" ∷ codes "a" ∷ []))
          ∷ Answered 9 C (call.Rename (codes "e" ∷ codes "a" ∷ []) (codes "e" ∷ codes "a" ∷ [])) (answer.Reply reply.Ok) None
          ∷ Waits 10 B (call.Rename (codes "d" ∷ codes "a" ∷ []) (codes "e" ∷ codes "a" ∷ []))
          ∷ Answered 10 B (call.Rename (codes "d" ∷ codes "a" ∷ []) (codes "e" ∷ codes "a" ∷ [])) (answer.Reply (reply.Refused (no.NotFound 1))) None
          ∷ Answered 12 A (call.Write (codes "d" ∷ codes "a" ∷ []) 3 (codes "a")) (answer.Reply (reply.Refused (no.NotFound 1))) None
          ∷ Answered 13 A (call.Write (codes "d" ∷ codes "a" ∷ []) 4 (codes "xc")) (answer.Reply (reply.Refused (no.NotFound 1))) None
          ∷ Answered 14 A (call.List (codes "e" ∷ codes "a" ∷ [])) (answer.Reply (reply.Refused (no.NotDir 2))) None
          ∷ Answered 15 A (call.Stat (codes "e" ∷ [])) (answer.Reply (reply.Stat kind.Dir 493 0 0 1)) None
          ∷ Answered 17 B (call.Remove (codes "a" ∷ [])) (answer.Reply (reply.Refused (no.NotFound 1))) None ∷ Nothing
          ∷ Waits 19 A (call.Write (codes "e" ∷ codes "a" ∷ []) 2 (codes "y")) ∷ Waits 21 B (call.Remove (codes "e" ∷ codes "a" ∷ []))
          ∷ Waits 23 D (call.Create (codes "a" ∷ [])) ∷ Waits 24 A (call.Create (codes "a" ∷ [])) ∷ Waits 26 B (call.Mkdir (codes "d" ∷ [])) ∷ Nothing
          ∷ Ended C [] ∷ Waits 30 A (call.Remove (codes "e" ∷ codes "a" ∷ [])) ∷ Nothing
          ∷ Waits 32 D (call.Write (codes "e" ∷ codes "a" ∷ []) 5 (codes "bc")) ∷ Waits 33 D (call.Write (codes "e" ∷ codes "a" ∷ []) 0 (codes "yz"))
          ∷ Waits 34 B (call.Read (codes "e" ∷ codes "a" ∷ []) 3 2) ∷ Crashed B
          ∷ Waits 38 C (call.Rename (codes "e" ∷ codes "a" ∷ []) (codes "e" ∷ codes "a2" ∷ [])) ∷ Nothing ∷ Told C [] ∷ Waits 50 A (call.List []) ∷ [];
      status = 0;
    }

abbrev pub crash_5 : Run
crash_5 =
    record {
      lines =
          reads (line.Call B (call.Mkdir (codes "d" ∷ []))) 9 ∷ reads (line.Call B (call.Create (codes "a" ∷ []))) 10
          ∷ reads (line.Call B (call.Write (codes "a" ∷ []) 0 (codes "abcdefgh"))) 14 ∷ reads (line.Call A (call.Stat (codes "a" ∷ []))) 8
          ∷ reads (line.Push B 3) 8 ∷ reads (line.Push B 2) 8 ∷ reads (line.End A) 5
          ∷ reads (line.Call A (call.Create (codes "d" ∷ codes "b" ∷ []))) 10 ∷ reads (line.Call B (call.Fsync [])) 9
          ∷ reads (line.Call B (call.Read (codes "d" ∷ codes "b" ∷ []) 0 2)) 15 ∷ reads (line.Call A (call.Mkdir (codes "d" ∷ codes "e" ∷ []))) 9
          ∷ reads (line.Push B 3) 8 ∷ reads (line.Call A (call.Mkdir (codes "e" ∷ []))) 9
          ∷ reads (line.Call B (call.Remove (codes "d" ∷ codes "b" ∷ []))) 10 ∷ reads (line.Call A (call.Read (codes "a" ∷ []) 1 0)) 13
          ∷ reads (line.Call B (call.Read (codes "a" ∷ []) 3 9)) 13 ∷ reads (line.Call B (call.Write (codes "a" ∷ []) 4 (codes "yx"))) 14
          ∷ reads (line.Call B (call.Write (codes "a" ∷ []) 3 (codes "by"))) 14 ∷ reads (line.Call B (call.Write (codes "a" ∷ []) 4 (codes "b"))) 14
          ∷ reads (line.Push B 7) 8 ∷ reads (line.Call B (call.Forder ([] ∷ [] ∷ (codes "d" ∷ []) ∷ []))) 14
          ∷ reads (line.Call A (call.Create (codes "d" ∷ codes "a" ∷ []))) 10 ∷ reads (line.Call B (call.Mkdir (codes "d" ∷ codes "k" ∷ []))) 9
          ∷ reads (line.Call A (call.Touch (codes "d" ∷ []) 3)) 12 ∷ reads (line.Call A (call.Read (codes "d" ∷ codes "a" ∷ []) 1 9)) 15
          ∷ reads (line.Call B (call.Write (codes "d" ∷ codes "a" ∷ []) 0 (codes "a"))) 16
          ∷ reads (line.Call B (call.Write (codes "d" ∷ codes "a" ∷ []) 3 (codes "yx"))) 16
          ∷ reads (line.Call B (call.Write (codes "d" ∷ codes "a" ∷ []) 3 (codes "xy"))) 16
          ∷ reads (line.Call B (call.Write (codes "a" ∷ []) 4 (codes "a"))) 14 ∷ reads (line.Call B (call.Write (codes "a" ∷ []) 2 (codes "a"))) 14
          ∷ reads (line.Call B (call.Stat [])) 8 ∷ reads (line.Push B 8) 8 ∷ reads (line.Call A (call.Fsync (codes "e" ∷ []))) 9
          ∷ reads (line.Call A (call.Write (codes "d" ∷ codes "a" ∷ []) 3 (codes "zxzcb"))) 16 ∷ reads (line.Crash A) 7
          ∷ reads (line.Call B (call.Write (codes "d" ∷ codes "a" ∷ []) 2 (codes "xy"))) 16
          ∷ reads (line.Call B (call.Stat (codes "d" ∷ codes "e" ∷ []))) 8 ∷ reads (line.Call B (call.Write (codes "b" ∷ []) 1 (codes "x"))) 14
          ∷ reads (line.Call B (call.Write (codes "a" ∷ []) 3 (codes "z"))) 14 ∷ reads (line.Call B (call.Write (codes "a" ∷ []) 3 (codes "c"))) 14
          ∷ reads (line.Call B (call.Write (codes "a" ∷ []) 3 (codes "yz"))) 14 ∷ [];
      fates = [];
      max_objects = 1024;
      shown =
          Waits 1 B (call.Mkdir (codes "d" ∷ [])) ∷ Answered 1 B (call.Mkdir (codes "d" ∷ [])) (answer.Reply reply.Ok) (Some 1)
          ∷ Answered 2 B (call.Create (codes "a" ∷ [])) (answer.Reply reply.Ok) (Some 2)
          ∷ Answered 3 B (call.Write (codes "a" ∷ []) 0 (codes "abcdefgh")) (answer.Reply reply.Ok) (Some 3) ∷ Waits 4 A (call.Stat (codes "a" ∷ []))
          ∷ Durable B (1 ∷ 2 ∷ []) ∷ Durable B (3 ∷ [])
          ∷ Answered 4 A (call.Stat (codes "a" ∷ [])) (answer.Reply (reply.Stat kind.File 420 0 0 8)) None ∷ Nothing ∷ Nothing ∷ Ended A []
          ∷ Told A [] ∷ Waits 8 A (call.Create (codes "d" ∷ codes "b" ∷ []))
          ∷ Answered 8 A (call.Create (codes "d" ∷ codes "b" ∷ [])) (answer.Reply reply.Ok) (Some 1)
          ∷ Answered 9 B (call.Fsync []) (answer.Reply reply.Ok) None ∷ Waits 10 B (call.Read (codes "d" ∷ codes "b" ∷ []) 0 2) ∷ Durable A (1 ∷ [])
          ∷ Answered 10 B (call.Read (codes "d" ∷ codes "b" ∷ []) 0 2) (answer.Reply (reply.Data [])) None
          ∷ Waits 11 A (call.Mkdir (codes "d" ∷ codes "e" ∷ []))
          ∷ Answered 11 A (call.Mkdir (codes "d" ∷ codes "e" ∷ [])) (answer.Reply reply.Ok) (Some 2) ∷ Nothing
          ∷ Waits 13 A (call.Mkdir (codes "e" ∷ [])) ∷ Answered 13 A (call.Mkdir (codes "e" ∷ [])) (answer.Reply reply.Ok) (Some 3)
          ∷ Waits 14 B (call.Remove (codes "d" ∷ codes "b" ∷ [])) ∷ Durable A (3 ∷ []) ∷ Durable A (2 ∷ [])
          ∷ Answered 14 B (call.Remove (codes "d" ∷ codes "b" ∷ [])) (answer.Reply reply.Ok) (Some 4) ∷ Waits 15 A (call.Read (codes "a" ∷ []) 1 0)
          ∷ Answered 15 A (call.Read (codes "a" ∷ []) 1 0) (answer.Reply (reply.Data [])) None
          ∷ Answered 16 B (call.Read (codes "a" ∷ []) 3 9) (answer.Reply (reply.Data (codes "defgh"))) None
          ∷ Waits 17 B (call.Write (codes "a" ∷ []) 4 (codes "yx"))
          ∷ Answered 17 B (call.Write (codes "a" ∷ []) 4 (codes "yx")) (answer.Reply reply.Ok) (Some 5)
          ∷ Answered 18 B (call.Write (codes "a" ∷ []) 3 (codes "by")) (answer.Reply reply.Ok) (Some 6)
          ∷ Answered 19 B (call.Write (codes "a" ∷ []) 4 (codes "b")) (answer.Reply reply.Ok) (Some 7) ∷ Durable B (5 ∷ 6 ∷ 7 ∷ [])
          ∷ Waits 21 B (call.Forder ([] ∷ [] ∷ (codes "d" ∷ []) ∷ []))
          ∷ Answered 21 B (call.Forder ([] ∷ [] ∷ (codes "d" ∷ []) ∷ [])) (answer.Reply reply.Ok) (Some 8)
          ∷ Waits 22 A (call.Create (codes "d" ∷ codes "a" ∷ [])) ∷ Durable B (4 ∷ 8 ∷ [])
          ∷ Answered 22 A (call.Create (codes "d" ∷ codes "a" ∷ [])) (answer.Reply reply.Ok) (Some 4)
          ∷ Waits 23 B (call.Mkdir (codes "d" ∷ codes "k" ∷ [])) ∷ Durable A (4 ∷ [])
          ∷ Answered 23 B (call.Mkdir (codes "d" ∷ codes "k" ∷ [])) (answer.Reply reply.Ok) (Some 9) ∷ Waits 24 A (call.Touch (codes "d" ∷ []) 3)
          ∷ Durable B (9 ∷ []) ∷ Answered 24 A (call.Touch (codes "d" ∷ []) 3) (answer.Reply reply.Ok) (Some 5)
          ∷ Answered 25 A (call.Read (codes "d" ∷ codes "a" ∷ []) 1 9) (answer.Reply (reply.Data [])) None
          ∷ Waits 26 B (call.Write (codes "d" ∷ codes "a" ∷ []) 0 (codes "a")) ∷ Durable A (5 ∷ [])
          ∷ Answered 26 B (call.Write (codes "d" ∷ codes "a" ∷ []) 0 (codes "a")) (answer.Reply reply.Ok) (Some 10)
          ∷ Answered 27 B (call.Write (codes "d" ∷ codes "a" ∷ []) 3 (codes "yx")) (answer.Reply reply.Ok) (Some 11)
          ∷ Answered 28 B (call.Write (codes "d" ∷ codes "a" ∷ []) 3 (codes "xy")) (answer.Reply reply.Ok) (Some 12)
          ∷ Answered 29 B (call.Write (codes "a" ∷ []) 4 (codes "a")) (answer.Reply reply.Ok) (Some 13)
          ∷ Answered 30 B (call.Write (codes "a" ∷ []) 2 (codes "a")) (answer.Reply reply.Ok) (Some 14)
          ∷ Answered 31 B (call.Stat []) (answer.Reply (reply.Stat kind.Dir 493 0 0 3)) None ∷ Nothing
          ∷ Answered 33 A (call.Fsync (codes "e" ∷ [])) (answer.Reply reply.Ok) None
          ∷ Waits 34 A (call.Write (codes "d" ∷ codes "a" ∷ []) 3 (codes "zxzcb")) ∷ Durable B (10 ∷ 11 ∷ 12 ∷ [])
          ∷ Answered 34 A (call.Write (codes "d" ∷ codes "a" ∷ []) 3 (codes "zxzcb")) (answer.Reply reply.Ok) (Some 6) ∷ Crashed A
          ∷ Waits 36 B (call.Write (codes "d" ∷ codes "a" ∷ []) 2 (codes "xy")) ∷ Waits 37 B (call.Stat (codes "d" ∷ codes "e" ∷ []))
          ∷ Answered 38 B (call.Write (codes "b" ∷ []) 1 (codes "x")) (answer.Reply (reply.Refused (no.NotFound 1))) None
          ∷ Answered 39 B (call.Write (codes "a" ∷ []) 3 (codes "z")) (answer.Reply reply.Ok) (Some 15)
          ∷ Answered 40 B (call.Write (codes "a" ∷ []) 3 (codes "c")) (answer.Reply reply.Ok) (Some 16)
          ∷ Answered 41 B (call.Write (codes "a" ∷ []) 3 (codes "yz")) (answer.Reply reply.Ok) (Some 17) ∷ [];
      status = 0;
    }

abbrev pub crash_6 : Run
crash_6 =
    record {
      lines =
          reads (line.Call C (call.Mkdir (codes "d" ∷ []))) 9 ∷ reads (line.Call C (call.Create (codes "a" ∷ []))) 10
          ∷ reads (line.Call C (call.Write (codes "a" ∷ []) 0 (codes "abcdefgh"))) 14 ∷ reads (line.Call B (call.Create (codes "b" ∷ []))) 10
          ∷ reads (line.Call B (call.Write (codes "b" ∷ []) 0 (codes "abcdefgh"))) 14 ∷ reads (line.Call A call.Sync) 3
          ∷ reads (line.Call B call.Sync) 3 ∷ reads (line.Call C call.Sync) 3 ∷ reads (line.Call B (call.Chmod (codes "a" ∷ []) 493)) 12
          ∷ reads (line.Call B (call.Write (codes "b" ∷ []) 1 (codes "b"))) 14
          ∷ reads (line.Call B (call.Rename (codes "a" ∷ []) (codes "a" ∷ []))) 13 ∷ reads (line.Cut B) 5
          ∷ reads (line.Call B (call.Chmod (codes "d" ∷ []) 4095)) 12 ∷ reads (line.Call B (call.Create (codes "d" ∷ codes "b" ∷ []))) 10
          ∷ reads (line.Call C (call.Write (codes "b" ∷ []) 4 (codes "z"))) 14 ∷ reads (line.Call C (call.Write (codes "b" ∷ []) 3 (codes "xx"))) 14
          ∷ reads (line.Push C 3) 8 ∷ reads (line.Call C (call.Write (codes "b" ∷ []) 0 (codes "xy"))) 14
          ∷ reads (line.Call C (call.Write (codes "b" ∷ []) 1 (codes "xc"))) 14 ∷ reads (line.Call C (call.Write (codes "b" ∷ []) 3 (codes "cc"))) 14
          ∷ reads (line.Call B (call.Create (codes "d" ∷ codes "e" ∷ codes "a" ∷ []))) 10 ∷ reads (line.Cut A) 5
          ∷ reads (line.Call B (call.Write (codes "a" ∷ []) 0 (codes "z"))) 14 ∷ reads (line.Call B (call.Fsync (codes "d" ∷ []))) 9
          ∷ reads (line.Call C (call.Chown (codes "d" ∷ []) 3)) 12 ∷ reads (line.Push B 3) 8
          ∷ reads (line.Call C (call.Write (codes "a" ∷ []) 5 (codes "a"))) 14 ∷ reads (line.Call C (call.Write (codes "a" ∷ []) 2 (codes "ay"))) 14
          ∷ reads (line.Push C 3) 8 ∷ reads (line.Drop B msg.Flush 2) 14 ∷ reads (line.Push C 3) 8 ∷ reads (line.Deliver B msg.Want 5) 16
          ∷ reads (line.Call C (call.Chown (codes "d" ∷ []) 5)) 12 ∷ reads (line.Call A (call.Create (codes "d" ∷ codes "b" ∷ []))) 10
          ∷ reads (line.Call B (call.Fsync (codes "a" ∷ []))) 9 ∷ reads (line.Call A (call.Write (codes "b" ∷ []) 0 (codes "q"))) 14
          ∷ reads (line.Call A call.Sync) 3 ∷ reads (line.Crash A) 7 ∷ reads (line.Uncut A) 7
          ∷ reads (line.Call A (call.Read (codes "a" ∷ []) 0 9)) 13 ∷ reads (line.Call A (call.Read (codes "b" ∷ []) 0 9)) 13
          ∷ reads (line.Call A (call.Stat (codes "b2" ∷ []))) 8 ∷ reads (line.Uncut B) 7 ∷ reads (line.Resend A) 8 ∷ reads (line.Resend B) 8
          ∷ reads (line.Resend C) 8 ∷ reads (line.Resend A) 8 ∷ reads (line.Resend B) 8 ∷ reads (line.Resend C) 8
          ∷ reads (line.Call A (call.List [])) 8 ∷ reads (line.Call B (call.List [])) 8 ∷ reads (line.Call C (call.List [])) 8
          ∷ reads (line.Call A (call.Read (codes "a" ∷ []) 0 64)) 13 ∷ reads (line.Call A (call.Read (codes "b" ∷ []) 0 64)) 13
          ∷ reads (line.Call C (call.Read (codes "d" ∷ codes "a" ∷ []) 0 64)) 15 ∷ reads (line.Call A call.Sync) 3 ∷ reads (line.Call B call.Sync) 3
          ∷ reads (line.Call C call.Sync) 3 ∷ [];
      fates = [];
      max_objects = 1024;
      shown =
          Waits 1 C (call.Mkdir (codes "d" ∷ [])) ∷ Answered 1 C (call.Mkdir (codes "d" ∷ [])) (answer.Reply reply.Ok) (Some 1)
          ∷ Answered 2 C (call.Create (codes "a" ∷ [])) (answer.Reply reply.Ok) (Some 2)
          ∷ Answered 3 C (call.Write (codes "a" ∷ []) 0 (codes "abcdefgh")) (answer.Reply reply.Ok) (Some 3)
          ∷ Waits 4 B (call.Create (codes "b" ∷ [])) ∷ Durable C (1 ∷ 2 ∷ [])
          ∷ Answered 4 B (call.Create (codes "b" ∷ [])) (answer.Reply reply.Ok) (Some 1)
          ∷ Answered 5 B (call.Write (codes "b" ∷ []) 0 (codes "abcdefgh")) (answer.Reply reply.Ok) (Some 2)
          ∷ Answered 6 A call.Sync (answer.Reply reply.Ok) None ∷ Waits 7 B call.Sync ∷ Durable B (1 ∷ 2 ∷ [])
          ∷ Answered 7 B call.Sync (answer.Reply reply.Ok) None ∷ Waits 8 C call.Sync ∷ Durable C (3 ∷ [])
          ∷ Answered 8 C call.Sync (answer.Reply reply.Ok) None ∷ Waits 9 B (call.Chmod (codes "a" ∷ []) 493)
          ∷ Answered 9 B (call.Chmod (codes "a" ∷ []) 493) (answer.Reply reply.Ok) (Some 3)
          ∷ Answered 10 B (call.Write (codes "b" ∷ []) 1 (codes "b")) (answer.Reply reply.Ok) (Some 4)
          ∷ Answered 11 B (call.Rename (codes "a" ∷ []) (codes "a" ∷ [])) (answer.Reply reply.Ok) None ∷ Waits 13 B (call.Chmod (codes "d" ∷ []) 4095)
          ∷ Waits 14 B (call.Create (codes "d" ∷ codes "b" ∷ [])) ∷ Waits 15 C (call.Write (codes "b" ∷ []) 4 (codes "z"))
          ∷ Waits 16 C (call.Write (codes "b" ∷ []) 3 (codes "xx")) ∷ Nothing ∷ Waits 18 C (call.Write (codes "b" ∷ []) 0 (codes "xy"))
          ∷ Waits 19 C (call.Write (codes "b" ∷ []) 1 (codes "xc")) ∷ Waits 20 C (call.Write (codes "b" ∷ []) 3 (codes "cc"))
          ∷ Waits 21 B (call.Create (codes "d" ∷ codes "e" ∷ codes "a" ∷ []))
          ∷ Answered 23 B (call.Write (codes "a" ∷ []) 0 (codes "z")) (answer.Reply reply.Ok) (Some 5) ∷ Waits 24 B (call.Fsync (codes "d" ∷ []))
          ∷ Waits 25 C (call.Chown (codes "d" ∷ []) 3) ∷ Waits 27 C (call.Write (codes "a" ∷ []) 5 (codes "a"))
          ∷ Waits 28 C (call.Write (codes "a" ∷ []) 2 (codes "ay")) ∷ Nothing ∷ Nothing ∷ Waits 33 C (call.Chown (codes "d" ∷ []) 5)
          ∷ Waits 34 A (call.Create (codes "d" ∷ codes "b" ∷ [])) ∷ Waits 35 B (call.Fsync (codes "a" ∷ []))
          ∷ Waits 36 A (call.Write (codes "b" ∷ []) 0 (codes "q")) ∷ Answered 37 A call.Sync (answer.Reply reply.Ok) None ∷ Crashed A
          ∷ Waits 40 A (call.Read (codes "a" ∷ []) 0 9) ∷ Unseen A ∷ Waits 41 A (call.Read (codes "b" ∷ []) 0 9)
          ∷ Waits 42 A (call.Stat (codes "b2" ∷ []))
          ∷ Answered 21 B (call.Create (codes "d" ∷ codes "e" ∷ codes "a" ∷ [])) (answer.Reply (reply.Refused (no.NotFound 2))) None
          ∷ Answered 24 B (call.Fsync (codes "d" ∷ [])) (answer.Reply reply.Ok) None
          ∷ Answered 42 A (call.Stat (codes "b2" ∷ [])) (answer.Reply (reply.Refused (no.NotFound 1))) None
          ∷ Answered 13 B (call.Chmod (codes "d" ∷ []) 4095) (answer.Reply reply.Ok) (Some 6)
          ∷ Answered 14 B (call.Create (codes "d" ∷ codes "b" ∷ [])) (answer.Reply reply.Ok) (Some 7) ∷ Durable B (4 ∷ []) ∷ Durable B (6 ∷ 7 ∷ [])
          ∷ Answered 41 A (call.Read (codes "b" ∷ []) 0 9) (answer.Reply (reply.Data (codes "abcdefgh"))) None
          ∷ Answered 25 C (call.Chown (codes "d" ∷ []) 3) (answer.Reply reply.Ok) (Some 4)
          ∷ Answered 33 C (call.Chown (codes "d" ∷ []) 5) (answer.Reply reply.Ok) (Some 5)
          ∷ Answered 15 C (call.Write (codes "b" ∷ []) 4 (codes "z")) (answer.Reply reply.Ok) (Some 6)
          ∷ Answered 16 C (call.Write (codes "b" ∷ []) 3 (codes "xx")) (answer.Reply reply.Ok) (Some 7)
          ∷ Answered 18 C (call.Write (codes "b" ∷ []) 0 (codes "xy")) (answer.Reply reply.Ok) (Some 8)
          ∷ Answered 19 C (call.Write (codes "b" ∷ []) 1 (codes "xc")) (answer.Reply reply.Ok) (Some 9)
          ∷ Answered 20 C (call.Write (codes "b" ∷ []) 3 (codes "cc")) (answer.Reply reply.Ok) (Some 10) ∷ Durable B (3 ∷ []) ∷ Durable B (5 ∷ [])
          ∷ Answered 35 B (call.Fsync (codes "a" ∷ [])) (answer.Reply reply.Ok) None
          ∷ Answered 40 A (call.Read (codes "a" ∷ []) 0 9) (answer.Reply (reply.Data (codes "zbcdefgh"))) None
          ∷ Answered 27 C (call.Write (codes "a" ∷ []) 5 (codes "a")) (answer.Reply reply.Ok) (Some 11)
          ∷ Answered 28 C (call.Write (codes "a" ∷ []) 2 (codes "ay")) (answer.Reply reply.Ok) (Some 12)
          ∷ Answered 50 A (call.List []) (answer.Reply (reply.Names (codes "a" ∷ codes "b" ∷ codes "d" ∷ []))) None
          ∷ Answered 51 B (call.List []) (answer.Reply (reply.Names (codes "a" ∷ codes "b" ∷ codes "d" ∷ []))) None
          ∷ Answered 52 C (call.List []) (answer.Reply (reply.Names (codes "a" ∷ codes "b" ∷ codes "d" ∷ []))) None
          ∷ Waits 53 A (call.Read (codes "a" ∷ []) 0 64) ∷ Durable C (11 ∷ 12 ∷ [])
          ∷ Answered 53 A (call.Read (codes "a" ∷ []) 0 64) (answer.Reply (reply.Data (codes "zbayeagh"))) None
          ∷ Waits 54 A (call.Read (codes "b" ∷ []) 0 64) ∷ Durable C (6 ∷ 7 ∷ 8 ∷ 9 ∷ 10 ∷ [])
          ∷ Answered 54 A (call.Read (codes "b" ∷ []) 0 64) (answer.Reply (reply.Data (codes "xxcccfgh"))) None
          ∷ Answered 55 C (call.Read (codes "d" ∷ codes "a" ∷ []) 0 64) (answer.Reply (reply.Refused (no.NotFound 2))) None
          ∷ Answered 56 A call.Sync (answer.Reply reply.Ok) None ∷ Answered 57 B call.Sync (answer.Reply reply.Ok) None ∷ Waits 58 C call.Sync
          ∷ Durable C (4 ∷ 5 ∷ []) ∷ Answered 58 C call.Sync (answer.Reply reply.Ok) None ∷ [];
      status = 0;
    }

abbrev pub crash_7 : Run
crash_7 =
    record {
      lines =
          reads (line.Call B (call.Mkdir (codes "d" ∷ []))) 9 ∷ reads (line.Call B (call.Create (codes "a" ∷ []))) 10
          ∷ reads (line.Call B (call.Write (codes "a" ∷ []) 0 (codes "abcdefgh"))) 14
          ∷ reads (line.Call B (call.Create (codes "d" ∷ codes "a" ∷ []))) 10
          ∷ reads (line.Call B (call.Write (codes "d" ∷ codes "a" ∷ []) 0 (codes "abcdefgh"))) 16
          ∷ reads (line.Call A (call.Rmdir (codes "d" ∷ []))) 9 ∷ reads (line.Call B (call.Rename (codes "a" ∷ []) (codes "d" ∷ codes "a" ∷ []))) 13
          ∷ reads (line.Uncut A) 7 ∷ reads (line.Call A (call.Write (codes "d" ∷ codes "a" ∷ []) 3 (codes "zyzax"))) 16
          ∷ reads (line.Call B (call.Write (codes "d" ∷ codes "a" ∷ []) 4 (codes "x"))) 16
          ∷ reads (line.Call B (call.Write (codes "d" ∷ codes "a" ∷ []) 1 (codes "b"))) 16
          ∷ reads (line.Call B (call.Write (codes "d" ∷ codes "a" ∷ []) 0 (codes "a"))) 16 ∷ reads (line.Push B 8) 8
          ∷ reads (line.Call A (call.Read (codes "a" ∷ []) 3 64)) 13 ∷ reads (line.Call A (call.Read (codes "d" ∷ codes "a" ∷ []) 1 9)) 15
          ∷ reads (line.Call A (call.Write (codes "a" ∷ []) 6 (codes "xzaaz"))) 14
          ∷ reads (line.Call A (call.Forder ((codes "d" ∷ codes "a" ∷ []) ∷ []))) 10 ∷ reads (line.Crash A) 7
          ∷ reads (line.Call B (call.Mkdir (codes "e" ∷ []))) 9 ∷ reads (line.Call A (call.Read (codes "d" ∷ codes "a" ∷ []) 0 2)) 15
          ∷ reads (line.Call A (call.Create (codes "e" ∷ codes "a" ∷ []))) 10
          ∷ reads (line.Call B (call.Write (codes "e" ∷ codes "a" ∷ []) 1 (codes "yyx"))) 16 ∷ reads (line.Call A (call.Create (codes "a" ∷ []))) 10
          ∷ reads (line.Call A (call.Create (codes "e" ∷ codes "a" ∷ []))) 10
          ∷ reads (line.Call B (call.Write (codes "d" ∷ codes "a" ∷ []) 5 (codes "cy"))) 16
          ∷ reads (line.Call B (call.Write (codes "d" ∷ codes "a" ∷ []) 3 (codes "ab"))) 16
          ∷ reads (line.Call B (call.Write (codes "d" ∷ codes "a" ∷ []) 3 (codes "za"))) 16 ∷ reads (line.Call B (call.Mkdir (codes "e" ∷ []))) 9
          ∷ reads (line.Call B (call.Fsync (codes "d" ∷ codes "a" ∷ []))) 9 ∷ reads (line.Call B (call.Remove (codes "a" ∷ []))) 10
          ∷ reads (line.Call A (call.List (codes "e" ∷ []))) 8 ∷ reads (line.Call A (call.Rename (codes "e" ∷ codes "a" ∷ []) (codes "a" ∷ []))) 15
          ∷ reads (line.End B) 5 ∷ reads (line.Call A (call.Write (codes "d" ∷ codes "a" ∷ []) 0 (0 ∷ 255 ∷ 37 ∷ []))) 16
          ∷ reads (line.Call B (call.Create (codes "e" ∷ codes "a" ∷ []))) 10
          ∷ reads (line.Call A (call.Forder ((codes "a" ∷ []) ∷ (codes "e" ∷ codes "a" ∷ []) ∷ []))) 13
          ∷ reads (line.Call B (call.Write (codes "a" ∷ []) 1 (codes "c"))) 14 ∷ reads (line.Call A (call.Write (codes "a" ∷ []) 0 (codes "zcz"))) 14
          ∷ reads (line.Cut B) 5 ∷ reads (line.Call A (call.Touch (codes "d" ∷ codes "a" ∷ []) 4)) 14 ∷ reads (line.Uncut B) 7
          ∷ reads (line.Resend A) 8 ∷ reads (line.Resend B) 8 ∷ reads (line.Resend A) 8 ∷ reads (line.Resend B) 8
          ∷ reads (line.Call A (call.List [])) 8 ∷ reads (line.Call B (call.List [])) 8 ∷ reads (line.Call A (call.Read (codes "a" ∷ []) 0 64)) 13
          ∷ reads (line.Call A (call.Read (codes "d" ∷ codes "a" ∷ []) 0 64)) 15
          ∷ reads (line.Call B (call.Read (codes "e" ∷ codes "a" ∷ []) 0 64)) 15 ∷ [];
      fates = [];
      max_objects = 1024;
      shown =
          Waits 1 B (call.Mkdir (codes "d" ∷ [])) ∷ Answered 1 B (call.Mkdir (codes "d" ∷ [])) (answer.Reply reply.Ok) (Some 1)
          ∷ Answered 2 B (call.Create (codes "a" ∷ [])) (answer.Reply reply.Ok) (Some 2)
          ∷ Answered 3 B (call.Write (codes "a" ∷ []) 0 (codes "abcdefgh")) (answer.Reply reply.Ok) (Some 3)
          ∷ Answered 4 B (call.Create (codes "d" ∷ codes "a" ∷ [])) (answer.Reply reply.Ok) (Some 4)
          ∷ Answered 5 B (call.Write (codes "d" ∷ codes "a" ∷ []) 0 (codes "abcdefgh")) (answer.Reply reply.Ok) (Some 5)
          ∷ Waits 6 A (call.Rmdir (codes "d" ∷ [])) ∷ Durable B (1 ∷ 2 ∷ []) ∷ Durable B (4 ∷ [])
          ∷ Answered 6 A (call.Rmdir (codes "d" ∷ [])) (answer.Reply (reply.Refused no.NotEmpty)) None
          ∷ Waits 7 B (call.Rename (codes "a" ∷ []) (codes "d" ∷ codes "a" ∷ []))
          ∷ Answered 7 B (call.Rename (codes "a" ∷ []) (codes "d" ∷ codes "a" ∷ [])) (answer.Reply reply.Ok) (Some 6) ∷ Nothing
          ∷ Waits 9 A (call.Write (codes "d" ∷ codes "a" ∷ []) 3 (codes "zyzax")) ∷ Durable B (3 ∷ 5 ∷ 6 ∷ [])
          ∷ Answered 9 A (call.Write (codes "d" ∷ codes "a" ∷ []) 3 (codes "zyzax")) (answer.Reply reply.Ok) (Some 1)
          ∷ Waits 10 B (call.Write (codes "d" ∷ codes "a" ∷ []) 4 (codes "x")) ∷ Durable A (1 ∷ [])
          ∷ Answered 10 B (call.Write (codes "d" ∷ codes "a" ∷ []) 4 (codes "x")) (answer.Reply reply.Ok) (Some 7)
          ∷ Answered 11 B (call.Write (codes "d" ∷ codes "a" ∷ []) 1 (codes "b")) (answer.Reply reply.Ok) (Some 8)
          ∷ Answered 12 B (call.Write (codes "d" ∷ codes "a" ∷ []) 0 (codes "a")) (answer.Reply reply.Ok) (Some 9) ∷ Durable B (8 ∷ [])
          ∷ Answered 14 A (call.Read (codes "a" ∷ []) 3 64) (answer.Reply (reply.Refused (no.NotFound 1))) None
          ∷ Waits 15 A (call.Read (codes "d" ∷ codes "a" ∷ []) 1 9) ∷ Durable B (7 ∷ 9 ∷ [])
          ∷ Answered 15 A (call.Read (codes "d" ∷ codes "a" ∷ []) 1 9) (answer.Reply (reply.Data (codes "bczxzax"))) None
          ∷ Answered 16 A (call.Write (codes "a" ∷ []) 6 (codes "xzaaz")) (answer.Reply (reply.Refused (no.NotFound 1))) None
          ∷ Waits 17 A (call.Forder ((codes "d" ∷ codes "a" ∷ []) ∷ []))
          ∷ Answered 17 A (call.Forder ((codes "d" ∷ codes "a" ∷ []) ∷ [])) (answer.Reply reply.Ok) (Some 2) ∷ Crashed A
          ∷ Waits 19 B (call.Mkdir (codes "e" ∷ [])) ∷ Waits 20 A (call.Read (codes "d" ∷ codes "a" ∷ []) 0 2) ∷ Ended A (2 ∷ [])
          ∷ Answered 19 B (call.Mkdir (codes "e" ∷ [])) (answer.Reply reply.Ok) (Some 10) ∷ Durable B (10 ∷ [])
          ∷ Answered 20 A (call.Read (codes "d" ∷ codes "a" ∷ []) 0 2) (answer.Reply (reply.Data (codes "ab"))) None
          ∷ Waits 21 A (call.Create (codes "e" ∷ codes "a" ∷ []))
          ∷ Answered 21 A (call.Create (codes "e" ∷ codes "a" ∷ [])) (answer.Reply reply.Ok) (Some 1)
          ∷ Waits 22 B (call.Write (codes "e" ∷ codes "a" ∷ []) 1 (codes "yyx")) ∷ Durable A (1 ∷ [])
          ∷ Answered 22 B (call.Write (codes "e" ∷ codes "a" ∷ []) 1 (codes "yyx")) (answer.Reply reply.Ok) (Some 11)
          ∷ Waits 23 A (call.Create (codes "a" ∷ [])) ∷ Answered 23 A (call.Create (codes "a" ∷ [])) (answer.Reply reply.Ok) (Some 2)
          ∷ Answered 24 A (call.Create (codes "e" ∷ codes "a" ∷ [])) (answer.Reply (reply.Refused no.Exists)) None
          ∷ Waits 25 B (call.Write (codes "d" ∷ codes "a" ∷ []) 5 (codes "cy")) ∷ Durable A (2 ∷ [])
          ∷ Answered 25 B (call.Write (codes "d" ∷ codes "a" ∷ []) 5 (codes "cy")) (answer.Reply reply.Ok) (Some 12)
          ∷ Answered 26 B (call.Write (codes "d" ∷ codes "a" ∷ []) 3 (codes "ab")) (answer.Reply reply.Ok) (Some 13)
          ∷ Answered 27 B (call.Write (codes "d" ∷ codes "a" ∷ []) 3 (codes "za")) (answer.Reply reply.Ok) (Some 14)
          ∷ Answered 28 B (call.Mkdir (codes "e" ∷ [])) (answer.Reply (reply.Refused no.Exists)) None
          ∷ Waits 29 B (call.Fsync (codes "d" ∷ codes "a" ∷ [])) ∷ Durable B (12 ∷ 13 ∷ 14 ∷ [])
          ∷ Answered 29 B (call.Fsync (codes "d" ∷ codes "a" ∷ [])) (answer.Reply reply.Ok) None ∷ Waits 30 B (call.Remove (codes "a" ∷ []))
          ∷ Answered 30 B (call.Remove (codes "a" ∷ [])) (answer.Reply reply.Ok) (Some 15) ∷ Waits 31 A (call.List (codes "e" ∷ []))
          ∷ Durable B (15 ∷ []) ∷ Answered 31 A (call.List (codes "e" ∷ [])) (answer.Reply (reply.Names (codes "a" ∷ []))) None
          ∷ Waits 32 A (call.Rename (codes "e" ∷ codes "a" ∷ []) (codes "a" ∷ [])) ∷ Durable B (11 ∷ [])
          ∷ Answered 32 A (call.Rename (codes "e" ∷ codes "a" ∷ []) (codes "a" ∷ [])) (answer.Reply reply.Ok) (Some 3) ∷ Ended B [] ∷ Told B []
          ∷ Waits 34 A (call.Write (codes "d" ∷ codes "a" ∷ []) 0 (0 ∷ 255 ∷ 37 ∷ []))
          ∷ Answered 34 A (call.Write (codes "d" ∷ codes "a" ∷ []) 0 (0 ∷ 255 ∷ 37 ∷ [])) (answer.Reply reply.Ok) (Some 4)
          ∷ Waits 35 B (call.Create (codes "e" ∷ codes "a" ∷ [])) ∷ Durable A (3 ∷ [])
          ∷ Answered 35 B (call.Create (codes "e" ∷ codes "a" ∷ [])) (answer.Reply reply.Ok) (Some 16)
          ∷ Waits 36 A (call.Forder ((codes "a" ∷ []) ∷ (codes "e" ∷ codes "a" ∷ []) ∷ [])) ∷ Durable B (16 ∷ [])
          ∷ Answered 36 A (call.Forder ((codes "a" ∷ []) ∷ (codes "e" ∷ codes "a" ∷ []) ∷ [])) (answer.Reply reply.Ok) (Some 5)
          ∷ Waits 37 B (call.Write (codes "a" ∷ []) 1 (codes "c")) ∷ Durable A (5 ∷ [])
          ∷ Answered 37 B (call.Write (codes "a" ∷ []) 1 (codes "c")) (answer.Reply reply.Ok) (Some 17)
          ∷ Waits 38 A (call.Write (codes "a" ∷ []) 0 (codes "zcz")) ∷ Durable B (17 ∷ [])
          ∷ Answered 38 A (call.Write (codes "a" ∷ []) 0 (codes "zcz")) (answer.Reply reply.Ok) (Some 6)
          ∷ Answered 40 A (call.Touch (codes "d" ∷ codes "a" ∷ []) 4) (answer.Reply reply.Ok) (Some 7)
          ∷ Answered 46 A (call.List []) (answer.Reply (reply.Names (codes "a" ∷ codes "d" ∷ codes "e" ∷ []))) None
          ∷ Answered 47 B (call.List []) (answer.Reply (reply.Names (codes "a" ∷ codes "d" ∷ codes "e" ∷ []))) None
          ∷ Answered 48 A (call.Read (codes "a" ∷ []) 0 64) (answer.Reply (reply.Data (codes "zczx"))) None
          ∷ Answered 49 A (call.Read (codes "d" ∷ codes "a" ∷ []) 0 64) (answer.Reply (reply.Data (0 ∷ 255 ∷ 37 ∷ 122 ∷ 97 ∷ 99 ∷ 121 ∷ 120 ∷ []))) None
          ∷ Waits 50 B (call.Read (codes "e" ∷ codes "a" ∷ []) 0 64)
          ∷ Answered 50 B (call.Read (codes "e" ∷ codes "a" ∷ []) 0 64) (answer.Reply (reply.Data [])) None ∷ [];
      status = 0;
    }
