-- Random scripts with crashes and ended sessions.
use Rattle.std.specs.Prelude.{[], ◌∷◌, None, Some, codes}
use Rattle.ec_volume.specs.declared.image.Kind.TheVariants as kind
use Rattle.ec_plain.specs.declared.call.Call.TheVariants as call
use Rattle.ec_plain.specs.declared.call.Reply.TheVariants as reply
use Rattle.ec_plain.specs.declared.call.Refusal.TheVariants as no
use Rattle.ec_history.specs.declared.entry.Answer.TheVariants as answer
use Rattle.ec_history.specs.declared.shown.Shown.TheVariants.{Waits, Answered, Durable, Ended, Unseen, Told, Crashed, Nothing}
use Rattle.ec_wire.specs.declared.msg.MsgKind.TheVariants as msg
use Rattle.ec_protocol.specs.declared.script.Line.TheVariants as line
use Rattle.ec_protocol.specs.Drill.{reads}
use Rattle.ec_protocol.specs.Runs.{Run, A, B, C, D}

abbrev pub crash_16 : Run
crash_16 =
    record {
      lines =
          reads (line.Call B (call.Mkdir (codes "d" ∷ []))) 9 ∷ reads (line.Call B (call.Create (codes "a" ∷ []))) 10
          ∷ reads (line.Call B (call.Write (codes "a" ∷ []) 0 (codes "abcdefgh"))) 14
          ∷ reads (line.Call B (call.Create (codes "d" ∷ codes "a" ∷ []))) 10
          ∷ reads (line.Call B (call.Write (codes "d" ∷ codes "a" ∷ []) 0 (codes "abcdefgh"))) 16 ∷ reads (line.Call B (call.Stat (codes "d" ∷ []))) 8
          ∷ reads (line.Call B (call.Stat (codes "d" ∷ codes "a" ∷ []))) 8 ∷ reads (line.Cut B) 5 ∷ reads (line.Push B 2) 8
          ∷ reads (line.Deliver B msg.Flush 1) 17 ∷ reads (line.Drop B msg.Kept 1) 13 ∷ reads (line.End B) 5
          ∷ reads (line.Call B (call.Remove (codes "a" ∷ []))) 10 ∷ reads (line.Call A (call.Read (codes "d" ∷ codes "a" ∷ []) 0 9)) 15
          ∷ reads (line.Uncut B) 7 ∷ reads (line.Call B (call.Read (codes "a" ∷ []) 0 9)) 13 ∷ reads (line.Call B (call.Read (codes "a" ∷ []) 0 9)) 13
          ∷ reads (line.Call B (call.Stat (codes "a2" ∷ []))) 8 ∷ reads (line.Call A (call.Write (codes "d" ∷ codes "a" ∷ []) 4 (codes "y"))) 16
          ∷ reads (line.Call A (call.Write (codes "d" ∷ codes "a" ∷ []) 0 (codes "a"))) 16
          ∷ reads (line.Call B (call.SetLen (codes "d" ∷ codes "a" ∷ []) 0)) 15 ∷ reads (line.Repeat B msg.Want 5) 15
          ∷ reads (line.Call B (call.SetLen (codes "d" ∷ codes "a" ∷ []) 1)) 15 ∷ reads (line.Call A (call.Fsync [])) 9 ∷ reads (line.End A) 5
          ∷ reads (line.Call A (call.Mkdir (codes "e" ∷ []))) 9 ∷ reads (line.Call B call.Sync) 3
          ∷ reads (line.Call B (call.Write (codes "d" ∷ codes "a" ∷ []) 1 (codes "y"))) 16
          ∷ reads (line.Call B (call.Write (codes "d" ∷ codes "a" ∷ []) 4 (codes "xb"))) 16
          ∷ reads (line.Call B (call.Write (codes "d" ∷ codes "a" ∷ []) 0 (codes "yx"))) 16 ∷ reads (line.Push B 6) 8
          ∷ reads (line.Call A (call.Write (codes "d" ∷ codes "a" ∷ []) 1 (codes "cc"))) 16
          ∷ reads (line.Call A (call.Write (codes "d" ∷ codes "a" ∷ []) 2 (codes "y"))) 16
          ∷ reads (line.Call A (call.Write (codes "d" ∷ codes "a" ∷ []) 1 (codes "xa"))) 16
          ∷ reads (line.Call A (call.Write (codes "d" ∷ codes "a" ∷ []) 2 (codes "zx"))) 16 ∷ reads (line.Cut B) 5 ∷ reads (line.Call B call.Sync) 3
          ∷ reads (line.Crash B) 7 ∷ reads (line.Uncut B) 7 ∷ reads (line.Call B (call.List [])) 8 ∷ reads (line.Call B call.Sync) 3
          ∷ reads (line.Call B (call.Stat (codes "d" ∷ codes "a2" ∷ []))) 8 ∷ reads (line.End A) 5
          ∷ reads (line.Call A (call.Stat (codes "d" ∷ codes "a" ∷ []))) 8 ∷ reads (line.Call B (call.Create (codes "a" ∷ []))) 10
          ∷ reads (line.Uncut A) 7 ∷ reads (line.Call B (call.Write (codes "d" ∷ codes "a" ∷ []) 4 (codes "bb"))) 16
          ∷ reads (line.Call B (call.Write (codes "d" ∷ codes "a" ∷ []) 5 (codes "bb"))) 16
          ∷ reads (line.Call B (call.Write (codes "d" ∷ codes "a" ∷ []) 0 (codes "zb"))) 16
          ∷ reads (line.Call B (call.Write (codes "d" ∷ codes "a" ∷ []) 5 (codes "y"))) 16
          ∷ reads (line.Call B (call.Write (codes "d" ∷ codes "a" ∷ []) 3 (codes "ay"))) 16
          ∷ reads (line.Call B (call.Write (codes "d" ∷ codes "a" ∷ []) 3 (codes "a"))) 16
          ∷ reads (line.Call A (call.Write (codes "d" ∷ codes "a" ∷ []) 4 (codes "axaxx"))) 16 ∷ reads (line.Cut A) 5 ∷ reads (line.Cut A) 5
          ∷ reads (line.Call A (call.Create (codes "a" ∷ []))) 10
          ∷ reads (line.Call A (call.Rename (codes "e" ∷ codes "a" ∷ []) (codes "e" ∷ codes "a2" ∷ []))) 15
          ∷ reads (line.Call B (call.Fsync (codes "d" ∷ codes "a" ∷ []))) 9 ∷ reads (line.Call B (call.Create (codes "e" ∷ codes "a" ∷ []))) 10
          ∷ reads (line.Call B (call.Create (codes "a" ∷ []))) 10 ∷ reads (line.Uncut A) 7 ∷ reads (line.Resend A) 8 ∷ reads (line.Resend B) 8
          ∷ reads (line.Resend A) 8 ∷ reads (line.Resend B) 8 ∷ reads (line.Call A (call.List [])) 8 ∷ reads (line.Call B (call.List [])) 8
          ∷ reads (line.Call A (call.Read (codes "a" ∷ []) 0 64)) 13 ∷ reads (line.Call A (call.Read (codes "d" ∷ codes "a" ∷ []) 0 64)) 15
          ∷ reads (line.Call B (call.Read (codes "e" ∷ codes "a" ∷ []) 0 64)) 15 ∷ [];
      fates = [];
      max_objects = 1024;
      shown =
          Waits 1 B (call.Mkdir (codes "d" ∷ [])) ∷ Answered 1 B (call.Mkdir (codes "d" ∷ [])) (answer.Reply reply.Ok) (Some 1)
          ∷ Answered 2 B (call.Create (codes "a" ∷ [])) (answer.Reply reply.Ok) (Some 2)
          ∷ Answered 3 B (call.Write (codes "a" ∷ []) 0 (codes "abcdefgh")) (answer.Reply reply.Ok) (Some 3)
          ∷ Answered 4 B (call.Create (codes "d" ∷ codes "a" ∷ [])) (answer.Reply reply.Ok) (Some 4)
          ∷ Answered 5 B (call.Write (codes "d" ∷ codes "a" ∷ []) 0 (codes "abcdefgh")) (answer.Reply reply.Ok) (Some 5)
          ∷ Answered 6 B (call.Stat (codes "d" ∷ [])) (answer.Reply (reply.Stat kind.Dir 493 0 0 1)) None
          ∷ Answered 7 B (call.Stat (codes "d" ∷ codes "a" ∷ [])) (answer.Reply (reply.Stat kind.File 420 0 0 8)) None ∷ Durable B (1 ∷ 2 ∷ [])
          ∷ Ended B (3 ∷ 4 ∷ 5 ∷ []) ∷ Answered 13 B (call.Remove (codes "a" ∷ [])) (answer.Reply reply.Ok) (Some 6)
          ∷ Waits 14 A (call.Read (codes "d" ∷ codes "a" ∷ []) 0 9)
          ∷ Answered 14 A (call.Read (codes "d" ∷ codes "a" ∷ []) 0 9) (answer.Reply (reply.Refused (no.NotFound 2))) None
          ∷ Told B (3 ∷ 4 ∷ 5 ∷ 6 ∷ []) ∷ Waits 16 B (call.Read (codes "a" ∷ []) 0 9)
          ∷ Answered 16 B (call.Read (codes "a" ∷ []) 0 9) (answer.Lost (3 ∷ 6 ∷ [])) None
          ∷ Answered 17 B (call.Read (codes "a" ∷ []) 0 9) (answer.Reply (reply.Data [])) None
          ∷ Answered 18 B (call.Stat (codes "a2" ∷ [])) (answer.Reply (reply.Refused (no.NotFound 1))) None
          ∷ Answered 19 A (call.Write (codes "d" ∷ codes "a" ∷ []) 4 (codes "y")) (answer.Reply (reply.Refused (no.NotFound 2))) None
          ∷ Answered 20 A (call.Write (codes "d" ∷ codes "a" ∷ []) 0 (codes "a")) (answer.Reply (reply.Refused (no.NotFound 2))) None
          ∷ Waits 21 B (call.SetLen (codes "d" ∷ codes "a" ∷ []) 0)
          ∷ Answered 21 B (call.SetLen (codes "d" ∷ codes "a" ∷ []) 0) (answer.Lost (4 ∷ [])) None
          ∷ Answered 23 B (call.SetLen (codes "d" ∷ codes "a" ∷ []) 1) (answer.Reply (reply.Refused (no.NotFound 2))) None
          ∷ Answered 24 A (call.Fsync []) (answer.Reply reply.Ok) None ∷ Ended A [] ∷ Told A [] ∷ Waits 26 A (call.Mkdir (codes "e" ∷ []))
          ∷ Answered 26 A (call.Mkdir (codes "e" ∷ [])) (answer.Reply reply.Ok) (Some 1) ∷ Answered 27 B call.Sync (answer.Lost (4 ∷ 5 ∷ [])) None
          ∷ Waits 28 B (call.Write (codes "d" ∷ codes "a" ∷ []) 1 (codes "y")) ∷ Durable A (1 ∷ [])
          ∷ Answered 28 B (call.Write (codes "d" ∷ codes "a" ∷ []) 1 (codes "y")) (answer.Reply (reply.Refused (no.NotFound 2))) None
          ∷ Answered 29 B (call.Write (codes "d" ∷ codes "a" ∷ []) 4 (codes "xb")) (answer.Reply (reply.Refused (no.NotFound 2))) None
          ∷ Answered 30 B (call.Write (codes "d" ∷ codes "a" ∷ []) 0 (codes "yx")) (answer.Reply (reply.Refused (no.NotFound 2))) None ∷ Nothing
          ∷ Waits 32 A (call.Write (codes "d" ∷ codes "a" ∷ []) 1 (codes "cc"))
          ∷ Answered 32 A (call.Write (codes "d" ∷ codes "a" ∷ []) 1 (codes "cc")) (answer.Reply (reply.Refused (no.NotFound 2))) None
          ∷ Answered 33 A (call.Write (codes "d" ∷ codes "a" ∷ []) 2 (codes "y")) (answer.Reply (reply.Refused (no.NotFound 2))) None
          ∷ Answered 34 A (call.Write (codes "d" ∷ codes "a" ∷ []) 1 (codes "xa")) (answer.Reply (reply.Refused (no.NotFound 2))) None
          ∷ Answered 35 A (call.Write (codes "d" ∷ codes "a" ∷ []) 2 (codes "zx")) (answer.Reply (reply.Refused (no.NotFound 2))) None
          ∷ Answered 37 B call.Sync (answer.Reply reply.Ok) None ∷ Crashed B ∷ Waits 40 B (call.List []) ∷ Ended B []
          ∷ Answered 40 B (call.List []) (answer.Reply (reply.Names (codes "a" ∷ codes "d" ∷ codes "e" ∷ []))) None
          ∷ Answered 41 B call.Sync (answer.Reply reply.Ok) None ∷ Waits 42 B (call.Stat (codes "d" ∷ codes "a2" ∷ []))
          ∷ Answered 42 B (call.Stat (codes "d" ∷ codes "a2" ∷ [])) (answer.Reply (reply.Refused (no.NotFound 2))) None ∷ Ended A [] ∷ Told A []
          ∷ Waits 44 A (call.Stat (codes "d" ∷ codes "a" ∷ []))
          ∷ Answered 44 A (call.Stat (codes "d" ∷ codes "a" ∷ [])) (answer.Reply (reply.Refused (no.NotFound 2))) None
          ∷ Answered 45 B (call.Create (codes "a" ∷ [])) (answer.Reply (reply.Refused no.Exists)) None ∷ Nothing
          ∷ Answered 47 B (call.Write (codes "d" ∷ codes "a" ∷ []) 4 (codes "bb")) (answer.Reply (reply.Refused (no.NotFound 2))) None
          ∷ Answered 48 B (call.Write (codes "d" ∷ codes "a" ∷ []) 5 (codes "bb")) (answer.Reply (reply.Refused (no.NotFound 2))) None
          ∷ Answered 49 B (call.Write (codes "d" ∷ codes "a" ∷ []) 0 (codes "zb")) (answer.Reply (reply.Refused (no.NotFound 2))) None
          ∷ Answered 50 B (call.Write (codes "d" ∷ codes "a" ∷ []) 5 (codes "y")) (answer.Reply (reply.Refused (no.NotFound 2))) None
          ∷ Answered 51 B (call.Write (codes "d" ∷ codes "a" ∷ []) 3 (codes "ay")) (answer.Reply (reply.Refused (no.NotFound 2))) None
          ∷ Answered 52 B (call.Write (codes "d" ∷ codes "a" ∷ []) 3 (codes "a")) (answer.Reply (reply.Refused (no.NotFound 2))) None
          ∷ Answered 53 A (call.Write (codes "d" ∷ codes "a" ∷ []) 4 (codes "axaxx")) (answer.Reply (reply.Refused (no.NotFound 2))) None ∷ Nothing
          ∷ Answered 56 A (call.Create (codes "a" ∷ [])) (answer.Reply (reply.Refused no.Exists)) None
          ∷ Waits 57 A (call.Rename (codes "e" ∷ codes "a" ∷ []) (codes "e" ∷ codes "a2" ∷ []))
          ∷ Answered 58 B (call.Fsync (codes "d" ∷ codes "a" ∷ [])) (answer.Reply (reply.Refused (no.NotFound 2))) None
          ∷ Waits 59 B (call.Create (codes "e" ∷ codes "a" ∷ []))
          ∷ Answered 59 B (call.Create (codes "e" ∷ codes "a" ∷ [])) (answer.Reply reply.Ok) (Some 1)
          ∷ Answered 60 B (call.Create (codes "a" ∷ [])) (answer.Reply (reply.Refused no.Exists)) None ∷ Durable B (1 ∷ [])
          ∷ Answered 57 A (call.Rename (codes "e" ∷ codes "a" ∷ []) (codes "e" ∷ codes "a2" ∷ [])) (answer.Reply reply.Ok) (Some 2)
          ∷ Answered 66 A (call.List []) (answer.Reply (reply.Names (codes "a" ∷ codes "d" ∷ codes "e" ∷ []))) None
          ∷ Answered 67 B (call.List []) (answer.Reply (reply.Names (codes "a" ∷ codes "d" ∷ codes "e" ∷ []))) None
          ∷ Waits 68 A (call.Read (codes "a" ∷ []) 0 64) ∷ Answered 68 A (call.Read (codes "a" ∷ []) 0 64) (answer.Reply (reply.Data [])) None
          ∷ Answered 69 A (call.Read (codes "d" ∷ codes "a" ∷ []) 0 64) (answer.Reply (reply.Refused (no.NotFound 2))) None
          ∷ Waits 70 B (call.Read (codes "e" ∷ codes "a" ∷ []) 0 64) ∷ Durable A (2 ∷ [])
          ∷ Answered 70 B (call.Read (codes "e" ∷ codes "a" ∷ []) 0 64) (answer.Reply (reply.Refused (no.NotFound 2))) None ∷ [];
      status = 0;
    }

abbrev pub crash_17 : Run
crash_17 =
    record {
      lines =
          reads (line.Call A (call.Mkdir (codes "d" ∷ []))) 9 ∷ reads (line.Call B (call.Create (codes "a" ∷ []))) 10
          ∷ reads (line.Call A (call.Write (codes "a" ∷ []) 0 (codes "cac"))) 14 ∷ reads (line.Call A (call.Create (codes "b" ∷ []))) 10
          ∷ reads (line.Call A (call.Rename (codes "a" ∷ []) (codes "e" ∷ codes "a" ∷ []))) 13
          ∷ reads (line.Call B (call.Read (codes "b" ∷ []) 1 64)) 13 ∷ reads (line.Deliver A msg.Kept 1) 16
          ∷ reads (line.Call B (call.Create (codes "d" ∷ codes "a" ∷ []))) 10 ∷ reads (line.Call B (call.Stat (codes "b" ∷ []))) 8
          ∷ reads (line.Call B (call.Create (codes "d" ∷ codes "b" ∷ []))) 10 ∷ reads (line.Call A (call.Create (codes "b" ∷ []))) 10
          ∷ reads (line.Call B (call.Create (codes "a" ∷ []))) 10 ∷ reads (line.Call B (call.Fsync (codes "d" ∷ []))) 9 ∷ reads (line.Cut A) 5
          ∷ reads (line.Push A 2) 8 ∷ reads (line.Deliver A msg.Flush 3) 17
          ∷ reads (line.Call A (call.Forder ((codes "b" ∷ []) ∷ (codes "d" ∷ codes "a" ∷ []) ∷ []))) 13
          ∷ reads (line.Call A (call.Rename (codes "b" ∷ []) (codes "d" ∷ codes "a" ∷ []))) 13 ∷ reads (line.End A) 5 ∷ reads (line.Uncut A) 7
          ∷ reads (line.Call A (call.Read (codes "d" ∷ codes "a" ∷ []) 0 9)) 15 ∷ reads (line.Call A call.Sync) 3
          ∷ reads (line.Call A (call.Stat (codes "b2" ∷ []))) 8 ∷ reads (line.Call A (call.Create (codes "b" ∷ []))) 10
          ∷ reads (line.Call B (call.Rename (codes "d" ∷ []) (codes "d" ∷ codes "e" ∷ codes "k" ∷ []))) 13
          ∷ reads (line.Call B (call.Write (codes "d" ∷ codes "e" ∷ codes "a" ∷ []) 2 (codes "zx"))) 18 ∷ reads (line.Crash B) 7
          ∷ reads (line.Call B (call.Remove (codes "b" ∷ []))) 10 ∷ reads (line.End A) 5
          ∷ reads (line.Call B (call.Write (codes "d" ∷ codes "a" ∷ []) 3 (codes "cybza"))) 16
          ∷ reads (line.Call A (call.Remove (codes "d" ∷ codes "a" ∷ []))) 10 ∷ reads (line.Call A (call.Create (codes "d" ∷ codes "a" ∷ []))) 10
          ∷ reads (line.Call A (call.Chown [] 5)) 11 ∷ reads (line.Call A (call.Create (codes "b" ∷ []))) 10
          ∷ reads (line.Call B (call.Rename (codes "d" ∷ []) (codes "d" ∷ []))) 13 ∷ reads (line.Call B (call.List (codes "d" ∷ []))) 8
          ∷ reads (line.End A) 5 ∷ reads (line.Call B (call.Mkdir (codes "d" ∷ codes "k" ∷ []))) 9
          ∷ reads (line.Call B (call.Forder ([] ∷ (codes "d" ∷ []) ∷ (codes "d" ∷ codes "b" ∷ []) ∷ []))) 15
          ∷ reads (line.Call B (call.Write (codes "d" ∷ codes "a" ∷ []) 4 (codes "bx"))) 16
          ∷ reads (line.Call B (call.Rename (codes "a" ∷ []) (codes "d" ∷ codes "e" ∷ codes "a" ∷ []))) 13 ∷ reads (line.Push A 10) 8
          ∷ reads (line.Call A (call.Forder ((codes "b" ∷ []) ∷ []))) 10 ∷ reads (line.Call A (call.Rename (codes "b" ∷ []) (codes "b" ∷ []))) 13
          ∷ reads (line.Resend B) 8 ∷ reads (line.Push A 10) 8 ∷ reads (line.Push A 8) 8
          ∷ reads (line.Call A (call.Remove (codes "d" ∷ codes "a" ∷ []))) 10 ∷ reads (line.Cut B) 5
          ∷ reads (line.Call A (call.Create (codes "d" ∷ codes "a" ∷ []))) 10 ∷ reads (line.Call B (call.Read (codes "d" ∷ codes "a" ∷ []) 1 64)) 15
          ∷ reads (line.Deliver B msg.Want 25) 16 ∷ reads (line.Crash B) 7 ∷ reads (line.Push A 12) 8
          ∷ reads (line.Call A (call.Write (codes "a" ∷ []) 0 (codes "yz"))) 14 ∷ reads (line.Call A (call.Stat (codes "b" ∷ []))) 8
          ∷ reads (line.Call B (call.Write (codes "d" ∷ codes "b" ∷ []) 1 (codes "z"))) 16 ∷ reads (line.Call A (call.Create (codes "b" ∷ []))) 10
          ∷ reads (line.Deliver B msg.Hello 3) 17 ∷ reads (line.Call B (call.Stat [])) 8 ∷ [];
      fates = [];
      max_objects = 1024;
      shown =
          Waits 1 A (call.Mkdir (codes "d" ∷ [])) ∷ Answered 1 A (call.Mkdir (codes "d" ∷ [])) (answer.Reply reply.Ok) (Some 1)
          ∷ Waits 2 B (call.Create (codes "a" ∷ [])) ∷ Durable A (1 ∷ [])
          ∷ Answered 2 B (call.Create (codes "a" ∷ [])) (answer.Reply reply.Ok) (Some 1) ∷ Waits 3 A (call.Write (codes "a" ∷ []) 0 (codes "cac"))
          ∷ Durable B (1 ∷ []) ∷ Answered 3 A (call.Write (codes "a" ∷ []) 0 (codes "cac")) (answer.Reply reply.Ok) (Some 2)
          ∷ Waits 4 A (call.Create (codes "b" ∷ [])) ∷ Answered 4 A (call.Create (codes "b" ∷ [])) (answer.Reply reply.Ok) (Some 3)
          ∷ Answered 5 A (call.Rename (codes "a" ∷ []) (codes "e" ∷ codes "a" ∷ [])) (answer.Reply (reply.Refused (no.NotFound 1))) None
          ∷ Waits 6 B (call.Read (codes "b" ∷ []) 1 64) ∷ Durable A (3 ∷ [])
          ∷ Answered 6 B (call.Read (codes "b" ∷ []) 1 64) (answer.Reply (reply.Data [])) None ∷ Waits 8 B (call.Create (codes "d" ∷ codes "a" ∷ []))
          ∷ Answered 8 B (call.Create (codes "d" ∷ codes "a" ∷ [])) (answer.Reply reply.Ok) (Some 2)
          ∷ Answered 9 B (call.Stat (codes "b" ∷ [])) (answer.Reply (reply.Stat kind.File 420 0 0 0)) None
          ∷ Answered 10 B (call.Create (codes "d" ∷ codes "b" ∷ [])) (answer.Reply reply.Ok) (Some 3)
          ∷ Answered 11 A (call.Create (codes "b" ∷ [])) (answer.Reply (reply.Refused no.Exists)) None
          ∷ Answered 12 B (call.Create (codes "a" ∷ [])) (answer.Reply (reply.Refused no.Exists)) None ∷ Waits 13 B (call.Fsync (codes "d" ∷ []))
          ∷ Durable B (2 ∷ 3 ∷ []) ∷ Answered 13 B (call.Fsync (codes "d" ∷ [])) (answer.Reply reply.Ok) None ∷ Durable A (2 ∷ [])
          ∷ Waits 17 A (call.Forder ((codes "b" ∷ []) ∷ (codes "d" ∷ codes "a" ∷ []) ∷ []))
          ∷ Waits 18 A (call.Rename (codes "b" ∷ []) (codes "d" ∷ codes "a" ∷ [])) ∷ Ended A [] ∷ Told A []
          ∷ Answered 17 A (call.Forder ((codes "b" ∷ []) ∷ (codes "d" ∷ codes "a" ∷ []) ∷ [])) (answer.Reply reply.Ok) (Some 4)
          ∷ Answered 18 A (call.Rename (codes "b" ∷ []) (codes "d" ∷ codes "a" ∷ [])) (answer.Reply reply.Ok) (Some 5)
          ∷ Answered 21 A (call.Read (codes "d" ∷ codes "a" ∷ []) 0 9) (answer.Reply (reply.Data [])) None ∷ Waits 22 A call.Sync
          ∷ Durable A (4 ∷ 5 ∷ []) ∷ Answered 22 A call.Sync (answer.Reply reply.Ok) None
          ∷ Answered 23 A (call.Stat (codes "b2" ∷ [])) (answer.Reply (reply.Refused (no.NotFound 1))) None
          ∷ Waits 24 A (call.Create (codes "b" ∷ [])) ∷ Answered 24 A (call.Create (codes "b" ∷ [])) (answer.Reply reply.Ok) (Some 6)
          ∷ Waits 25 B (call.Rename (codes "d" ∷ []) (codes "d" ∷ codes "e" ∷ codes "k" ∷ [])) ∷ Durable A (6 ∷ [])
          ∷ Answered 25 B (call.Rename (codes "d" ∷ []) (codes "d" ∷ codes "e" ∷ codes "k" ∷ [])) (answer.Reply (reply.Refused (no.NotFound 2))) None
          ∷ Answered 26 B (call.Write (codes "d" ∷ codes "e" ∷ codes "a" ∷ []) 2 (codes "zx")) (answer.Reply (reply.Refused (no.NotFound 2))) None
          ∷ Crashed B ∷ Waits 28 B (call.Remove (codes "b" ∷ [])) ∷ Ended B []
          ∷ Answered 28 B (call.Remove (codes "b" ∷ [])) (answer.Reply reply.Ok) (Some 1) ∷ Ended A [] ∷ Told A []
          ∷ Waits 30 B (call.Write (codes "d" ∷ codes "a" ∷ []) 3 (codes "cybza"))
          ∷ Answered 30 B (call.Write (codes "d" ∷ codes "a" ∷ []) 3 (codes "cybza")) (answer.Reply reply.Ok) (Some 2)
          ∷ Waits 31 A (call.Remove (codes "d" ∷ codes "a" ∷ [])) ∷ Durable B (1 ∷ []) ∷ Durable B (2 ∷ [])
          ∷ Answered 31 A (call.Remove (codes "d" ∷ codes "a" ∷ [])) (answer.Reply reply.Ok) (Some 7)
          ∷ Waits 32 A (call.Create (codes "d" ∷ codes "a" ∷ []))
          ∷ Answered 32 A (call.Create (codes "d" ∷ codes "a" ∷ [])) (answer.Reply reply.Ok) (Some 8) ∷ Waits 33 A (call.Chown [] 5)
          ∷ Answered 33 A (call.Chown [] 5) (answer.Reply reply.Ok) (Some 9)
          ∷ Answered 34 A (call.Create (codes "b" ∷ [])) (answer.Reply reply.Ok) (Some 10)
          ∷ Waits 35 B (call.Rename (codes "d" ∷ []) (codes "d" ∷ [])) ∷ Durable A (9 ∷ 10 ∷ []) ∷ Durable A (7 ∷ 8 ∷ [])
          ∷ Answered 35 B (call.Rename (codes "d" ∷ []) (codes "d" ∷ [])) (answer.Reply reply.Ok) None
          ∷ Answered 36 B (call.List (codes "d" ∷ [])) (answer.Reply (reply.Names (codes "a" ∷ codes "b" ∷ []))) None ∷ Ended A [] ∷ Told A []
          ∷ Waits 38 B (call.Mkdir (codes "d" ∷ codes "k" ∷ []))
          ∷ Answered 38 B (call.Mkdir (codes "d" ∷ codes "k" ∷ [])) (answer.Reply reply.Ok) (Some 3)
          ∷ Waits 39 B (call.Forder ([] ∷ (codes "d" ∷ []) ∷ (codes "d" ∷ codes "b" ∷ []) ∷ []))
          ∷ Answered 39 B (call.Forder ([] ∷ (codes "d" ∷ []) ∷ (codes "d" ∷ codes "b" ∷ []) ∷ [])) (answer.Reply reply.Ok) (Some 4)
          ∷ Waits 40 B (call.Write (codes "d" ∷ codes "a" ∷ []) 4 (codes "bx"))
          ∷ Answered 40 B (call.Write (codes "d" ∷ codes "a" ∷ []) 4 (codes "bx")) (answer.Reply reply.Ok) (Some 5)
          ∷ Waits 41 B (call.Rename (codes "a" ∷ []) (codes "d" ∷ codes "e" ∷ codes "a" ∷ []))
          ∷ Answered 41 B (call.Rename (codes "a" ∷ []) (codes "d" ∷ codes "e" ∷ codes "a" ∷ [])) (answer.Reply (reply.Refused (no.NotFound 2))) None
          ∷ Nothing ∷ Waits 43 A (call.Forder ((codes "b" ∷ []) ∷ [])) ∷ Durable B (3 ∷ 4 ∷ [])
          ∷ Answered 43 A (call.Forder ((codes "b" ∷ []) ∷ [])) (answer.Reply reply.Ok) (Some 11)
          ∷ Answered 44 A (call.Rename (codes "b" ∷ []) (codes "b" ∷ [])) (answer.Reply reply.Ok) None ∷ Nothing ∷ Nothing
          ∷ Waits 48 A (call.Remove (codes "d" ∷ codes "a" ∷ [])) ∷ Durable B (5 ∷ [])
          ∷ Answered 48 A (call.Remove (codes "d" ∷ codes "a" ∷ [])) (answer.Reply reply.Ok) (Some 12)
          ∷ Waits 50 A (call.Create (codes "d" ∷ codes "a" ∷ []))
          ∷ Answered 50 A (call.Create (codes "d" ∷ codes "a" ∷ [])) (answer.Reply reply.Ok) (Some 13)
          ∷ Waits 51 B (call.Read (codes "d" ∷ codes "a" ∷ []) 1 64) ∷ Durable A (12 ∷ 13 ∷ []) ∷ Crashed B ∷ Nothing
          ∷ Waits 55 A (call.Write (codes "a" ∷ []) 0 (codes "yz"))
          ∷ Answered 56 A (call.Stat (codes "b" ∷ [])) (answer.Reply (reply.Stat kind.File 420 0 0 0)) None
          ∷ Waits 57 B (call.Write (codes "d" ∷ codes "b" ∷ []) 1 (codes "z"))
          ∷ Answered 58 A (call.Create (codes "b" ∷ [])) (answer.Reply (reply.Refused no.Exists)) None ∷ Ended B []
          ∷ Answered 55 A (call.Write (codes "a" ∷ []) 0 (codes "yz")) (answer.Reply reply.Ok) (Some 14) ∷ Waits 60 B (call.Stat []) ∷ [];
      status = 0;
    }

abbrev pub crash_18 : Run
crash_18 =
    record {
      lines =
          reads (line.Call A (call.Mkdir (codes "d" ∷ []))) 9 ∷ reads (line.Call B (call.Create (codes "a" ∷ []))) 10
          ∷ reads (line.Call B (call.Write (codes "a" ∷ []) 0 (codes "abcdefgh"))) 14
          ∷ reads (line.Call A (call.Create (codes "d" ∷ codes "a" ∷ []))) 10
          ∷ reads (line.Call A (call.Write (codes "d" ∷ codes "a" ∷ []) 0 (codes "abcdefgh"))) 16
          ∷ reads (line.Call B (call.Create (codes "e" ∷ codes "a" ∷ []))) 10
          ∷ reads (line.Call B (call.Write (codes "e" ∷ codes "a" ∷ []) 0 (codes "abcdefgh"))) 16
          ∷ reads (line.Call B (call.Rename (codes "d" ∷ []) (codes "d" ∷ []))) 13 ∷ reads (line.Uncut B) 7 ∷ reads (line.Call B (call.Touch [] 1)) 11
          ∷ reads (line.Call A call.Sync) 3 ∷ reads (line.Call A (call.Write (codes "a" ∷ []) 2 (codes "ax"))) 14
          ∷ reads (line.Call A (call.Write (codes "a" ∷ []) 1 (codes "ab"))) 14 ∷ reads (line.Push A 5) 8
          ∷ reads (line.Call B (call.Write (codes "e" ∷ codes "a" ∷ []) 1 (codes "bc"))) 16
          ∷ reads (line.Call B (call.Write (codes "e" ∷ codes "a" ∷ []) 0 (codes "y"))) 16
          ∷ reads (line.Call B (call.Write (codes "e" ∷ codes "a" ∷ []) 4 (codes "xz"))) 16 ∷ reads (line.Push B 3) 8
          ∷ reads (line.Call B (call.Chown (codes "d" ∷ []) 2)) 12 ∷ reads (line.Call B (call.Write (codes "e" ∷ codes "a" ∷ []) 4 (codes "b"))) 16
          ∷ reads (line.Call B (call.Write (codes "e" ∷ codes "a" ∷ []) 2 (codes "bb"))) 16
          ∷ reads (line.Call B (call.Write (codes "e" ∷ codes "a" ∷ []) 3 (codes "x"))) 16 ∷ reads (line.Push B 4) 8
          ∷ reads (line.Call A (call.Write (codes "a" ∷ []) 2 (codes "ay"))) 14 ∷ reads (line.Call A (call.Write (codes "a" ∷ []) 5 (codes "bx"))) 14
          ∷ reads (line.Resend B) 8 ∷ reads (line.End B) 5 ∷ reads (line.Call B (call.Read (codes "d" ∷ codes "a" ∷ []) 3 0)) 15
          ∷ reads (line.Call A (call.Rename (codes "d" ∷ codes "a" ∷ []) (codes "d" ∷ codes "a" ∷ []))) 15
          ∷ reads (line.Call B (call.Stat (codes "a" ∷ []))) 8 ∷ reads (line.Call B (call.Stat (codes "d" ∷ codes "a" ∷ []))) 8 ∷ reads (line.Cut A) 5
          ∷ reads (line.Call B (call.Write (codes "a" ∷ []) 1 (codes "yx"))) 14 ∷ reads (line.Call B (call.Write (codes "a" ∷ []) 5 (codes "xy"))) 14
          ∷ reads (line.Cut B) 5 ∷ reads (line.Call A (call.Remove (codes "a" ∷ []))) 10
          ∷ reads (line.Call B (call.Write (codes "a" ∷ []) 0 (codes "yb"))) 14 ∷ reads (line.Call B (call.Fsync (codes "d" ∷ codes "a" ∷ []))) 9
          ∷ reads (line.Call A (call.Read (codes "d" ∷ codes "a" ∷ []) 0 0)) 15 ∷ reads (line.Call A (call.Write (codes "a" ∷ []) 3 (codes "ya"))) 14
          ∷ reads (line.Call B (call.Write (codes "a" ∷ []) 1 (codes "yzzxc"))) 14
          ∷ reads (line.Call B (call.Write (codes "a" ∷ []) 3 (codes "ac"))) 14
          ∷ reads (line.Call A (call.Write (codes "d" ∷ codes "a" ∷ []) 5 (codes "b"))) 16
          ∷ reads (line.Call A (call.Write (codes "d" ∷ codes "a" ∷ []) 3 (codes "xb"))) 16 ∷ reads (line.Crash A) 7
          ∷ reads (line.Call A (call.Rename (codes "d" ∷ codes "a" ∷ []) (codes "a" ∷ []))) 15
          ∷ reads (line.Call B (call.Fsync (codes "d" ∷ codes "a" ∷ []))) 9 ∷ reads (line.Uncut A) 7
          ∷ reads (line.Call A (call.Write (codes "d" ∷ codes "a" ∷ []) 3 (codes "a"))) 16 ∷ reads (line.Call A (call.Chmod (codes "d" ∷ []) 4095)) 12
          ∷ reads (line.Call B (call.Write (codes "a" ∷ []) 1 (codes "a"))) 14 ∷ reads (line.Call B (call.Write (codes "a" ∷ []) 1 (codes "a"))) 14
          ∷ reads (line.Call B (call.List (codes "d" ∷ []))) 8 ∷ reads (line.Call B (call.Remove (codes "a" ∷ []))) 10
          ∷ reads (line.Call A (call.Create (codes "a" ∷ []))) 10 ∷ reads (line.Call B (call.Touch (codes "d" ∷ codes "a" ∷ []) 3)) 14
          ∷ reads (line.End B) 5 ∷ reads (line.Call B (call.Remove (codes "a" ∷ []))) 10 ∷ reads (line.Call B (call.Stat [])) 8
          ∷ reads (line.Uncut B) 7 ∷ reads (line.Call B (call.Stat (codes "d" ∷ codes "a2" ∷ []))) 8
          ∷ reads (line.Call B (call.Read (codes "a" ∷ []) 0 9)) 13 ∷ reads (line.Call B (call.Read (codes "d" ∷ codes "a" ∷ []) 0 9)) 15
          ∷ reads (line.Resend A) 8 ∷ reads (line.Resend B) 8 ∷ reads (line.Resend A) 8 ∷ reads (line.Resend B) 8
          ∷ reads (line.Call A (call.List [])) 8 ∷ reads (line.Call B (call.List [])) 8 ∷ reads (line.Call B (call.Read (codes "a" ∷ []) 0 64)) 13
          ∷ reads (line.Call B (call.Read (codes "d" ∷ codes "a" ∷ []) 0 64)) 15
          ∷ reads (line.Call A (call.Read (codes "e" ∷ codes "a" ∷ []) 0 64)) 15 ∷ [];
      fates = [];
      max_objects = 1024;
      shown =
          Waits 1 A (call.Mkdir (codes "d" ∷ [])) ∷ Answered 1 A (call.Mkdir (codes "d" ∷ [])) (answer.Reply reply.Ok) (Some 1)
          ∷ Waits 2 B (call.Create (codes "a" ∷ [])) ∷ Durable A (1 ∷ [])
          ∷ Answered 2 B (call.Create (codes "a" ∷ [])) (answer.Reply reply.Ok) (Some 1)
          ∷ Answered 3 B (call.Write (codes "a" ∷ []) 0 (codes "abcdefgh")) (answer.Reply reply.Ok) (Some 2)
          ∷ Waits 4 A (call.Create (codes "d" ∷ codes "a" ∷ [])) ∷ Durable B (1 ∷ [])
          ∷ Answered 4 A (call.Create (codes "d" ∷ codes "a" ∷ [])) (answer.Reply reply.Ok) (Some 2)
          ∷ Answered 5 A (call.Write (codes "d" ∷ codes "a" ∷ []) 0 (codes "abcdefgh")) (answer.Reply reply.Ok) (Some 3)
          ∷ Answered 6 B (call.Create (codes "e" ∷ codes "a" ∷ [])) (answer.Reply (reply.Refused (no.NotFound 1))) None
          ∷ Answered 7 B (call.Write (codes "e" ∷ codes "a" ∷ []) 0 (codes "abcdefgh")) (answer.Reply (reply.Refused (no.NotFound 1))) None
          ∷ Waits 8 B (call.Rename (codes "d" ∷ []) (codes "d" ∷ [])) ∷ Durable A (2 ∷ [])
          ∷ Answered 8 B (call.Rename (codes "d" ∷ []) (codes "d" ∷ [])) (answer.Reply reply.Ok) None ∷ Nothing ∷ Waits 10 B (call.Touch [] 1)
          ∷ Answered 10 B (call.Touch [] 1) (answer.Reply reply.Ok) (Some 3) ∷ Waits 11 A call.Sync ∷ Durable A (3 ∷ [])
          ∷ Answered 11 A call.Sync (answer.Reply reply.Ok) None ∷ Waits 12 A (call.Write (codes "a" ∷ []) 2 (codes "ax")) ∷ Durable B (3 ∷ [])
          ∷ Durable B (2 ∷ []) ∷ Answered 12 A (call.Write (codes "a" ∷ []) 2 (codes "ax")) (answer.Reply reply.Ok) (Some 4)
          ∷ Answered 13 A (call.Write (codes "a" ∷ []) 1 (codes "ab")) (answer.Reply reply.Ok) (Some 5) ∷ Durable A (4 ∷ 5 ∷ [])
          ∷ Answered 15 B (call.Write (codes "e" ∷ codes "a" ∷ []) 1 (codes "bc")) (answer.Reply (reply.Refused (no.NotFound 1))) None
          ∷ Answered 16 B (call.Write (codes "e" ∷ codes "a" ∷ []) 0 (codes "y")) (answer.Reply (reply.Refused (no.NotFound 1))) None
          ∷ Answered 17 B (call.Write (codes "e" ∷ codes "a" ∷ []) 4 (codes "xz")) (answer.Reply (reply.Refused (no.NotFound 1))) None ∷ Nothing
          ∷ Waits 19 B (call.Chown (codes "d" ∷ []) 2) ∷ Answered 19 B (call.Chown (codes "d" ∷ []) 2) (answer.Reply reply.Ok) (Some 4)
          ∷ Answered 20 B (call.Write (codes "e" ∷ codes "a" ∷ []) 4 (codes "b")) (answer.Reply (reply.Refused (no.NotFound 1))) None
          ∷ Answered 21 B (call.Write (codes "e" ∷ codes "a" ∷ []) 2 (codes "bb")) (answer.Reply (reply.Refused (no.NotFound 1))) None
          ∷ Answered 22 B (call.Write (codes "e" ∷ codes "a" ∷ []) 3 (codes "x")) (answer.Reply (reply.Refused (no.NotFound 1))) None
          ∷ Durable B (4 ∷ []) ∷ Answered 24 A (call.Write (codes "a" ∷ []) 2 (codes "ay")) (answer.Reply reply.Ok) (Some 6)
          ∷ Answered 25 A (call.Write (codes "a" ∷ []) 5 (codes "bx")) (answer.Reply reply.Ok) (Some 7) ∷ Ended B [] ∷ Told B []
          ∷ Waits 28 B (call.Read (codes "d" ∷ codes "a" ∷ []) 3 0)
          ∷ Answered 28 B (call.Read (codes "d" ∷ codes "a" ∷ []) 3 0) (answer.Reply (reply.Data [])) None
          ∷ Waits 29 A (call.Rename (codes "d" ∷ codes "a" ∷ []) (codes "d" ∷ codes "a" ∷ []))
          ∷ Answered 29 A (call.Rename (codes "d" ∷ codes "a" ∷ []) (codes "d" ∷ codes "a" ∷ [])) (answer.Reply reply.Ok) None
          ∷ Waits 30 B (call.Stat (codes "a" ∷ [])) ∷ Durable A (6 ∷ 7 ∷ [])
          ∷ Answered 30 B (call.Stat (codes "a" ∷ [])) (answer.Reply (reply.Stat kind.File 420 0 0 8)) None
          ∷ Answered 31 B (call.Stat (codes "d" ∷ codes "a" ∷ [])) (answer.Reply (reply.Stat kind.File 420 0 0 8)) None
          ∷ Waits 33 B (call.Write (codes "a" ∷ []) 1 (codes "yx")) ∷ Waits 34 B (call.Write (codes "a" ∷ []) 5 (codes "xy"))
          ∷ Waits 36 A (call.Remove (codes "a" ∷ [])) ∷ Waits 37 B (call.Write (codes "a" ∷ []) 0 (codes "yb"))
          ∷ Answered 38 B (call.Fsync (codes "d" ∷ codes "a" ∷ [])) (answer.Reply reply.Ok) None
          ∷ Answered 39 A (call.Read (codes "d" ∷ codes "a" ∷ []) 0 0) (answer.Reply (reply.Data [])) None
          ∷ Waits 40 A (call.Write (codes "a" ∷ []) 3 (codes "ya")) ∷ Waits 41 B (call.Write (codes "a" ∷ []) 1 (codes "yzzxc"))
          ∷ Waits 42 B (call.Write (codes "a" ∷ []) 3 (codes "ac")) ∷ Waits 43 A (call.Write (codes "d" ∷ codes "a" ∷ []) 5 (codes "b"))
          ∷ Waits 44 A (call.Write (codes "d" ∷ codes "a" ∷ []) 3 (codes "xb")) ∷ Crashed A
          ∷ Waits 46 A (call.Rename (codes "d" ∷ codes "a" ∷ []) (codes "a" ∷ []))
          ∷ Answered 47 B (call.Fsync (codes "d" ∷ codes "a" ∷ [])) (answer.Reply reply.Ok) None ∷ Ended A []
          ∷ Waits 49 A (call.Write (codes "d" ∷ codes "a" ∷ []) 3 (codes "a")) ∷ Waits 50 A (call.Chmod (codes "d" ∷ []) 4095)
          ∷ Waits 51 B (call.Write (codes "a" ∷ []) 1 (codes "a")) ∷ Waits 52 B (call.Write (codes "a" ∷ []) 1 (codes "a"))
          ∷ Answered 53 B (call.List (codes "d" ∷ [])) (answer.Reply (reply.Names (codes "a" ∷ []))) None ∷ Waits 54 B (call.Remove (codes "a" ∷ []))
          ∷ Answered 55 A (call.Create (codes "a" ∷ [])) (answer.Reply (reply.Refused no.Exists)) None
          ∷ Waits 56 B (call.Touch (codes "d" ∷ codes "a" ∷ []) 3) ∷ Ended B []
          ∷ Answered 49 A (call.Write (codes "d" ∷ codes "a" ∷ []) 3 (codes "a")) (answer.Reply reply.Ok) (Some 1)
          ∷ Answered 50 A (call.Chmod (codes "d" ∷ []) 4095) (answer.Reply reply.Ok) (Some 2)
          ∷ Answered 46 A (call.Rename (codes "d" ∷ codes "a" ∷ []) (codes "a" ∷ [])) (answer.Reply reply.Ok) (Some 3)
          ∷ Waits 58 B (call.Remove (codes "a" ∷ [])) ∷ Answered 59 B (call.Stat []) (answer.Reply (reply.Stat kind.Dir 493 1 0 2)) None ∷ Told B []
          ∷ Durable A (1 ∷ 2 ∷ 3 ∷ []) ∷ Answered 56 B (call.Touch (codes "d" ∷ codes "a" ∷ []) 3) (answer.Reply (reply.Refused (no.NotFound 2))) None
          ∷ Answered 33 B (call.Write (codes "a" ∷ []) 1 (codes "yx")) (answer.Reply reply.Ok) (Some 5)
          ∷ Answered 34 B (call.Write (codes "a" ∷ []) 5 (codes "xy")) (answer.Reply reply.Ok) (Some 6)
          ∷ Answered 37 B (call.Write (codes "a" ∷ []) 0 (codes "yb")) (answer.Reply reply.Ok) (Some 7)
          ∷ Answered 41 B (call.Write (codes "a" ∷ []) 1 (codes "yzzxc")) (answer.Reply reply.Ok) (Some 8)
          ∷ Answered 42 B (call.Write (codes "a" ∷ []) 3 (codes "ac")) (answer.Reply reply.Ok) (Some 9)
          ∷ Answered 51 B (call.Write (codes "a" ∷ []) 1 (codes "a")) (answer.Reply reply.Ok) (Some 10)
          ∷ Answered 52 B (call.Write (codes "a" ∷ []) 1 (codes "a")) (answer.Reply reply.Ok) (Some 11)
          ∷ Answered 54 B (call.Remove (codes "a" ∷ [])) (answer.Reply reply.Ok) (Some 12)
          ∷ Answered 58 B (call.Remove (codes "a" ∷ [])) (answer.Reply (reply.Refused (no.NotFound 1))) None
          ∷ Answered 61 B (call.Stat (codes "d" ∷ codes "a2" ∷ [])) (answer.Reply (reply.Refused (no.NotFound 2))) None
          ∷ Answered 62 B (call.Read (codes "a" ∷ []) 0 9) (answer.Reply (reply.Refused (no.NotFound 1))) None
          ∷ Answered 63 B (call.Read (codes "d" ∷ codes "a" ∷ []) 0 9) (answer.Reply (reply.Refused (no.NotFound 2))) None ∷ Waits 68 A (call.List [])
          ∷ Durable B (5 ∷ 6 ∷ 7 ∷ 8 ∷ 9 ∷ 10 ∷ 11 ∷ 12 ∷ []) ∷ Answered 68 A (call.List []) (answer.Reply (reply.Names (codes "d" ∷ []))) None
          ∷ Answered 69 B (call.List []) (answer.Reply (reply.Names (codes "d" ∷ []))) None
          ∷ Answered 70 B (call.Read (codes "a" ∷ []) 0 64) (answer.Reply (reply.Refused (no.NotFound 1))) None
          ∷ Answered 71 B (call.Read (codes "d" ∷ codes "a" ∷ []) 0 64) (answer.Reply (reply.Refused (no.NotFound 2))) None
          ∷ Answered 72 A (call.Read (codes "e" ∷ codes "a" ∷ []) 0 64) (answer.Reply (reply.Refused (no.NotFound 1))) None ∷ [];
      status = 0;
    }

abbrev pub crash_19 : Run
crash_19 =
    record {
      lines =
          reads (line.Call A (call.Mkdir (codes "d" ∷ []))) 9 ∷ reads (line.Call C (call.Create (codes "a" ∷ []))) 10
          ∷ reads (line.Call C (call.Write (codes "a" ∷ []) 0 (codes "abcdefgh"))) 14 ∷ reads (line.Call B (call.Create (codes "b" ∷ []))) 10
          ∷ reads (line.Call B (call.Write (codes "b" ∷ []) 0 (codes "abcdefgh"))) 14 ∷ reads (line.Call A call.Sync) 3
          ∷ reads (line.Call B call.Sync) 3 ∷ reads (line.Call C call.Sync) 3
          ∷ reads (line.Call A (call.Rename (codes "b" ∷ []) (codes "d" ∷ codes "a" ∷ []))) 13 ∷ reads (line.Push B 1) 8
          ∷ reads (line.Call A (call.Mkdir (codes "d" ∷ codes "e" ∷ []))) 9
          ∷ reads (line.Call C (call.Write (codes "d" ∷ codes "a" ∷ []) 0 (codes "byyxx"))) 16
          ∷ reads (line.Call A (call.Create (codes "d" ∷ codes "e" ∷ codes "a" ∷ []))) 10
          ∷ reads (line.Call B (call.Write (codes "d" ∷ codes "e" ∷ codes "a" ∷ []) 3 (codes "ax"))) 18
          ∷ reads (line.Call B (call.Write (codes "d" ∷ codes "e" ∷ codes "a" ∷ []) 5 (codes "b"))) 18 ∷ reads (line.Push B 3) 8
          ∷ reads (line.Call A (call.Read (codes "d" ∷ codes "e" ∷ codes "a" ∷ []) 1 9)) 17 ∷ reads (line.Resend C) 8
          ∷ reads (line.Call B (call.List (codes "d" ∷ codes "k" ∷ []))) 8 ∷ reads (line.Call C (call.Create (codes "b" ∷ []))) 10
          ∷ reads (line.Call C (call.Stat [])) 8 ∷ reads (line.Call A (call.Mkdir (codes "e" ∷ []))) 9
          ∷ reads (line.Call C (call.Fsync (codes "e" ∷ []))) 9
          ∷ reads (line.Call C (call.Write (codes "d" ∷ codes "e" ∷ codes "a" ∷ []) 0 (codes "x"))) 18
          ∷ reads (line.Call C (call.Write (codes "d" ∷ codes "e" ∷ codes "a" ∷ []) 3 (codes "y"))) 18
          ∷ reads (line.Call C (call.Write (codes "d" ∷ codes "e" ∷ codes "a" ∷ []) 0 (codes "c"))) 18
          ∷ reads (line.Call A (call.Chmod (codes "d" ∷ codes "e" ∷ codes "a" ∷ []) 384)) 16 ∷ reads (line.Push C 6) 8
          ∷ reads (line.Call C (call.Write (codes "d" ∷ codes "a" ∷ []) 3 (codes "c"))) 16
          ∷ reads (line.Call C (call.Write (codes "d" ∷ codes "a" ∷ []) 1 (codes "zy"))) 16 ∷ reads (line.Push B 1) 8
          ∷ reads (line.Call A (call.Rename (codes "d" ∷ codes "b" ∷ []) (codes "d" ∷ codes "b" ∷ []))) 15
          ∷ reads (line.Call C (call.Create (codes "e" ∷ codes "a" ∷ []))) 10 ∷ reads (line.Call A (call.Create (codes "d" ∷ codes "b" ∷ []))) 10
          ∷ reads (line.Call A (call.Mkdir (codes "d" ∷ codes "k" ∷ []))) 9 ∷ reads (line.Call A (call.Remove (codes "b" ∷ []))) 10
          ∷ reads (line.Call A (call.Write (codes "a" ∷ []) 3 (codes "zz"))) 14 ∷ reads (line.Call A (call.Write (codes "a" ∷ []) 2 (codes "ba"))) 14
          ∷ reads (line.Call A (call.Write (codes "a" ∷ []) 5 (codes "cy"))) 14 ∷ reads (line.Push C 7) 8 ∷ reads (line.Call A (call.List [])) 8
          ∷ reads (line.Call A (call.Remove (codes "d" ∷ codes "a" ∷ []))) 10 ∷ reads (line.Call B (call.Touch (codes "d" ∷ codes "b" ∷ []) 0)) 14
          ∷ reads (line.Push A 13) 8 ∷ reads (line.Call B (call.Write (codes "e" ∷ codes "a" ∷ []) 1 (codes "y"))) 16
          ∷ reads (line.Call B (call.Write (codes "e" ∷ codes "a" ∷ []) 5 (codes "xy"))) 16
          ∷ reads (line.Call B (call.Write (codes "e" ∷ codes "a" ∷ []) 5 (codes "cz"))) 16
          ∷ reads (line.Call B (call.Create (codes "d" ∷ codes "b" ∷ []))) 10
          ∷ reads (line.Call B (call.Write (codes "e" ∷ codes "a" ∷ []) 1 (codes "by"))) 16
          ∷ reads (line.Call C (call.Touch (codes "d" ∷ codes "k" ∷ []) 6)) 14
          ∷ reads (line.Call A (call.Write (codes "e" ∷ codes "a" ∷ []) 5 (codes "c"))) 16
          ∷ reads (line.Call A (call.Write (codes "e" ∷ codes "a" ∷ []) 0 (codes "x"))) 16 ∷ reads (line.Repeat A msg.Back 20) 15
          ∷ reads (line.Cut B) 5 ∷ reads (line.Call B (call.Rename (codes "d" ∷ codes "b" ∷ []) (codes "d" ∷ codes "b2" ∷ []))) 15
          ∷ reads (line.Call C (call.Chmod (codes "a" ∷ []) 4095)) 12
          ∷ reads (line.Call C (call.Write (codes "d" ∷ codes "b" ∷ []) 4 (codes "zxc"))) 16
          ∷ reads (line.Call B (call.Mkdir (codes "d" ∷ codes "e" ∷ []))) 9
          ∷ reads (line.Call B (call.Write (codes "e" ∷ codes "a" ∷ []) 0 (codes "zxzyc"))) 16 ∷ reads (line.Crash A) 7 ∷ [];
      fates = [];
      max_objects = 1024;
      shown =
          Waits 1 A (call.Mkdir (codes "d" ∷ [])) ∷ Answered 1 A (call.Mkdir (codes "d" ∷ [])) (answer.Reply reply.Ok) (Some 1)
          ∷ Waits 2 C (call.Create (codes "a" ∷ [])) ∷ Durable A (1 ∷ [])
          ∷ Answered 2 C (call.Create (codes "a" ∷ [])) (answer.Reply reply.Ok) (Some 1)
          ∷ Answered 3 C (call.Write (codes "a" ∷ []) 0 (codes "abcdefgh")) (answer.Reply reply.Ok) (Some 2)
          ∷ Waits 4 B (call.Create (codes "b" ∷ [])) ∷ Durable C (1 ∷ [])
          ∷ Answered 4 B (call.Create (codes "b" ∷ [])) (answer.Reply reply.Ok) (Some 1)
          ∷ Answered 5 B (call.Write (codes "b" ∷ []) 0 (codes "abcdefgh")) (answer.Reply reply.Ok) (Some 2)
          ∷ Answered 6 A call.Sync (answer.Reply reply.Ok) None ∷ Waits 7 B call.Sync ∷ Durable B (1 ∷ 2 ∷ [])
          ∷ Answered 7 B call.Sync (answer.Reply reply.Ok) None ∷ Waits 8 C call.Sync ∷ Durable C (2 ∷ [])
          ∷ Answered 8 C call.Sync (answer.Reply reply.Ok) None ∷ Waits 9 A (call.Rename (codes "b" ∷ []) (codes "d" ∷ codes "a" ∷ []))
          ∷ Answered 9 A (call.Rename (codes "b" ∷ []) (codes "d" ∷ codes "a" ∷ [])) (answer.Reply reply.Ok) (Some 2) ∷ Nothing
          ∷ Answered 11 A (call.Mkdir (codes "d" ∷ codes "e" ∷ [])) (answer.Reply reply.Ok) (Some 3)
          ∷ Waits 12 C (call.Write (codes "d" ∷ codes "a" ∷ []) 0 (codes "byyxx")) ∷ Durable A (2 ∷ []) ∷ Durable A (3 ∷ [])
          ∷ Answered 12 C (call.Write (codes "d" ∷ codes "a" ∷ []) 0 (codes "byyxx")) (answer.Reply reply.Ok) (Some 3)
          ∷ Answered 13 A (call.Create (codes "d" ∷ codes "e" ∷ codes "a" ∷ [])) (answer.Reply reply.Ok) (Some 4)
          ∷ Waits 14 B (call.Write (codes "d" ∷ codes "e" ∷ codes "a" ∷ []) 3 (codes "ax")) ∷ Durable A (4 ∷ [])
          ∷ Answered 14 B (call.Write (codes "d" ∷ codes "e" ∷ codes "a" ∷ []) 3 (codes "ax")) (answer.Reply reply.Ok) (Some 3)
          ∷ Answered 15 B (call.Write (codes "d" ∷ codes "e" ∷ codes "a" ∷ []) 5 (codes "b")) (answer.Reply reply.Ok) (Some 4) ∷ Durable B (3 ∷ [])
          ∷ Waits 17 A (call.Read (codes "d" ∷ codes "e" ∷ codes "a" ∷ []) 1 9) ∷ Durable B (4 ∷ [])
          ∷ Answered 17 A (call.Read (codes "d" ∷ codes "e" ∷ codes "a" ∷ []) 1 9) (answer.Reply (reply.Data (0 ∷ 0 ∷ 97 ∷ 120 ∷ 98 ∷ []))) None
          ∷ Answered 19 B (call.List (codes "d" ∷ codes "k" ∷ [])) (answer.Reply (reply.Refused (no.NotFound 2))) None
          ∷ Waits 20 C (call.Create (codes "b" ∷ [])) ∷ Answered 20 C (call.Create (codes "b" ∷ [])) (answer.Reply reply.Ok) (Some 4)
          ∷ Answered 21 C (call.Stat []) (answer.Reply (reply.Stat kind.Dir 493 0 0 3)) None ∷ Waits 22 A (call.Mkdir (codes "e" ∷ []))
          ∷ Durable C (4 ∷ []) ∷ Answered 22 A (call.Mkdir (codes "e" ∷ [])) (answer.Reply reply.Ok) (Some 5)
          ∷ Waits 23 C (call.Fsync (codes "e" ∷ [])) ∷ Durable A (5 ∷ []) ∷ Answered 23 C (call.Fsync (codes "e" ∷ [])) (answer.Reply reply.Ok) None
          ∷ Waits 24 C (call.Write (codes "d" ∷ codes "e" ∷ codes "a" ∷ []) 0 (codes "x"))
          ∷ Answered 24 C (call.Write (codes "d" ∷ codes "e" ∷ codes "a" ∷ []) 0 (codes "x")) (answer.Reply reply.Ok) (Some 5)
          ∷ Answered 25 C (call.Write (codes "d" ∷ codes "e" ∷ codes "a" ∷ []) 3 (codes "y")) (answer.Reply reply.Ok) (Some 6)
          ∷ Answered 26 C (call.Write (codes "d" ∷ codes "e" ∷ codes "a" ∷ []) 0 (codes "c")) (answer.Reply reply.Ok) (Some 7)
          ∷ Waits 27 A (call.Chmod (codes "d" ∷ codes "e" ∷ codes "a" ∷ []) 384) ∷ Durable C (5 ∷ 6 ∷ 7 ∷ [])
          ∷ Answered 27 A (call.Chmod (codes "d" ∷ codes "e" ∷ codes "a" ∷ []) 384) (answer.Reply reply.Ok) (Some 6) ∷ Nothing
          ∷ Answered 29 C (call.Write (codes "d" ∷ codes "a" ∷ []) 3 (codes "c")) (answer.Reply reply.Ok) (Some 8)
          ∷ Answered 30 C (call.Write (codes "d" ∷ codes "a" ∷ []) 1 (codes "zy")) (answer.Reply reply.Ok) (Some 9) ∷ Nothing
          ∷ Answered 32 A (call.Rename (codes "d" ∷ codes "b" ∷ []) (codes "d" ∷ codes "b" ∷ [])) (answer.Reply (reply.Refused (no.NotFound 2))) None
          ∷ Waits 33 C (call.Create (codes "e" ∷ codes "a" ∷ []))
          ∷ Answered 33 C (call.Create (codes "e" ∷ codes "a" ∷ [])) (answer.Reply reply.Ok) (Some 10)
          ∷ Waits 34 A (call.Create (codes "d" ∷ codes "b" ∷ []))
          ∷ Answered 34 A (call.Create (codes "d" ∷ codes "b" ∷ [])) (answer.Reply reply.Ok) (Some 7)
          ∷ Answered 35 A (call.Mkdir (codes "d" ∷ codes "k" ∷ [])) (answer.Reply reply.Ok) (Some 8) ∷ Waits 36 A (call.Remove (codes "b" ∷ []))
          ∷ Answered 36 A (call.Remove (codes "b" ∷ [])) (answer.Reply reply.Ok) (Some 9) ∷ Waits 37 A (call.Write (codes "a" ∷ []) 3 (codes "zz"))
          ∷ Answered 37 A (call.Write (codes "a" ∷ []) 3 (codes "zz")) (answer.Reply reply.Ok) (Some 10)
          ∷ Answered 38 A (call.Write (codes "a" ∷ []) 2 (codes "ba")) (answer.Reply reply.Ok) (Some 11)
          ∷ Answered 39 A (call.Write (codes "a" ∷ []) 5 (codes "cy")) (answer.Reply reply.Ok) (Some 12) ∷ Nothing
          ∷ Answered 41 A (call.List []) (answer.Reply (reply.Names (codes "a" ∷ codes "d" ∷ codes "e" ∷ []))) None
          ∷ Waits 42 A (call.Remove (codes "d" ∷ codes "a" ∷ [])) ∷ Durable C (3 ∷ 8 ∷ 9 ∷ [])
          ∷ Answered 42 A (call.Remove (codes "d" ∷ codes "a" ∷ [])) (answer.Reply reply.Ok) (Some 13)
          ∷ Waits 43 B (call.Touch (codes "d" ∷ codes "b" ∷ []) 0) ∷ Durable A (9 ∷ []) ∷ Durable A (7 ∷ 8 ∷ 13 ∷ [])
          ∷ Answered 43 B (call.Touch (codes "d" ∷ codes "b" ∷ []) 0) (answer.Reply reply.Ok) (Some 5) ∷ Nothing
          ∷ Waits 45 B (call.Write (codes "e" ∷ codes "a" ∷ []) 1 (codes "y")) ∷ Durable C (10 ∷ [])
          ∷ Answered 45 B (call.Write (codes "e" ∷ codes "a" ∷ []) 1 (codes "y")) (answer.Reply reply.Ok) (Some 6)
          ∷ Answered 46 B (call.Write (codes "e" ∷ codes "a" ∷ []) 5 (codes "xy")) (answer.Reply reply.Ok) (Some 7)
          ∷ Answered 47 B (call.Write (codes "e" ∷ codes "a" ∷ []) 5 (codes "cz")) (answer.Reply reply.Ok) (Some 8)
          ∷ Answered 48 B (call.Create (codes "d" ∷ codes "b" ∷ [])) (answer.Reply (reply.Refused no.Exists)) None
          ∷ Answered 49 B (call.Write (codes "e" ∷ codes "a" ∷ []) 1 (codes "by")) (answer.Reply reply.Ok) (Some 9)
          ∷ Waits 50 C (call.Touch (codes "d" ∷ codes "k" ∷ []) 6)
          ∷ Answered 50 C (call.Touch (codes "d" ∷ codes "k" ∷ []) 6) (answer.Reply reply.Ok) (Some 11)
          ∷ Waits 51 A (call.Write (codes "e" ∷ codes "a" ∷ []) 5 (codes "c")) ∷ Durable B (6 ∷ 7 ∷ 8 ∷ 9 ∷ [])
          ∷ Answered 51 A (call.Write (codes "e" ∷ codes "a" ∷ []) 5 (codes "c")) (answer.Reply reply.Ok) (Some 14)
          ∷ Answered 52 A (call.Write (codes "e" ∷ codes "a" ∷ []) 0 (codes "x")) (answer.Reply reply.Ok) (Some 15)
          ∷ Waits 55 B (call.Rename (codes "d" ∷ codes "b" ∷ []) (codes "d" ∷ codes "b2" ∷ [])) ∷ Waits 56 C (call.Chmod (codes "a" ∷ []) 4095)
          ∷ Durable A (10 ∷ 11 ∷ 12 ∷ []) ∷ Answered 56 C (call.Chmod (codes "a" ∷ []) 4095) (answer.Reply reply.Ok) (Some 12)
          ∷ Waits 57 C (call.Write (codes "d" ∷ codes "b" ∷ []) 4 (codes "zxc"))
          ∷ Answered 58 B (call.Mkdir (codes "d" ∷ codes "e" ∷ [])) (answer.Reply (reply.Refused no.Exists)) None
          ∷ Waits 59 B (call.Write (codes "e" ∷ codes "a" ∷ []) 0 (codes "zxzyc")) ∷ Crashed A ∷ [];
      status = 0;
    }

abbrev pub crash_20 : Run
crash_20 =
    record {
      lines =
          reads (line.End B) 5 ∷ reads (line.Call D (call.Read (codes "a" ∷ []) 3 9)) 13 ∷ reads (line.Deliver D msg.Grant 1) 17
          ∷ reads (line.Call A (call.Write (codes "b" ∷ []) 2 (codes "cacca"))) 14 ∷ reads (line.Call C (call.Create (codes "a" ∷ []))) 10
          ∷ reads (line.Push C 1) 8 ∷ reads (line.Repeat C msg.Hello 1) 16 ∷ reads (line.Call C call.Sync) 3 ∷ reads (line.Crash C) 7
          ∷ reads (line.Cut A) 5 ∷ reads (line.Call A (call.Touch (codes "a" ∷ []) 3)) 12 ∷ reads (line.End A) 5 ∷ reads (line.Uncut A) 7
          ∷ reads (line.Call A call.Sync) 3 ∷ reads (line.Call A (call.Read (codes "a" ∷ []) 0 9)) 13
          ∷ reads (line.Call A (call.Stat (codes "a2" ∷ []))) 8 ∷ reads (line.Repeat A msg.Ended 1) 16
          ∷ reads (line.Call A (call.Chown (codes "e" ∷ []) 5)) 12 ∷ reads (line.Cut B) 5 ∷ reads (line.Call B call.Sync) 3
          ∷ reads (line.Call B (call.Write (codes "d" ∷ codes "b" ∷ []) 0 (codes "q"))) 16 ∷ reads (line.Crash B) 7
          ∷ reads (line.Call C (call.Read (codes "a" ∷ []) 0 64)) 13 ∷ reads (line.Call B (call.Write (codes "a" ∷ []) 0 (codes "c"))) 14
          ∷ reads (line.Uncut B) 7 ∷ reads (line.Call B (call.Stat (codes "d" ∷ codes "b2" ∷ []))) 8
          ∷ reads (line.Call B (call.Read (codes "d" ∷ codes "b" ∷ []) 0 9)) 15 ∷ reads (line.Call B call.Sync) 3
          ∷ reads (line.Call A (call.Write (codes "a" ∷ []) 3 (codes "zzc"))) 14
          ∷ reads (line.Call A (call.Write (codes "a" ∷ []) 0 (codes "xcx"))) 14 ∷ reads (line.Call D (call.Remove (codes "a" ∷ []))) 10
          ∷ reads (line.Call C (call.Read (codes "d" ∷ codes "a" ∷ []) 1 2)) 15 ∷ reads (line.Call D (call.List [])) 8 ∷ reads (line.End C) 5
          ∷ reads (line.Call C (call.Create (codes "b" ∷ []))) 10 ∷ reads (line.Repeat A msg.Recall 5) 17
          ∷ reads (line.Call D (call.Write (codes "b" ∷ []) 2 (codes "c"))) 14 ∷ reads (line.Call D (call.Stat (codes "b" ∷ []))) 8
          ∷ reads (line.Call C (call.Forder ([] ∷ (codes "d" ∷ []) ∷ (codes "d" ∷ codes "a" ∷ []) ∷ []))) 15 ∷ reads (line.Repeat D msg.Back 2) 15
          ∷ reads (line.Call D (call.Chmod (codes "b" ∷ []) 384)) 12 ∷ reads (line.Call B (call.SetLen (codes "b" ∷ []) 0)) 13
          ∷ reads (line.Call A (call.Write (codes "b" ∷ []) 65535 (codes "xy"))) 18 ∷ reads (line.Call D (call.Fsync (codes "e" ∷ codes "a" ∷ []))) 9
          ∷ reads (line.Call B (call.Write (codes "b" ∷ []) 0 (codes "acx"))) 14 ∷ reads (line.Call A (call.Stat (codes "e" ∷ []))) 8
          ∷ reads (line.Call C (call.Write (codes "b" ∷ []) 0 (codes "x"))) 14 ∷ reads (line.Resend C) 8
          ∷ reads (line.Call C (call.Read (codes "b" ∷ []) 1 9)) 13 ∷ reads (line.Call A (call.Write (codes "b" ∷ []) 0 (codes "c"))) 14
          ∷ reads (line.Repeat A msg.Grant 7) 16 ∷ reads (line.Call B (call.List (codes "d" ∷ codes "k" ∷ []))) 8
          ∷ reads (line.Repeat C msg.Grant 2) 16 ∷ reads (line.Cut C) 5 ∷ reads (line.End C) 5
          ∷ reads (line.Call D (call.Rename (codes "b" ∷ []) (codes "b" ∷ []))) 13 ∷ reads (line.Call C (call.Stat [])) 8 ∷ reads (line.Uncut C) 7
          ∷ reads (line.Call C (call.Read (codes "b" ∷ []) 0 9)) 13 ∷ reads (line.Call C call.Sync) 3
          ∷ reads (line.Call C (call.Stat (codes "b2" ∷ []))) 8 ∷ reads (line.Resend A) 8 ∷ reads (line.Resend B) 8 ∷ reads (line.Resend C) 8
          ∷ reads (line.Resend D) 8 ∷ reads (line.Resend A) 8 ∷ reads (line.Resend B) 8 ∷ reads (line.Resend C) 8 ∷ reads (line.Resend D) 8
          ∷ reads (line.Call A (call.List [])) 8 ∷ reads (line.Call B (call.List [])) 8 ∷ reads (line.Call C (call.List [])) 8
          ∷ reads (line.Call D (call.List [])) 8 ∷ reads (line.Call D (call.Read (codes "a" ∷ []) 0 64)) 13
          ∷ reads (line.Call D (call.Read (codes "b" ∷ []) 0 64)) 13 ∷ reads (line.Call B (call.Read (codes "d" ∷ codes "a" ∷ []) 0 64)) 15 ∷ [];
      fates = [];
      max_objects = 1024;
      shown =
          Nothing ∷ Waits 2 D (call.Read (codes "a" ∷ []) 3 9)
          ∷ Answered 2 D (call.Read (codes "a" ∷ []) 3 9) (answer.Reply (reply.Refused (no.NotFound 1))) None
          ∷ Waits 4 A (call.Write (codes "b" ∷ []) 2 (codes "cacca"))
          ∷ Answered 4 A (call.Write (codes "b" ∷ []) 2 (codes "cacca")) (answer.Reply (reply.Refused (no.NotFound 1))) None
          ∷ Waits 5 C (call.Create (codes "a" ∷ [])) ∷ Answered 5 C (call.Create (codes "a" ∷ [])) (answer.Reply reply.Ok) (Some 1)
          ∷ Durable C (1 ∷ []) ∷ Answered 8 C call.Sync (answer.Reply reply.Ok) None ∷ Crashed C ∷ Waits 11 A (call.Touch (codes "a" ∷ []) 3)
          ∷ Ended A [] ∷ Told A [] ∷ Answered 14 A call.Sync (answer.Reply reply.Ok) None ∷ Waits 15 A (call.Read (codes "a" ∷ []) 0 9)
          ∷ Waits 16 A (call.Stat (codes "a2" ∷ [])) ∷ Waits 18 A (call.Chown (codes "e" ∷ []) 5)
          ∷ Answered 20 B call.Sync (answer.Reply reply.Ok) None ∷ Waits 21 B (call.Write (codes "d" ∷ codes "b" ∷ []) 0 (codes "q")) ∷ Crashed B
          ∷ Waits 23 C (call.Read (codes "a" ∷ []) 0 64) ∷ Ended C []
          ∷ Answered 16 A (call.Stat (codes "a2" ∷ [])) (answer.Reply (reply.Refused (no.NotFound 1))) None
          ∷ Answered 18 A (call.Chown (codes "e" ∷ []) 5) (answer.Reply (reply.Refused (no.NotFound 1))) None
          ∷ Answered 15 A (call.Read (codes "a" ∷ []) 0 9) (answer.Reply (reply.Data [])) None
          ∷ Answered 23 C (call.Read (codes "a" ∷ []) 0 64) (answer.Reply (reply.Data [])) None
          ∷ Answered 11 A (call.Touch (codes "a" ∷ []) 3) (answer.Reply reply.Ok) (Some 1) ∷ Waits 24 B (call.Write (codes "a" ∷ []) 0 (codes "c"))
          ∷ Unseen B ∷ Durable A (1 ∷ []) ∷ Answered 24 B (call.Write (codes "a" ∷ []) 0 (codes "c")) (answer.Reply reply.Ok) (Some 1)
          ∷ Answered 26 B (call.Stat (codes "d" ∷ codes "b2" ∷ [])) (answer.Reply (reply.Refused (no.NotFound 1))) None
          ∷ Answered 27 B (call.Read (codes "d" ∷ codes "b" ∷ []) 0 9) (answer.Reply (reply.Refused (no.NotFound 1))) None ∷ Waits 28 B call.Sync
          ∷ Durable B (1 ∷ []) ∷ Answered 28 B call.Sync (answer.Reply reply.Ok) None ∷ Waits 29 A (call.Write (codes "a" ∷ []) 3 (codes "zzc"))
          ∷ Answered 29 A (call.Write (codes "a" ∷ []) 3 (codes "zzc")) (answer.Reply reply.Ok) (Some 2)
          ∷ Answered 30 A (call.Write (codes "a" ∷ []) 0 (codes "xcx")) (answer.Reply reply.Ok) (Some 3) ∷ Waits 31 D (call.Remove (codes "a" ∷ []))
          ∷ Durable A (2 ∷ 3 ∷ []) ∷ Answered 31 D (call.Remove (codes "a" ∷ [])) (answer.Reply reply.Ok) (Some 1)
          ∷ Waits 32 C (call.Read (codes "d" ∷ codes "a" ∷ []) 1 2) ∷ Durable D (1 ∷ [])
          ∷ Answered 32 C (call.Read (codes "d" ∷ codes "a" ∷ []) 1 2) (answer.Reply (reply.Refused (no.NotFound 1))) None
          ∷ Answered 33 D (call.List []) (answer.Reply (reply.Names [])) None ∷ Ended C [] ∷ Told C [] ∷ Waits 35 C (call.Create (codes "b" ∷ []))
          ∷ Answered 35 C (call.Create (codes "b" ∷ [])) (answer.Reply reply.Ok) (Some 1) ∷ Waits 37 D (call.Write (codes "b" ∷ []) 2 (codes "c"))
          ∷ Durable C (1 ∷ []) ∷ Answered 37 D (call.Write (codes "b" ∷ []) 2 (codes "c")) (answer.Reply reply.Ok) (Some 2)
          ∷ Answered 38 D (call.Stat (codes "b" ∷ [])) (answer.Reply (reply.Stat kind.File 420 0 0 3)) None
          ∷ Answered 39 C (call.Forder ([] ∷ (codes "d" ∷ []) ∷ (codes "d" ∷ codes "a" ∷ []) ∷ [])) (answer.Reply (reply.Refused (no.NotFound 1))) None
          ∷ Answered 41 D (call.Chmod (codes "b" ∷ []) 384) (answer.Reply reply.Ok) (Some 3) ∷ Waits 42 B (call.SetLen (codes "b" ∷ []) 0)
          ∷ Durable D (2 ∷ 3 ∷ []) ∷ Answered 42 B (call.SetLen (codes "b" ∷ []) 0) (answer.Reply reply.Ok) (Some 2)
          ∷ Waits 43 A (call.Write (codes "b" ∷ []) 65535 (codes "xy")) ∷ Durable B (2 ∷ [])
          ∷ Answered 43 A (call.Write (codes "b" ∷ []) 65535 (codes "xy")) (answer.Reply (reply.Refused no.TooLong)) None
          ∷ Answered 44 D (call.Fsync (codes "e" ∷ codes "a" ∷ [])) (answer.Reply (reply.Refused (no.NotFound 1))) None
          ∷ Waits 45 B (call.Write (codes "b" ∷ []) 0 (codes "acx"))
          ∷ Answered 45 B (call.Write (codes "b" ∷ []) 0 (codes "acx")) (answer.Reply reply.Ok) (Some 3)
          ∷ Answered 46 A (call.Stat (codes "e" ∷ [])) (answer.Reply (reply.Refused (no.NotFound 1))) None
          ∷ Waits 47 C (call.Write (codes "b" ∷ []) 0 (codes "x")) ∷ Durable B (3 ∷ [])
          ∷ Answered 47 C (call.Write (codes "b" ∷ []) 0 (codes "x")) (answer.Reply reply.Ok) (Some 2)
          ∷ Answered 49 C (call.Read (codes "b" ∷ []) 1 9) (answer.Reply (reply.Data (codes "cx"))) None
          ∷ Waits 50 A (call.Write (codes "b" ∷ []) 0 (codes "c")) ∷ Durable C (2 ∷ [])
          ∷ Answered 50 A (call.Write (codes "b" ∷ []) 0 (codes "c")) (answer.Reply reply.Ok) (Some 4)
          ∷ Answered 52 B (call.List (codes "d" ∷ codes "k" ∷ [])) (answer.Reply (reply.Refused (no.NotFound 1))) None ∷ Ended C []
          ∷ Waits 56 D (call.Rename (codes "b" ∷ []) (codes "b" ∷ [])) ∷ Durable A (4 ∷ [])
          ∷ Answered 56 D (call.Rename (codes "b" ∷ []) (codes "b" ∷ [])) (answer.Reply reply.Ok) None
          ∷ Answered 57 C (call.Stat []) (answer.Reply (reply.Stat kind.Dir 493 0 0 1)) None ∷ Told C [] ∷ Waits 59 C (call.Read (codes "b" ∷ []) 0 9)
          ∷ Answered 59 C (call.Read (codes "b" ∷ []) 0 9) (answer.Reply (reply.Data (codes "ccx"))) None
          ∷ Answered 60 C call.Sync (answer.Reply reply.Ok) None
          ∷ Answered 61 C (call.Stat (codes "b2" ∷ [])) (answer.Reply (reply.Refused (no.NotFound 1))) None
          ∷ Answered 70 A (call.List []) (answer.Reply (reply.Names (codes "b" ∷ []))) None
          ∷ Answered 71 B (call.List []) (answer.Reply (reply.Names (codes "b" ∷ []))) None
          ∷ Answered 72 C (call.List []) (answer.Reply (reply.Names (codes "b" ∷ []))) None
          ∷ Answered 73 D (call.List []) (answer.Reply (reply.Names (codes "b" ∷ []))) None
          ∷ Answered 74 D (call.Read (codes "a" ∷ []) 0 64) (answer.Reply (reply.Refused (no.NotFound 1))) None
          ∷ Answered 75 D (call.Read (codes "b" ∷ []) 0 64) (answer.Reply (reply.Data (codes "ccx"))) None
          ∷ Answered 76 B (call.Read (codes "d" ∷ codes "a" ∷ []) 0 64) (answer.Reply (reply.Refused (no.NotFound 1))) None ∷ [];
      status = 0;
    }

abbrev pub crash_21 : Run
crash_21 =
    record {
      lines =
          reads (line.Call A (call.Mkdir (codes "d" ∷ []))) 9 ∷ reads (line.Call B (call.Create (codes "a" ∷ []))) 10
          ∷ reads (line.Call B (call.Create (codes "d" ∷ codes "a" ∷ []))) 10 ∷ reads (line.Call A (call.Create (codes "e" ∷ codes "a" ∷ []))) 10
          ∷ reads (line.Call A call.Sync) 3 ∷ reads (line.Call B call.Sync) 3
          ∷ reads (line.Call A (call.Rename (codes "d" ∷ codes "a" ∷ []) (codes "d" ∷ codes "a2" ∷ []))) 15
          ∷ reads (line.Call B (call.Rename (codes "d" ∷ codes "a2" ∷ []) (codes "a" ∷ []))) 16
          ∷ reads (line.Call A (call.Rename (codes "d" ∷ []) (codes "d" ∷ []))) 13 ∷ reads (line.Call B (call.SetLen (codes "a" ∷ []) 1)) 13
          ∷ reads (line.Call A (call.Write (codes "a" ∷ []) 6 (codes "ax"))) 14 ∷ reads (line.Call B (call.Stat (codes "a" ∷ []))) 8
          ∷ reads (line.Call A (call.Create (codes "d" ∷ codes "a" ∷ []))) 10
          ∷ reads (line.Call A (call.Rename (codes "d" ∷ []) (codes "e" ∷ codes "d" ∷ []))) 13 ∷ reads (line.Call B (call.List [])) 8
          ∷ reads (line.Call B (call.Create (codes "d" ∷ codes "a" ∷ []))) 10 ∷ reads (line.Call B (call.List (codes "d" ∷ []))) 8
          ∷ reads (line.Call A (call.Read (codes "a" ∷ []) 3 9)) 13 ∷ reads (line.Call A (call.Create (codes "d" ∷ codes "a" ∷ []))) 10
          ∷ reads (line.Push B 1) 8 ∷ reads (line.Call A (call.Write (codes "a" ∷ []) 0 (codes "y"))) 14
          ∷ reads (line.Call A (call.Fsync (codes "d" ∷ codes "a" ∷ []))) 9 ∷ reads (line.Call B (call.Read (codes "d" ∷ codes "a" ∷ []) 3 64)) 15
          ∷ reads (line.Call B (call.Create (codes "d" ∷ codes "a" ∷ []))) 10 ∷ reads (line.Call B (call.Mkdir (codes "e" ∷ []))) 9
          ∷ reads (line.Call A (call.Fsync (codes "a" ∷ []))) 9 ∷ reads (line.Call B (call.Remove (codes "a" ∷ []))) 10
          ∷ reads (line.Call B (call.Chmod (codes "d" ∷ codes "a" ∷ []) 384)) 14 ∷ reads (line.Call B (call.Mkdir (codes "d" ∷ []))) 9
          ∷ reads (line.Call B (call.Fsync (codes "e" ∷ codes "a" ∷ []))) 9 ∷ reads (line.Call A (call.Mkdir (codes "e" ∷ []))) 9
          ∷ reads (line.Call B (call.Create (codes "a" ∷ []))) 10 ∷ reads (line.Call B (call.Create (codes "e" ∷ codes "a" ∷ []))) 10
          ∷ reads (line.Call A (call.Read (codes "d" ∷ codes "a" ∷ []) 0 64)) 15
          ∷ reads (line.Call A (call.Write (codes "e" ∷ codes "a" ∷ []) 6 (codes "y"))) 16 ∷ reads (line.Call A (call.Create (codes "a" ∷ []))) 10
          ∷ reads (line.Call A (call.Remove (codes "e" ∷ codes "a" ∷ []))) 10 ∷ reads (line.Cut A) 5
          ∷ reads (line.Call A (call.Forder ((codes "e" ∷ []) ∷ []))) 10 ∷ reads (line.Call B (call.Write (codes "a" ∷ []) 1 (codes "bc"))) 14
          ∷ reads (line.Call B (call.Rmdir (codes "e" ∷ []))) 9 ∷ reads (line.Call B (call.Write (codes "a" ∷ []) 6 (codes "aaa"))) 14
          ∷ reads (line.Push B 10) 8 ∷ reads (line.Drop A msg.Recall 19) 15 ∷ reads (line.Call B (call.Write (codes "a" ∷ []) 1 (codes "c"))) 14
          ∷ reads (line.Call A (call.Create (codes "e" ∷ codes "a" ∷ []))) 10 ∷ reads (line.Call A (call.Rmdir (codes "d" ∷ []))) 9
          ∷ reads (line.Call A (call.Rename (codes "e" ∷ codes "a" ∷ []) (codes "e" ∷ codes "a" ∷ []))) 15 ∷ reads (line.Push B 6) 8
          ∷ reads (line.Push A 7) 8 ∷ reads (line.Deliver A msg.Flush 6) 17
          ∷ reads (line.Call A (call.Forder ((codes "e" ∷ codes "a" ∷ []) ∷ (codes "e" ∷ codes "a" ∷ []) ∷ []))) 15
          ∷ reads (line.Call A (call.Rename (codes "e" ∷ codes "a" ∷ []) (codes "e" ∷ codes "a" ∷ []))) 15 ∷ reads (line.End A) 5
          ∷ reads (line.Call B (call.List [])) 8 ∷ reads (line.Uncut A) 7 ∷ reads (line.Call A (call.Stat (codes "e" ∷ codes "a2" ∷ []))) 8
          ∷ reads (line.Call A (call.Read (codes "e" ∷ codes "a" ∷ []) 0 9)) 15 ∷ reads (line.Call A (call.List [])) 8
          ∷ reads (line.Call A (call.Chown (codes "d" ∷ codes "a" ∷ []) 5)) 14 ∷ reads (line.Resend A) 8 ∷ reads (line.Resend B) 8
          ∷ reads (line.Resend A) 8 ∷ reads (line.Resend B) 8 ∷ reads (line.Call A (call.List [])) 8 ∷ reads (line.Call B (call.List [])) 8
          ∷ reads (line.Call A (call.Read (codes "a" ∷ []) 0 64)) 13 ∷ reads (line.Call A (call.Read (codes "d" ∷ codes "a" ∷ []) 0 64)) 15
          ∷ reads (line.Call B (call.Read (codes "e" ∷ codes "a" ∷ []) 0 64)) 15 ∷ reads (line.Call A call.Sync) 3 ∷ reads (line.Call B call.Sync) 3
          ∷ [];
      fates = [];
      max_objects = 1024;
      shown =
          Waits 1 A (call.Mkdir (codes "d" ∷ [])) ∷ Answered 1 A (call.Mkdir (codes "d" ∷ [])) (answer.Reply reply.Ok) (Some 1)
          ∷ Waits 2 B (call.Create (codes "a" ∷ [])) ∷ Durable A (1 ∷ [])
          ∷ Answered 2 B (call.Create (codes "a" ∷ [])) (answer.Reply reply.Ok) (Some 1) ∷ Waits 3 B (call.Create (codes "d" ∷ codes "a" ∷ []))
          ∷ Answered 3 B (call.Create (codes "d" ∷ codes "a" ∷ [])) (answer.Reply reply.Ok) (Some 2)
          ∷ Waits 4 A (call.Create (codes "e" ∷ codes "a" ∷ [])) ∷ Durable B (1 ∷ [])
          ∷ Answered 4 A (call.Create (codes "e" ∷ codes "a" ∷ [])) (answer.Reply (reply.Refused (no.NotFound 1))) None
          ∷ Answered 5 A call.Sync (answer.Reply reply.Ok) None ∷ Waits 6 B call.Sync ∷ Durable B (2 ∷ [])
          ∷ Answered 6 B call.Sync (answer.Reply reply.Ok) None ∷ Waits 7 A (call.Rename (codes "d" ∷ codes "a" ∷ []) (codes "d" ∷ codes "a2" ∷ []))
          ∷ Answered 7 A (call.Rename (codes "d" ∷ codes "a" ∷ []) (codes "d" ∷ codes "a2" ∷ [])) (answer.Reply reply.Ok) (Some 2)
          ∷ Waits 8 B (call.Rename (codes "d" ∷ codes "a2" ∷ []) (codes "a" ∷ [])) ∷ Durable A (2 ∷ [])
          ∷ Answered 8 B (call.Rename (codes "d" ∷ codes "a2" ∷ []) (codes "a" ∷ [])) (answer.Reply reply.Ok) (Some 3)
          ∷ Waits 9 A (call.Rename (codes "d" ∷ []) (codes "d" ∷ [])) ∷ Durable B (3 ∷ [])
          ∷ Answered 9 A (call.Rename (codes "d" ∷ []) (codes "d" ∷ [])) (answer.Reply reply.Ok) None
          ∷ Answered 10 B (call.SetLen (codes "a" ∷ []) 1) (answer.Reply reply.Ok) (Some 4) ∷ Waits 11 A (call.Write (codes "a" ∷ []) 6 (codes "ax"))
          ∷ Durable B (4 ∷ []) ∷ Answered 11 A (call.Write (codes "a" ∷ []) 6 (codes "ax")) (answer.Reply reply.Ok) (Some 3)
          ∷ Waits 12 B (call.Stat (codes "a" ∷ [])) ∷ Durable A (3 ∷ [])
          ∷ Answered 12 B (call.Stat (codes "a" ∷ [])) (answer.Reply (reply.Stat kind.File 420 0 0 8)) None
          ∷ Waits 13 A (call.Create (codes "d" ∷ codes "a" ∷ []))
          ∷ Answered 13 A (call.Create (codes "d" ∷ codes "a" ∷ [])) (answer.Reply reply.Ok) (Some 4)
          ∷ Answered 14 A (call.Rename (codes "d" ∷ []) (codes "e" ∷ codes "d" ∷ [])) (answer.Reply (reply.Refused (no.NotFound 1))) None
          ∷ Answered 15 B (call.List []) (answer.Reply (reply.Names (codes "a" ∷ codes "d" ∷ []))) None
          ∷ Waits 16 B (call.Create (codes "d" ∷ codes "a" ∷ [])) ∷ Durable A (4 ∷ [])
          ∷ Answered 16 B (call.Create (codes "d" ∷ codes "a" ∷ [])) (answer.Reply (reply.Refused no.Exists)) None
          ∷ Answered 17 B (call.List (codes "d" ∷ [])) (answer.Reply (reply.Names (codes "a" ∷ []))) None
          ∷ Answered 18 A (call.Read (codes "a" ∷ []) 3 9) (answer.Reply (reply.Data (0 ∷ 0 ∷ 0 ∷ 97 ∷ 120 ∷ []))) None
          ∷ Answered 19 A (call.Create (codes "d" ∷ codes "a" ∷ [])) (answer.Reply (reply.Refused no.Exists)) None ∷ Nothing
          ∷ Waits 21 A (call.Write (codes "a" ∷ []) 0 (codes "y"))
          ∷ Answered 21 A (call.Write (codes "a" ∷ []) 0 (codes "y")) (answer.Reply reply.Ok) (Some 5)
          ∷ Answered 22 A (call.Fsync (codes "d" ∷ codes "a" ∷ [])) (answer.Reply reply.Ok) None
          ∷ Waits 23 B (call.Read (codes "d" ∷ codes "a" ∷ []) 3 64)
          ∷ Answered 23 B (call.Read (codes "d" ∷ codes "a" ∷ []) 3 64) (answer.Reply (reply.Data [])) None
          ∷ Answered 24 B (call.Create (codes "d" ∷ codes "a" ∷ [])) (answer.Reply (reply.Refused no.Exists)) None
          ∷ Waits 25 B (call.Mkdir (codes "e" ∷ [])) ∷ Answered 25 B (call.Mkdir (codes "e" ∷ [])) (answer.Reply reply.Ok) (Some 5)
          ∷ Waits 26 A (call.Fsync (codes "a" ∷ [])) ∷ Durable B (5 ∷ []) ∷ Durable A (5 ∷ [])
          ∷ Answered 26 A (call.Fsync (codes "a" ∷ [])) (answer.Reply reply.Ok) None ∷ Waits 27 B (call.Remove (codes "a" ∷ []))
          ∷ Answered 27 B (call.Remove (codes "a" ∷ [])) (answer.Reply reply.Ok) (Some 6) ∷ Waits 28 B (call.Chmod (codes "d" ∷ codes "a" ∷ []) 384)
          ∷ Answered 28 B (call.Chmod (codes "d" ∷ codes "a" ∷ []) 384) (answer.Reply reply.Ok) (Some 7)
          ∷ Answered 29 B (call.Mkdir (codes "d" ∷ [])) (answer.Reply (reply.Refused no.Exists)) None
          ∷ Answered 30 B (call.Fsync (codes "e" ∷ codes "a" ∷ [])) (answer.Reply (reply.Refused (no.NotFound 2))) None
          ∷ Waits 31 A (call.Mkdir (codes "e" ∷ [])) ∷ Durable B (6 ∷ [])
          ∷ Answered 31 A (call.Mkdir (codes "e" ∷ [])) (answer.Reply (reply.Refused no.Exists)) None ∷ Waits 32 B (call.Create (codes "a" ∷ []))
          ∷ Answered 32 B (call.Create (codes "a" ∷ [])) (answer.Reply reply.Ok) (Some 8)
          ∷ Answered 33 B (call.Create (codes "e" ∷ codes "a" ∷ [])) (answer.Reply reply.Ok) (Some 9)
          ∷ Waits 34 A (call.Read (codes "d" ∷ codes "a" ∷ []) 0 64) ∷ Durable B (8 ∷ []) ∷ Durable B (7 ∷ [])
          ∷ Answered 34 A (call.Read (codes "d" ∷ codes "a" ∷ []) 0 64) (answer.Reply (reply.Data [])) None
          ∷ Waits 35 A (call.Write (codes "e" ∷ codes "a" ∷ []) 6 (codes "y")) ∷ Durable B (9 ∷ [])
          ∷ Answered 35 A (call.Write (codes "e" ∷ codes "a" ∷ []) 6 (codes "y")) (answer.Reply reply.Ok) (Some 6)
          ∷ Answered 36 A (call.Create (codes "a" ∷ [])) (answer.Reply (reply.Refused no.Exists)) None
          ∷ Waits 37 A (call.Remove (codes "e" ∷ codes "a" ∷ []))
          ∷ Answered 37 A (call.Remove (codes "e" ∷ codes "a" ∷ [])) (answer.Reply reply.Ok) (Some 7)
          ∷ Answered 39 A (call.Forder ((codes "e" ∷ []) ∷ [])) (answer.Reply reply.Ok) (Some 8)
          ∷ Answered 40 B (call.Write (codes "a" ∷ []) 1 (codes "bc")) (answer.Reply reply.Ok) (Some 10) ∷ Waits 41 B (call.Rmdir (codes "e" ∷ []))
          ∷ Answered 42 B (call.Write (codes "a" ∷ []) 6 (codes "aaa")) (answer.Reply reply.Ok) (Some 11) ∷ Durable B (10 ∷ [])
          ∷ Answered 45 B (call.Write (codes "a" ∷ []) 1 (codes "c")) (answer.Reply reply.Ok) (Some 12)
          ∷ Answered 46 A (call.Create (codes "e" ∷ codes "a" ∷ [])) (answer.Reply reply.Ok) (Some 9)
          ∷ Answered 47 A (call.Rmdir (codes "d" ∷ [])) (answer.Reply (reply.Refused no.NotEmpty)) None
          ∷ Answered 48 A (call.Rename (codes "e" ∷ codes "a" ∷ []) (codes "e" ∷ codes "a" ∷ [])) (answer.Reply reply.Ok) None ∷ Nothing
          ∷ Durable A (6 ∷ 7 ∷ [])
          ∷ Answered 52 A (call.Forder ((codes "e" ∷ codes "a" ∷ []) ∷ (codes "e" ∷ codes "a" ∷ []) ∷ [])) (answer.Reply reply.Ok) (Some 10)
          ∷ Answered 53 A (call.Rename (codes "e" ∷ codes "a" ∷ []) (codes "e" ∷ codes "a" ∷ [])) (answer.Reply reply.Ok) None
          ∷ Ended A (8 ∷ 9 ∷ 10 ∷ []) ∷ Answered 41 B (call.Rmdir (codes "e" ∷ [])) (answer.Reply reply.Ok) (Some 13)
          ∷ Answered 55 B (call.List []) (answer.Reply (reply.Names (codes "a" ∷ codes "d" ∷ []))) None ∷ Told A (8 ∷ 9 ∷ 10 ∷ [])
          ∷ Waits 57 A (call.Stat (codes "e" ∷ codes "a2" ∷ [])) ∷ Durable B (13 ∷ [])
          ∷ Answered 57 A (call.Stat (codes "e" ∷ codes "a2" ∷ [])) (answer.Reply (reply.Refused (no.NotFound 1))) None
          ∷ Answered 58 A (call.Read (codes "e" ∷ codes "a" ∷ []) 0 9) (answer.Reply (reply.Refused (no.NotFound 1))) None
          ∷ Answered 59 A (call.List []) (answer.Reply (reply.Names (codes "a" ∷ codes "d" ∷ []))) None
          ∷ Waits 60 A (call.Chown (codes "d" ∷ codes "a" ∷ []) 5)
          ∷ Answered 60 A (call.Chown (codes "d" ∷ codes "a" ∷ []) 5) (answer.Reply reply.Ok) (Some 11)
          ∷ Answered 65 A (call.List []) (answer.Reply (reply.Names (codes "a" ∷ codes "d" ∷ []))) None
          ∷ Answered 66 B (call.List []) (answer.Reply (reply.Names (codes "a" ∷ codes "d" ∷ []))) None ∷ Waits 67 A (call.Read (codes "a" ∷ []) 0 64)
          ∷ Durable B (11 ∷ 12 ∷ [])
          ∷ Answered 67 A (call.Read (codes "a" ∷ []) 0 64) (answer.Reply (reply.Data (0 ∷ 99 ∷ 99 ∷ 0 ∷ 0 ∷ 0 ∷ 97 ∷ 97 ∷ 97 ∷ []))) None
          ∷ Answered 68 A (call.Read (codes "d" ∷ codes "a" ∷ []) 0 64) (answer.Reply (reply.Data [])) None
          ∷ Answered 69 B (call.Read (codes "e" ∷ codes "a" ∷ []) 0 64) (answer.Reply (reply.Refused (no.NotFound 1))) None
          ∷ Answered 70 A call.Sync (answer.Lost (8 ∷ 9 ∷ 10 ∷ [])) None ∷ Answered 71 B call.Sync (answer.Reply reply.Ok) None ∷ [];
      status = 0;
    }
