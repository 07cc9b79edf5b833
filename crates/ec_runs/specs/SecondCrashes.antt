-- Random scripts with crashes and ended sessions.
use Rattle.std.specs.Prelude.{[], ◌∷◌, None, Some, codes}
use Rattle.ec_volume.specs.declared.image.Kind.TheVariants as kind
use Rattle.ec_plain.specs.declared.call.Call.TheVariants as call
use Rattle.ec_plain.specs.declared.call.Reply.TheVariants as reply
use Rattle.ec_plain.specs.declared.call.Refusal.TheVariants as no
use Rattle.ec_history.specs.declared.entry.Answer.TheVariants as answer
use Rattle.ec_history.specs.declared.shown.Shown.TheVariants.{Waits, Answered, Durable, Ended, Told, Crashed, Nothing}
use Rattle.ec_wire.specs.declared.msg.MsgKind.TheVariants as msg
use Rattle.ec_protocol.specs.declared.script.Line.TheVariants as line
use Rattle.ec_protocol.specs.Drill.{reads}
use Rattle.ec_protocol.specs.Runs.{Run, A, B, C, D}

abbrev pub crash_8 : Run
crash_8 =
    record {
      lines =
          reads (line.Call C (call.Rename (codes "e" ∷ []) (codes "d" ∷ codes "e" ∷ codes "k" ∷ []))) 13
          ∷ reads (line.Call A (call.Create (codes "b" ∷ []))) 10 ∷ reads (line.Push A 1) 8 ∷ reads (line.Call C (call.Rmdir (codes "d" ∷ []))) 9
          ∷ reads (line.Crash B) 7 ∷ reads (line.End D) 5 ∷ reads (line.Call C (call.Create (codes "a" ∷ []))) 10
          ∷ reads (line.Call C (call.Remove (codes "b" ∷ []))) 10 ∷ reads (line.Call B (call.Rmdir (codes "d" ∷ codes "e" ∷ []))) 9
          ∷ reads (line.Call B (call.Remove (codes "a" ∷ []))) 10 ∷ reads (line.Repeat A msg.Recall 3) 17
          ∷ reads (line.Call B (call.Write (codes "d" ∷ codes "b" ∷ []) 6 (codes "yca"))) 16
          ∷ reads (line.Call A (call.SetLen (codes "d" ∷ codes "a" ∷ []) 4)) 15
          ∷ reads (line.Call A (call.Forder ((codes "d" ∷ codes "b" ∷ []) ∷ [] ∷ []))) 15
          ∷ reads (line.Call B (call.Rename (codes "d" ∷ []) (codes "d" ∷ codes "z" ∷ []))) 13
          ∷ reads (line.Call A (call.Write (codes "e" ∷ codes "a" ∷ []) 5 (codes "z"))) 16
          ∷ reads (line.Call A (call.Write (codes "e" ∷ codes "a" ∷ []) 1 (codes "xa"))) 16
          ∷ reads (line.Call A (call.Write (codes "e" ∷ codes "a" ∷ []) 5 (codes "xb"))) 16 ∷ reads (line.Call B (call.SetLen (codes "a" ∷ []) 4)) 13
          ∷ reads (line.Call B (call.Write (codes "b" ∷ []) 1 (codes "z"))) 14
          ∷ reads (line.Call C (call.Write (codes "d" ∷ codes "a" ∷ []) 3 (codes "caz"))) 16 ∷ reads (line.Call D (call.Touch (codes "a" ∷ []) 2)) 12
          ∷ reads (line.Call B (call.Stat (codes "d" ∷ codes "e" ∷ []))) 8
          ∷ reads (line.Call C (call.Rename (codes "d" ∷ codes "b" ∷ []) (codes "e" ∷ codes "a" ∷ []))) 15
          ∷ reads (line.Call A (call.Rename (codes "d" ∷ codes "e" ∷ codes "a" ∷ []) (codes "d" ∷ codes "e" ∷ codes "a" ∷ []))) 17
          ∷ reads (line.Call C (call.Stat (codes "b" ∷ []))) 8 ∷ reads (line.Call C (call.Write (codes "d" ∷ codes "a" ∷ []) 0 (codes "zz"))) 16
          ∷ reads (line.Call C (call.Write (codes "d" ∷ codes "a" ∷ []) 0 (codes "ay"))) 16 ∷ reads (line.Push C 1) 8
          ∷ reads (line.Call D (call.Fsync (codes "b" ∷ []))) 9 ∷ reads (line.Call A (call.Mkdir (codes "d" ∷ []))) 9
          ∷ reads (line.Call B (call.Mkdir (codes "e" ∷ []))) 9 ∷ reads (line.Call D (call.Rename (codes "b" ∷ []) (codes "d" ∷ codes "a" ∷ []))) 13
          ∷ reads (line.Call B call.Sync) 3 ∷ reads (line.Call C (call.Create (codes "d" ∷ codes "a" ∷ []))) 10
          ∷ reads (line.Call A (call.Mkdir (codes "d" ∷ codes "k" ∷ []))) 9 ∷ reads (line.Call C (call.Chown (codes "e" ∷ []) 6)) 12
          ∷ reads (line.Call C (call.List (codes "d" ∷ codes "k" ∷ []))) 8 ∷ reads (line.Repeat C msg.Back 7) 15
          ∷ reads (line.Call D (call.Stat (codes "d" ∷ codes "k" ∷ []))) 8 ∷ reads (line.Resend A) 8 ∷ reads (line.Resend B) 8
          ∷ reads (line.Resend C) 8 ∷ reads (line.Resend D) 8 ∷ reads (line.Resend A) 8 ∷ reads (line.Resend B) 8 ∷ reads (line.Resend C) 8
          ∷ reads (line.Resend D) 8 ∷ reads (line.Call A (call.List [])) 8 ∷ reads (line.Call B (call.List [])) 8
          ∷ reads (line.Call C (call.List [])) 8 ∷ reads (line.Call D (call.List [])) 8 ∷ reads (line.Call A (call.Read (codes "a" ∷ []) 0 64)) 13
          ∷ reads (line.Call B (call.Read (codes "b" ∷ []) 0 64)) 13 ∷ reads (line.Call C (call.Read (codes "d" ∷ codes "a" ∷ []) 0 64)) 15 ∷ [];
      fates = [];
      max_objects = 1024;
      shown =
          Waits 1 C (call.Rename (codes "e" ∷ []) (codes "d" ∷ codes "e" ∷ codes "k" ∷ []))
          ∷ Answered 1 C (call.Rename (codes "e" ∷ []) (codes "d" ∷ codes "e" ∷ codes "k" ∷ [])) (answer.Reply (reply.Refused (no.NotFound 1))) None
          ∷ Waits 2 A (call.Create (codes "b" ∷ [])) ∷ Answered 2 A (call.Create (codes "b" ∷ [])) (answer.Reply reply.Ok) (Some 1)
          ∷ Durable A (1 ∷ []) ∷ Waits 4 C (call.Rmdir (codes "d" ∷ []))
          ∷ Answered 4 C (call.Rmdir (codes "d" ∷ [])) (answer.Reply (reply.Refused (no.NotFound 1))) None ∷ Nothing ∷ Nothing
          ∷ Waits 7 C (call.Create (codes "a" ∷ [])) ∷ Answered 7 C (call.Create (codes "a" ∷ [])) (answer.Reply reply.Ok) (Some 1)
          ∷ Waits 8 C (call.Remove (codes "b" ∷ [])) ∷ Answered 8 C (call.Remove (codes "b" ∷ [])) (answer.Reply reply.Ok) (Some 2)
          ∷ Waits 9 B (call.Rmdir (codes "d" ∷ codes "e" ∷ [])) ∷ Durable C (1 ∷ 2 ∷ [])
          ∷ Answered 9 B (call.Rmdir (codes "d" ∷ codes "e" ∷ [])) (answer.Reply (reply.Refused (no.NotFound 1))) None
          ∷ Waits 10 B (call.Remove (codes "a" ∷ [])) ∷ Answered 10 B (call.Remove (codes "a" ∷ [])) (answer.Reply reply.Ok) (Some 1)
          ∷ Answered 12 B (call.Write (codes "d" ∷ codes "b" ∷ []) 6 (codes "yca")) (answer.Reply (reply.Refused (no.NotFound 1))) None
          ∷ Waits 13 A (call.SetLen (codes "d" ∷ codes "a" ∷ []) 4) ∷ Durable B (1 ∷ [])
          ∷ Answered 13 A (call.SetLen (codes "d" ∷ codes "a" ∷ []) 4) (answer.Reply (reply.Refused (no.NotFound 1))) None
          ∷ Answered 14 A (call.Forder ((codes "d" ∷ codes "b" ∷ []) ∷ [] ∷ [])) (answer.Reply (reply.Refused (no.NotFound 1))) None
          ∷ Answered 15 B (call.Rename (codes "d" ∷ []) (codes "d" ∷ codes "z" ∷ [])) (answer.Reply (reply.Refused (no.NotFound 1))) None
          ∷ Answered 16 A (call.Write (codes "e" ∷ codes "a" ∷ []) 5 (codes "z")) (answer.Reply (reply.Refused (no.NotFound 1))) None
          ∷ Answered 17 A (call.Write (codes "e" ∷ codes "a" ∷ []) 1 (codes "xa")) (answer.Reply (reply.Refused (no.NotFound 1))) None
          ∷ Answered 18 A (call.Write (codes "e" ∷ codes "a" ∷ []) 5 (codes "xb")) (answer.Reply (reply.Refused (no.NotFound 1))) None
          ∷ Answered 19 B (call.SetLen (codes "a" ∷ []) 4) (answer.Reply (reply.Refused (no.NotFound 1))) None
          ∷ Answered 20 B (call.Write (codes "b" ∷ []) 1 (codes "z")) (answer.Reply (reply.Refused (no.NotFound 1))) None
          ∷ Waits 21 C (call.Write (codes "d" ∷ codes "a" ∷ []) 3 (codes "caz"))
          ∷ Answered 21 C (call.Write (codes "d" ∷ codes "a" ∷ []) 3 (codes "caz")) (answer.Reply (reply.Refused (no.NotFound 1))) None
          ∷ Waits 22 D (call.Touch (codes "a" ∷ []) 2)
          ∷ Answered 22 D (call.Touch (codes "a" ∷ []) 2) (answer.Reply (reply.Refused (no.NotFound 1))) None
          ∷ Answered 23 B (call.Stat (codes "d" ∷ codes "e" ∷ [])) (answer.Reply (reply.Refused (no.NotFound 1))) None
          ∷ Answered 24 C (call.Rename (codes "d" ∷ codes "b" ∷ []) (codes "e" ∷ codes "a" ∷ [])) (answer.Reply (reply.Refused (no.NotFound 1))) None
          ∷ Answered 25 A (call.Rename (codes "d" ∷ codes "e" ∷ codes "a" ∷ []) (codes "d" ∷ codes "e" ∷ codes "a" ∷ [])) (answer.Reply (reply.Refused (no.NotFound 1))) None
          ∷ Answered 26 C (call.Stat (codes "b" ∷ [])) (answer.Reply (reply.Refused (no.NotFound 1))) None
          ∷ Answered 27 C (call.Write (codes "d" ∷ codes "a" ∷ []) 0 (codes "zz")) (answer.Reply (reply.Refused (no.NotFound 1))) None
          ∷ Answered 28 C (call.Write (codes "d" ∷ codes "a" ∷ []) 0 (codes "ay")) (answer.Reply (reply.Refused (no.NotFound 1))) None ∷ Nothing
          ∷ Answered 30 D (call.Fsync (codes "b" ∷ [])) (answer.Reply (reply.Refused (no.NotFound 1))) None ∷ Waits 31 A (call.Mkdir (codes "d" ∷ []))
          ∷ Answered 31 A (call.Mkdir (codes "d" ∷ [])) (answer.Reply reply.Ok) (Some 2) ∷ Waits 32 B (call.Mkdir (codes "e" ∷ []))
          ∷ Durable A (2 ∷ []) ∷ Answered 32 B (call.Mkdir (codes "e" ∷ [])) (answer.Reply reply.Ok) (Some 2)
          ∷ Waits 33 D (call.Rename (codes "b" ∷ []) (codes "d" ∷ codes "a" ∷ [])) ∷ Durable B (2 ∷ [])
          ∷ Answered 33 D (call.Rename (codes "b" ∷ []) (codes "d" ∷ codes "a" ∷ [])) (answer.Reply (reply.Refused (no.NotFound 1))) None
          ∷ Answered 34 B call.Sync (answer.Reply reply.Ok) None ∷ Waits 35 C (call.Create (codes "d" ∷ codes "a" ∷ []))
          ∷ Answered 35 C (call.Create (codes "d" ∷ codes "a" ∷ [])) (answer.Reply reply.Ok) (Some 3)
          ∷ Waits 36 A (call.Mkdir (codes "d" ∷ codes "k" ∷ [])) ∷ Durable C (3 ∷ [])
          ∷ Answered 36 A (call.Mkdir (codes "d" ∷ codes "k" ∷ [])) (answer.Reply reply.Ok) (Some 3) ∷ Waits 37 C (call.Chown (codes "e" ∷ []) 6)
          ∷ Answered 37 C (call.Chown (codes "e" ∷ []) 6) (answer.Reply reply.Ok) (Some 4) ∷ Waits 38 C (call.List (codes "d" ∷ codes "k" ∷ []))
          ∷ Durable A (3 ∷ []) ∷ Answered 38 C (call.List (codes "d" ∷ codes "k" ∷ [])) (answer.Reply (reply.Names [])) None
          ∷ Waits 40 D (call.Stat (codes "d" ∷ codes "k" ∷ []))
          ∷ Answered 40 D (call.Stat (codes "d" ∷ codes "k" ∷ [])) (answer.Reply (reply.Stat kind.Dir 493 0 0 0)) None
          ∷ Answered 49 A (call.List []) (answer.Reply (reply.Names (codes "d" ∷ codes "e" ∷ []))) None
          ∷ Answered 50 B (call.List []) (answer.Reply (reply.Names (codes "d" ∷ codes "e" ∷ []))) None
          ∷ Answered 51 C (call.List []) (answer.Reply (reply.Names (codes "d" ∷ codes "e" ∷ []))) None
          ∷ Answered 52 D (call.List []) (answer.Reply (reply.Names (codes "d" ∷ codes "e" ∷ []))) None
          ∷ Answered 53 A (call.Read (codes "a" ∷ []) 0 64) (answer.Reply (reply.Refused (no.NotFound 1))) None
          ∷ Answered 54 B (call.Read (codes "b" ∷ []) 0 64) (answer.Reply (reply.Refused (no.NotFound 1))) None
          ∷ Answered 55 C (call.Read (codes "d" ∷ codes "a" ∷ []) 0 64) (answer.Reply (reply.Data [])) None ∷ [];
      status = 0;
    }

abbrev pub crash_9 : Run
crash_9 =
    record {
      lines =
          reads (line.Call D (call.Mkdir (codes "d" ∷ []))) 9 ∷ reads (line.Call C (call.Create (codes "a" ∷ []))) 10
          ∷ reads (line.Call D (call.Create (codes "d" ∷ codes "a" ∷ []))) 10
          ∷ reads (line.Call D (call.Rename (codes "d" ∷ []) (codes "d2" ∷ []))) 13 ∷ reads (line.Call C (call.Stat (codes "a" ∷ []))) 8
          ∷ reads (line.Call D (call.Mkdir (codes "d" ∷ []))) 9 ∷ reads (line.Call C (call.Write (codes "a" ∷ []) 4 (codes "zczax"))) 14
          ∷ reads (line.Call C (call.Chown (codes "d" ∷ []) 1)) 12 ∷ reads (line.Call A (call.Read (codes "d2" ∷ codes "a" ∷ []) 0 9)) 16
          ∷ reads (line.Call D (call.Create (codes "d" ∷ codes "a" ∷ []))) 10
          ∷ reads (line.Call B (call.Write (codes "e" ∷ codes "a" ∷ []) 1 (codes "a"))) 16
          ∷ reads (line.Call B (call.Fsync (codes "d2" ∷ codes "a" ∷ []))) 9 ∷ reads (line.Crash B) 7
          ∷ reads (line.Call A (call.Remove (codes "d2" ∷ codes "a" ∷ []))) 10
          ∷ reads (line.Call A (call.Write (codes "d" ∷ codes "a" ∷ []) 4 (codes "zbcbc"))) 16
          ∷ reads (line.Call D (call.Forder ((codes "d2" ∷ []) ∷ []))) 10 ∷ reads (line.Call C (call.Create (codes "a" ∷ []))) 10
          ∷ reads (line.Call D (call.List (codes "d" ∷ []))) 8 ∷ [];
      fates = [];
      max_objects = 1024;
      shown =
          Waits 1 D (call.Mkdir (codes "d" ∷ [])) ∷ Answered 1 D (call.Mkdir (codes "d" ∷ [])) (answer.Reply reply.Ok) (Some 1)
          ∷ Waits 2 C (call.Create (codes "a" ∷ [])) ∷ Durable D (1 ∷ [])
          ∷ Answered 2 C (call.Create (codes "a" ∷ [])) (answer.Reply reply.Ok) (Some 1) ∷ Waits 3 D (call.Create (codes "d" ∷ codes "a" ∷ []))
          ∷ Durable C (1 ∷ []) ∷ Answered 3 D (call.Create (codes "d" ∷ codes "a" ∷ [])) (answer.Reply reply.Ok) (Some 2)
          ∷ Waits 4 D (call.Rename (codes "d" ∷ []) (codes "d2" ∷ []))
          ∷ Answered 4 D (call.Rename (codes "d" ∷ []) (codes "d2" ∷ [])) (answer.Reply reply.Ok) (Some 3) ∷ Waits 5 C (call.Stat (codes "a" ∷ []))
          ∷ Durable D (2 ∷ 3 ∷ []) ∷ Answered 5 C (call.Stat (codes "a" ∷ [])) (answer.Reply (reply.Stat kind.File 420 0 0 0)) None
          ∷ Waits 6 D (call.Mkdir (codes "d" ∷ [])) ∷ Answered 6 D (call.Mkdir (codes "d" ∷ [])) (answer.Reply reply.Ok) (Some 4)
          ∷ Waits 7 C (call.Write (codes "a" ∷ []) 4 (codes "zczax")) ∷ Durable D (4 ∷ [])
          ∷ Answered 7 C (call.Write (codes "a" ∷ []) 4 (codes "zczax")) (answer.Reply reply.Ok) (Some 2) ∷ Waits 8 C (call.Chown (codes "d" ∷ []) 1)
          ∷ Answered 8 C (call.Chown (codes "d" ∷ []) 1) (answer.Reply reply.Ok) (Some 3) ∷ Waits 9 A (call.Read (codes "d2" ∷ codes "a" ∷ []) 0 9)
          ∷ Answered 9 A (call.Read (codes "d2" ∷ codes "a" ∷ []) 0 9) (answer.Reply (reply.Data [])) None
          ∷ Waits 10 D (call.Create (codes "d" ∷ codes "a" ∷ [])) ∷ Durable C (3 ∷ [])
          ∷ Answered 10 D (call.Create (codes "d" ∷ codes "a" ∷ [])) (answer.Reply reply.Ok) (Some 5)
          ∷ Waits 11 B (call.Write (codes "e" ∷ codes "a" ∷ []) 1 (codes "a"))
          ∷ Answered 11 B (call.Write (codes "e" ∷ codes "a" ∷ []) 1 (codes "a")) (answer.Reply (reply.Refused (no.NotFound 1))) None
          ∷ Waits 12 B (call.Fsync (codes "d2" ∷ codes "a" ∷ []))
          ∷ Answered 12 B (call.Fsync (codes "d2" ∷ codes "a" ∷ [])) (answer.Reply reply.Ok) None ∷ Crashed B
          ∷ Waits 14 A (call.Remove (codes "d2" ∷ codes "a" ∷ [])) ∷ Waits 15 A (call.Write (codes "d" ∷ codes "a" ∷ []) 4 (codes "zbcbc"))
          ∷ Durable D (5 ∷ []) ∷ Answered 15 A (call.Write (codes "d" ∷ codes "a" ∷ []) 4 (codes "zbcbc")) (answer.Reply reply.Ok) (Some 1)
          ∷ Waits 16 D (call.Forder ((codes "d2" ∷ []) ∷ []))
          ∷ Answered 17 C (call.Create (codes "a" ∷ [])) (answer.Reply (reply.Refused no.Exists)) None
          ∷ Answered 18 D (call.List (codes "d" ∷ [])) (answer.Reply (reply.Names (codes "a" ∷ []))) None ∷ [];
      status = 0;
    }

abbrev pub crash_10 : Run
crash_10 =
    record {
      lines =
          reads (line.Call D (call.Mkdir (codes "d" ∷ []))) 9 ∷ reads (line.Call C (call.Create (codes "a" ∷ []))) 10
          ∷ reads (line.Call A call.Sync) 3 ∷ reads (line.Call B call.Sync) 3 ∷ reads (line.Call C call.Sync) 3 ∷ reads (line.Call D call.Sync) 3
          ∷ reads (line.Call B (call.Create (codes "d" ∷ codes "a" ∷ []))) 10
          ∷ reads (line.Call A (call.Forder ((codes "d" ∷ codes "a" ∷ []) ∷ (codes "d" ∷ codes "a" ∷ []) ∷ []))) 15
          ∷ reads (line.Call A (call.Create (codes "e" ∷ codes "a" ∷ []))) 10 ∷ reads (line.Call C (call.Read (codes "d" ∷ codes "a" ∷ []) 0 64)) 15
          ∷ reads (line.Call D (call.Create (codes "a" ∷ []))) 10 ∷ reads (line.Call B (call.Write (codes "d" ∷ codes "a" ∷ []) 3 (codes "aac"))) 16
          ∷ reads (line.Call C (call.Write (codes "d" ∷ codes "a" ∷ []) 2 (codes "a"))) 16
          ∷ reads (line.Call B (call.Read (codes "d" ∷ codes "a" ∷ []) 0 2)) 15 ∷ reads (line.Call D (call.Chown (codes "d" ∷ codes "a" ∷ []) 5)) 14
          ∷ reads (line.Call D (call.List (codes "d" ∷ []))) 8 ∷ reads (line.Call A (call.List (codes "d" ∷ []))) 8
          ∷ reads (line.Call A (call.Write (codes "a" ∷ []) 4 (codes "czx"))) 14 ∷ reads (line.Call A (call.Rmdir (codes "d" ∷ []))) 9
          ∷ reads (line.Call A (call.Read (codes "d" ∷ codes "a" ∷ []) 0 0)) 15 ∷ reads (line.Call C (call.Read (codes "d" ∷ codes "a" ∷ []) 0 9)) 15
          ∷ reads (line.Call A (call.Stat (codes "a" ∷ []))) 8 ∷ reads (line.Call C (call.Fsync [])) 9
          ∷ reads (line.Call B (call.Rename (codes "d" ∷ []) (codes "d" ∷ codes "z" ∷ []))) 13
          ∷ reads (line.Call C (call.Create (codes "d" ∷ codes "a" ∷ []))) 10
          ∷ reads (line.Call D (call.Write (codes "d" ∷ codes "a" ∷ []) 4 (codes "x"))) 16
          ∷ reads (line.Call C (call.Rename (codes "d" ∷ codes "a" ∷ []) (codes "d" ∷ codes "a" ∷ []))) 15 ∷ reads (line.Cut B) 5
          ∷ reads (line.Call B (call.Write (codes "a" ∷ []) 0 (codes "q"))) 14 ∷ reads (line.Call B (call.Touch (codes "a" ∷ []) 3)) 12
          ∷ reads (line.End B) 5 ∷ reads (line.Call B (call.SetLen (codes "d" ∷ codes "a" ∷ []) 1)) 15
          ∷ reads (line.Call A (call.SetLen (codes "a" ∷ []) 8)) 13 ∷ reads (line.Uncut B) 7 ∷ reads (line.Call B (call.Read (codes "a" ∷ []) 0 9)) 13
          ∷ reads (line.Call B (call.Stat (codes "a2" ∷ []))) 8 ∷ reads (line.Call B call.Sync) 3
          ∷ reads (line.Call C (call.Create (codes "e" ∷ codes "a" ∷ []))) 10 ∷ reads (line.Call A (call.Chmod (codes "d" ∷ codes "a" ∷ []) 493)) 14
          ∷ reads (line.Call D (call.Rename (codes "d" ∷ []) (codes "d" ∷ codes "e" ∷ codes "k" ∷ []))) 13 ∷ reads (line.Resend A) 8
          ∷ reads (line.Resend B) 8 ∷ reads (line.Resend C) 8 ∷ reads (line.Resend D) 8 ∷ reads (line.Resend A) 8 ∷ reads (line.Resend B) 8
          ∷ reads (line.Resend C) 8 ∷ reads (line.Resend D) 8 ∷ reads (line.Call A (call.List [])) 8 ∷ reads (line.Call B (call.List [])) 8
          ∷ reads (line.Call C (call.List [])) 8 ∷ reads (line.Call D (call.List [])) 8 ∷ reads (line.Call A (call.Read (codes "a" ∷ []) 0 64)) 13
          ∷ reads (line.Call C (call.Read (codes "d" ∷ codes "a" ∷ []) 0 64)) 15
          ∷ reads (line.Call B (call.Read (codes "e" ∷ codes "a" ∷ []) 0 64)) 15 ∷ reads (line.Call A call.Sync) 3 ∷ reads (line.Call B call.Sync) 3
          ∷ reads (line.Call C call.Sync) 3 ∷ reads (line.Call D call.Sync) 3 ∷ [];
      fates = [];
      max_objects = 1024;
      shown =
          Waits 1 D (call.Mkdir (codes "d" ∷ [])) ∷ Answered 1 D (call.Mkdir (codes "d" ∷ [])) (answer.Reply reply.Ok) (Some 1)
          ∷ Waits 2 C (call.Create (codes "a" ∷ [])) ∷ Durable D (1 ∷ [])
          ∷ Answered 2 C (call.Create (codes "a" ∷ [])) (answer.Reply reply.Ok) (Some 1) ∷ Answered 3 A call.Sync (answer.Reply reply.Ok) None
          ∷ Answered 4 B call.Sync (answer.Reply reply.Ok) None ∷ Waits 5 C call.Sync ∷ Durable C (1 ∷ [])
          ∷ Answered 5 C call.Sync (answer.Reply reply.Ok) None ∷ Answered 6 D call.Sync (answer.Reply reply.Ok) None
          ∷ Waits 7 B (call.Create (codes "d" ∷ codes "a" ∷ []))
          ∷ Answered 7 B (call.Create (codes "d" ∷ codes "a" ∷ [])) (answer.Reply reply.Ok) (Some 1)
          ∷ Waits 8 A (call.Forder ((codes "d" ∷ codes "a" ∷ []) ∷ (codes "d" ∷ codes "a" ∷ []) ∷ [])) ∷ Durable B (1 ∷ [])
          ∷ Answered 8 A (call.Forder ((codes "d" ∷ codes "a" ∷ []) ∷ (codes "d" ∷ codes "a" ∷ []) ∷ [])) (answer.Reply reply.Ok) (Some 1)
          ∷ Answered 9 A (call.Create (codes "e" ∷ codes "a" ∷ [])) (answer.Reply (reply.Refused (no.NotFound 1))) None
          ∷ Waits 10 C (call.Read (codes "d" ∷ codes "a" ∷ []) 0 64) ∷ Durable A (1 ∷ [])
          ∷ Answered 10 C (call.Read (codes "d" ∷ codes "a" ∷ []) 0 64) (answer.Reply (reply.Data [])) None
          ∷ Waits 11 D (call.Create (codes "a" ∷ [])) ∷ Answered 11 D (call.Create (codes "a" ∷ [])) (answer.Reply (reply.Refused no.Exists)) None
          ∷ Waits 12 B (call.Write (codes "d" ∷ codes "a" ∷ []) 3 (codes "aac"))
          ∷ Answered 12 B (call.Write (codes "d" ∷ codes "a" ∷ []) 3 (codes "aac")) (answer.Reply reply.Ok) (Some 2)
          ∷ Waits 13 C (call.Write (codes "d" ∷ codes "a" ∷ []) 2 (codes "a")) ∷ Durable B (2 ∷ [])
          ∷ Answered 13 C (call.Write (codes "d" ∷ codes "a" ∷ []) 2 (codes "a")) (answer.Reply reply.Ok) (Some 2)
          ∷ Waits 14 B (call.Read (codes "d" ∷ codes "a" ∷ []) 0 2) ∷ Durable C (2 ∷ [])
          ∷ Answered 14 B (call.Read (codes "d" ∷ codes "a" ∷ []) 0 2) (answer.Reply (reply.Data (0 ∷ 0 ∷ []))) None
          ∷ Waits 15 D (call.Chown (codes "d" ∷ codes "a" ∷ []) 5)
          ∷ Answered 15 D (call.Chown (codes "d" ∷ codes "a" ∷ []) 5) (answer.Reply reply.Ok) (Some 2)
          ∷ Answered 16 D (call.List (codes "d" ∷ [])) (answer.Reply (reply.Names (codes "a" ∷ []))) None
          ∷ Answered 17 A (call.List (codes "d" ∷ [])) (answer.Reply (reply.Names (codes "a" ∷ []))) None
          ∷ Waits 18 A (call.Write (codes "a" ∷ []) 4 (codes "czx"))
          ∷ Answered 18 A (call.Write (codes "a" ∷ []) 4 (codes "czx")) (answer.Reply reply.Ok) (Some 2)
          ∷ Answered 19 A (call.Rmdir (codes "d" ∷ [])) (answer.Reply (reply.Refused no.NotEmpty)) None
          ∷ Waits 20 A (call.Read (codes "d" ∷ codes "a" ∷ []) 0 0) ∷ Durable D (2 ∷ [])
          ∷ Answered 20 A (call.Read (codes "d" ∷ codes "a" ∷ []) 0 0) (answer.Reply (reply.Data [])) None
          ∷ Waits 21 C (call.Read (codes "d" ∷ codes "a" ∷ []) 0 9)
          ∷ Answered 21 C (call.Read (codes "d" ∷ codes "a" ∷ []) 0 9) (answer.Reply (reply.Data (0 ∷ 0 ∷ 97 ∷ 97 ∷ 97 ∷ 99 ∷ []))) None
          ∷ Answered 22 A (call.Stat (codes "a" ∷ [])) (answer.Reply (reply.Stat kind.File 420 0 0 7)) None
          ∷ Answered 23 C (call.Fsync []) (answer.Reply reply.Ok) None
          ∷ Answered 24 B (call.Rename (codes "d" ∷ []) (codes "d" ∷ codes "z" ∷ [])) (answer.Reply (reply.Refused no.Loop)) None
          ∷ Answered 25 C (call.Create (codes "d" ∷ codes "a" ∷ [])) (answer.Reply (reply.Refused no.Exists)) None
          ∷ Waits 26 D (call.Write (codes "d" ∷ codes "a" ∷ []) 4 (codes "x"))
          ∷ Answered 26 D (call.Write (codes "d" ∷ codes "a" ∷ []) 4 (codes "x")) (answer.Reply reply.Ok) (Some 3)
          ∷ Waits 27 C (call.Rename (codes "d" ∷ codes "a" ∷ []) (codes "d" ∷ codes "a" ∷ [])) ∷ Durable D (3 ∷ [])
          ∷ Answered 27 C (call.Rename (codes "d" ∷ codes "a" ∷ []) (codes "d" ∷ codes "a" ∷ [])) (answer.Reply reply.Ok) None
          ∷ Waits 29 B (call.Write (codes "a" ∷ []) 0 (codes "q")) ∷ Waits 30 B (call.Touch (codes "a" ∷ []) 3) ∷ Ended B []
          ∷ Waits 32 B (call.SetLen (codes "d" ∷ codes "a" ∷ []) 1) ∷ Answered 33 A (call.SetLen (codes "a" ∷ []) 8) (answer.Reply reply.Ok) (Some 3)
          ∷ Told B [] ∷ Durable A (2 ∷ 3 ∷ []) ∷ Answered 32 B (call.SetLen (codes "d" ∷ codes "a" ∷ []) 1) (answer.Reply reply.Ok) (Some 3)
          ∷ Answered 29 B (call.Write (codes "a" ∷ []) 0 (codes "q")) (answer.Reply reply.Ok) (Some 4)
          ∷ Answered 30 B (call.Touch (codes "a" ∷ []) 3) (answer.Reply reply.Ok) (Some 5)
          ∷ Answered 35 B (call.Read (codes "a" ∷ []) 0 9) (answer.Reply (reply.Data (113 ∷ 0 ∷ 0 ∷ 0 ∷ 99 ∷ 122 ∷ 120 ∷ 0 ∷ []))) None
          ∷ Answered 36 B (call.Stat (codes "a2" ∷ [])) (answer.Reply (reply.Refused (no.NotFound 1))) None ∷ Waits 37 B call.Sync
          ∷ Durable B (3 ∷ 4 ∷ 5 ∷ []) ∷ Answered 37 B call.Sync (answer.Reply reply.Ok) None
          ∷ Answered 38 C (call.Create (codes "e" ∷ codes "a" ∷ [])) (answer.Reply (reply.Refused (no.NotFound 1))) None
          ∷ Waits 39 A (call.Chmod (codes "d" ∷ codes "a" ∷ []) 493)
          ∷ Answered 39 A (call.Chmod (codes "d" ∷ codes "a" ∷ []) 493) (answer.Reply reply.Ok) (Some 4)
          ∷ Answered 40 D (call.Rename (codes "d" ∷ []) (codes "d" ∷ codes "e" ∷ codes "k" ∷ [])) (answer.Reply (reply.Refused (no.NotFound 2))) None
          ∷ Answered 49 A (call.List []) (answer.Reply (reply.Names (codes "a" ∷ codes "d" ∷ []))) None
          ∷ Answered 50 B (call.List []) (answer.Reply (reply.Names (codes "a" ∷ codes "d" ∷ []))) None
          ∷ Answered 51 C (call.List []) (answer.Reply (reply.Names (codes "a" ∷ codes "d" ∷ []))) None
          ∷ Answered 52 D (call.List []) (answer.Reply (reply.Names (codes "a" ∷ codes "d" ∷ []))) None ∷ Waits 53 A (call.Read (codes "a" ∷ []) 0 64)
          ∷ Answered 53 A (call.Read (codes "a" ∷ []) 0 64) (answer.Reply (reply.Data (113 ∷ 0 ∷ 0 ∷ 0 ∷ 99 ∷ 122 ∷ 120 ∷ 0 ∷ []))) None
          ∷ Waits 54 C (call.Read (codes "d" ∷ codes "a" ∷ []) 0 64) ∷ Durable A (4 ∷ [])
          ∷ Answered 54 C (call.Read (codes "d" ∷ codes "a" ∷ []) 0 64) (answer.Reply (reply.Data (0 ∷ []))) None
          ∷ Answered 55 B (call.Read (codes "e" ∷ codes "a" ∷ []) 0 64) (answer.Reply (reply.Refused (no.NotFound 1))) None
          ∷ Answered 56 A call.Sync (answer.Reply reply.Ok) None ∷ Answered 57 B call.Sync (answer.Reply reply.Ok) None
          ∷ Answered 58 C call.Sync (answer.Reply reply.Ok) None ∷ Answered 59 D call.Sync (answer.Reply reply.Ok) None ∷ [];
      status = 0;
    }

abbrev pub crash_11 : Run
crash_11 =
    record {
      lines =
          reads (line.Call C (call.Mkdir (codes "d" ∷ []))) 9 ∷ reads (line.Call C (call.Create (codes "a" ∷ []))) 10
          ∷ reads (line.Call B (call.Create (codes "b" ∷ []))) 10 ∷ reads (line.Call A (call.Create (codes "d" ∷ codes "a" ∷ []))) 10
          ∷ reads (line.Call A (call.Fsync (codes "b" ∷ []))) 9 ∷ reads (line.Call C (call.Rename (codes "d" ∷ []) (codes "d" ∷ []))) 13
          ∷ reads (line.Call B (call.Fsync [])) 9 ∷ reads (line.Call B (call.Stat (codes "a" ∷ []))) 8 ∷ reads (line.Call C call.Sync) 3
          ∷ reads (line.Call C (call.Write (codes "b" ∷ []) 3 (codes "z"))) 14 ∷ reads (line.Call A (call.Read (codes "b" ∷ []) 0 9)) 13
          ∷ reads (line.Call A (call.Read (codes "b" ∷ []) 0 0)) 13 ∷ reads (line.Call C (call.Write (codes "b" ∷ []) 1 (codes "bxzbz"))) 14
          ∷ reads (line.Call C (call.Mkdir (codes "d" ∷ codes "e" ∷ []))) 9 ∷ reads (line.Resend A) 8
          ∷ reads (line.Call C (call.Write (codes "b" ∷ []) 3 (codes "b"))) 14 ∷ reads (line.Call C (call.Mkdir (codes "e" ∷ []))) 9
          ∷ reads (line.Call B (call.Read (codes "b" ∷ []) 0 2)) 13
          ∷ reads (line.Call C (call.Forder ((codes "d" ∷ codes "e" ∷ []) ∷ (codes "d" ∷ codes "a" ∷ []) ∷ []))) 15
          ∷ reads (line.Call B (call.Read (codes "a" ∷ []) 3 9)) 13 ∷ reads (line.Call B (call.Rename [] (codes "e" ∷ codes "a" ∷ []))) 12
          ∷ reads (line.Call A (call.List (codes "e" ∷ []))) 8 ∷ reads (line.Call A (call.Write (codes "d" ∷ codes "a" ∷ []) 6 (codes "aza"))) 16
          ∷ reads (line.Push C 2) 8 ∷ reads (line.Call B (call.Write (codes "b" ∷ []) 0 (codes "y"))) 14
          ∷ reads (line.Call A (call.Mkdir (codes "d" ∷ codes "k" ∷ []))) 9 ∷ reads (line.Call B (call.Read (codes "a" ∷ []) 3 9)) 13
          ∷ reads (line.Call B (call.Create (codes "d" ∷ codes "b" ∷ []))) 10 ∷ reads (line.Call C (call.Chown (codes "a" ∷ []) 3)) 12
          ∷ reads (line.Call B (call.Stat [])) 8 ∷ reads (line.Call B (call.Read (codes "d" ∷ codes "b" ∷ []) 0 0)) 15
          ∷ reads (line.Call C (call.Rename (codes "d" ∷ codes "a" ∷ []) (codes "d" ∷ codes "b" ∷ []))) 15
          ∷ reads (line.Call C (call.List (codes "d" ∷ codes "k" ∷ []))) 8 ∷ reads (line.Call C (call.Fsync [])) 9
          ∷ reads (line.Call C (call.Stat (codes "d" ∷ codes "k" ∷ []))) 8 ∷ reads (line.Push C 4) 8
          ∷ reads (line.Call C (call.List (codes "d" ∷ []))) 8 ∷ reads (line.Call C (call.Create (codes "d" ∷ codes "e" ∷ codes "a" ∷ []))) 10
          ∷ reads (line.Call B (call.Rename (codes "b" ∷ []) (codes "d" ∷ codes "b" ∷ []))) 13 ∷ reads (line.Call B (call.Stat [])) 8
          ∷ reads (line.Resend A) 8 ∷ reads (line.Resend B) 8 ∷ reads (line.Resend C) 8 ∷ reads (line.Resend A) 8 ∷ reads (line.Resend B) 8
          ∷ reads (line.Resend C) 8 ∷ reads (line.Call A (call.List [])) 8 ∷ reads (line.Call B (call.List [])) 8
          ∷ reads (line.Call C (call.List [])) 8 ∷ reads (line.Call B (call.Read (codes "a" ∷ []) 0 64)) 13
          ∷ reads (line.Call A (call.Read (codes "b" ∷ []) 0 64)) 13 ∷ reads (line.Call B (call.Read (codes "d" ∷ codes "a" ∷ []) 0 64)) 15 ∷ [];
      fates = [];
      max_objects = 1024;
      shown =
          Waits 1 C (call.Mkdir (codes "d" ∷ [])) ∷ Answered 1 C (call.Mkdir (codes "d" ∷ [])) (answer.Reply reply.Ok) (Some 1)
          ∷ Answered 2 C (call.Create (codes "a" ∷ [])) (answer.Reply reply.Ok) (Some 2) ∷ Waits 3 B (call.Create (codes "b" ∷ []))
          ∷ Durable C (1 ∷ 2 ∷ []) ∷ Answered 3 B (call.Create (codes "b" ∷ [])) (answer.Reply reply.Ok) (Some 1)
          ∷ Waits 4 A (call.Create (codes "d" ∷ codes "a" ∷ [])) ∷ Durable B (1 ∷ [])
          ∷ Answered 4 A (call.Create (codes "d" ∷ codes "a" ∷ [])) (answer.Reply reply.Ok) (Some 1) ∷ Waits 5 A (call.Fsync (codes "b" ∷ []))
          ∷ Answered 5 A (call.Fsync (codes "b" ∷ [])) (answer.Reply reply.Ok) None ∷ Waits 6 C (call.Rename (codes "d" ∷ []) (codes "d" ∷ []))
          ∷ Durable A (1 ∷ []) ∷ Answered 6 C (call.Rename (codes "d" ∷ []) (codes "d" ∷ [])) (answer.Reply reply.Ok) None
          ∷ Answered 7 B (call.Fsync []) (answer.Reply reply.Ok) None ∷ Waits 8 B (call.Stat (codes "a" ∷ []))
          ∷ Answered 8 B (call.Stat (codes "a" ∷ [])) (answer.Reply (reply.Stat kind.File 420 0 0 0)) None
          ∷ Answered 9 C call.Sync (answer.Reply reply.Ok) None ∷ Waits 10 C (call.Write (codes "b" ∷ []) 3 (codes "z"))
          ∷ Answered 10 C (call.Write (codes "b" ∷ []) 3 (codes "z")) (answer.Reply reply.Ok) (Some 3) ∷ Waits 11 A (call.Read (codes "b" ∷ []) 0 9)
          ∷ Durable C (3 ∷ []) ∷ Answered 11 A (call.Read (codes "b" ∷ []) 0 9) (answer.Reply (reply.Data (0 ∷ 0 ∷ 0 ∷ 122 ∷ []))) None
          ∷ Answered 12 A (call.Read (codes "b" ∷ []) 0 0) (answer.Reply (reply.Data [])) None
          ∷ Waits 13 C (call.Write (codes "b" ∷ []) 1 (codes "bxzbz"))
          ∷ Answered 13 C (call.Write (codes "b" ∷ []) 1 (codes "bxzbz")) (answer.Reply reply.Ok) (Some 4)
          ∷ Waits 14 C (call.Mkdir (codes "d" ∷ codes "e" ∷ []))
          ∷ Answered 14 C (call.Mkdir (codes "d" ∷ codes "e" ∷ [])) (answer.Reply reply.Ok) (Some 5)
          ∷ Answered 16 C (call.Write (codes "b" ∷ []) 3 (codes "b")) (answer.Reply reply.Ok) (Some 6) ∷ Waits 17 C (call.Mkdir (codes "e" ∷ []))
          ∷ Answered 17 C (call.Mkdir (codes "e" ∷ [])) (answer.Reply reply.Ok) (Some 7) ∷ Waits 18 B (call.Read (codes "b" ∷ []) 0 2)
          ∷ Durable C (7 ∷ []) ∷ Durable C (4 ∷ 6 ∷ [])
          ∷ Answered 18 B (call.Read (codes "b" ∷ []) 0 2) (answer.Reply (reply.Data (0 ∷ 98 ∷ []))) None
          ∷ Waits 19 C (call.Forder ((codes "d" ∷ codes "e" ∷ []) ∷ (codes "d" ∷ codes "a" ∷ []) ∷ []))
          ∷ Answered 19 C (call.Forder ((codes "d" ∷ codes "e" ∷ []) ∷ (codes "d" ∷ codes "a" ∷ []) ∷ [])) (answer.Reply reply.Ok) (Some 8)
          ∷ Answered 20 B (call.Read (codes "a" ∷ []) 3 9) (answer.Reply (reply.Data [])) None
          ∷ Answered 21 B (call.Rename [] (codes "e" ∷ codes "a" ∷ [])) (answer.Reply (reply.Refused no.Root)) None
          ∷ Waits 22 A (call.List (codes "e" ∷ [])) ∷ Answered 22 A (call.List (codes "e" ∷ [])) (answer.Reply (reply.Names [])) None
          ∷ Waits 23 A (call.Write (codes "d" ∷ codes "a" ∷ []) 6 (codes "aza")) ∷ Durable C (5 ∷ []) ∷ Durable C (8 ∷ [])
          ∷ Answered 23 A (call.Write (codes "d" ∷ codes "a" ∷ []) 6 (codes "aza")) (answer.Reply reply.Ok) (Some 2) ∷ Nothing
          ∷ Waits 25 B (call.Write (codes "b" ∷ []) 0 (codes "y"))
          ∷ Answered 25 B (call.Write (codes "b" ∷ []) 0 (codes "y")) (answer.Reply reply.Ok) (Some 2)
          ∷ Waits 26 A (call.Mkdir (codes "d" ∷ codes "k" ∷ []))
          ∷ Answered 26 A (call.Mkdir (codes "d" ∷ codes "k" ∷ [])) (answer.Reply reply.Ok) (Some 3)
          ∷ Answered 27 B (call.Read (codes "a" ∷ []) 3 9) (answer.Reply (reply.Data [])) None ∷ Waits 28 B (call.Create (codes "d" ∷ codes "b" ∷ []))
          ∷ Durable A (3 ∷ []) ∷ Answered 28 B (call.Create (codes "d" ∷ codes "b" ∷ [])) (answer.Reply reply.Ok) (Some 3)
          ∷ Waits 29 C (call.Chown (codes "a" ∷ []) 3) ∷ Answered 29 C (call.Chown (codes "a" ∷ []) 3) (answer.Reply reply.Ok) (Some 9)
          ∷ Answered 30 B (call.Stat []) (answer.Reply (reply.Stat kind.Dir 493 0 0 4)) None
          ∷ Answered 31 B (call.Read (codes "d" ∷ codes "b" ∷ []) 0 0) (answer.Reply (reply.Data [])) None
          ∷ Waits 32 C (call.Rename (codes "d" ∷ codes "a" ∷ []) (codes "d" ∷ codes "b" ∷ [])) ∷ Durable B (3 ∷ []) ∷ Durable A (2 ∷ [])
          ∷ Answered 32 C (call.Rename (codes "d" ∷ codes "a" ∷ []) (codes "d" ∷ codes "b" ∷ [])) (answer.Reply reply.Ok) (Some 10)
          ∷ Waits 33 C (call.List (codes "d" ∷ codes "k" ∷ []))
          ∷ Answered 33 C (call.List (codes "d" ∷ codes "k" ∷ [])) (answer.Reply (reply.Names [])) None
          ∷ Answered 34 C (call.Fsync []) (answer.Reply reply.Ok) None
          ∷ Answered 35 C (call.Stat (codes "d" ∷ codes "k" ∷ [])) (answer.Reply (reply.Stat kind.Dir 493 0 0 0)) None ∷ Nothing
          ∷ Answered 37 C (call.List (codes "d" ∷ [])) (answer.Reply (reply.Names (codes "b" ∷ codes "e" ∷ codes "k" ∷ []))) None
          ∷ Answered 38 C (call.Create (codes "d" ∷ codes "e" ∷ codes "a" ∷ [])) (answer.Reply reply.Ok) (Some 11)
          ∷ Waits 39 B (call.Rename (codes "b" ∷ []) (codes "d" ∷ codes "b" ∷ [])) ∷ Durable C (10 ∷ [])
          ∷ Answered 39 B (call.Rename (codes "b" ∷ []) (codes "d" ∷ codes "b" ∷ [])) (answer.Reply reply.Ok) (Some 4)
          ∷ Answered 40 B (call.Stat []) (answer.Reply (reply.Stat kind.Dir 493 0 0 3)) None ∷ Waits 47 A (call.List []) ∷ Durable B (2 ∷ 4 ∷ [])
          ∷ Answered 47 A (call.List []) (answer.Reply (reply.Names (codes "a" ∷ codes "d" ∷ codes "e" ∷ []))) None
          ∷ Answered 48 B (call.List []) (answer.Reply (reply.Names (codes "a" ∷ codes "d" ∷ codes "e" ∷ []))) None ∷ Waits 49 C (call.List [])
          ∷ Answered 49 C (call.List []) (answer.Reply (reply.Names (codes "a" ∷ codes "d" ∷ codes "e" ∷ []))) None
          ∷ Waits 50 B (call.Read (codes "a" ∷ []) 0 64) ∷ Durable C (9 ∷ [])
          ∷ Answered 50 B (call.Read (codes "a" ∷ []) 0 64) (answer.Reply (reply.Data [])) None
          ∷ Answered 51 A (call.Read (codes "b" ∷ []) 0 64) (answer.Reply (reply.Refused (no.NotFound 1))) None
          ∷ Answered 52 B (call.Read (codes "d" ∷ codes "a" ∷ []) 0 64) (answer.Reply (reply.Refused (no.NotFound 2))) None ∷ [];
      status = 0;
    }

abbrev pub crash_12 : Run
crash_12 =
    record {
      lines =
          reads (line.Call A (call.Write (codes "d" ∷ codes "e" ∷ codes "a" ∷ []) 5 (codes "za"))) 18
          ∷ reads (line.Call A (call.Write (codes "d" ∷ codes "e" ∷ codes "a" ∷ []) 1 (codes "zb"))) 18 ∷ reads (line.Cut C) 5
          ∷ reads (line.Call C (call.Read (codes "d" ∷ codes "e" ∷ codes "a" ∷ []) 0 9)) 17 ∷ reads (line.Call B (call.List [])) 8
          ∷ reads (line.Call C (call.Chown (codes "d" ∷ codes "k" ∷ []) 4)) 14 ∷ reads (line.Call D (call.Write (codes "a" ∷ []) 4 (codes "cz"))) 14
          ∷ reads (line.Call D (call.Write (codes "a" ∷ []) 1 (codes "yx"))) 14 ∷ reads (line.Call C (call.Chown [] 1)) 11
          ∷ reads (line.Call A (call.Forder ((codes "d" ∷ codes "b" ∷ []) ∷ [] ∷ []))) 15
          ∷ reads (line.Call D (call.SetLen (codes "d" ∷ codes "b" ∷ []) 4)) 15 ∷ reads (line.Call D (call.Forder ([] ∷ []))) 10
          ∷ reads (line.Call B (call.Write (codes "e" ∷ codes "a" ∷ []) 2 (codes "ba"))) 16
          ∷ reads (line.Call B (call.Write (codes "e" ∷ codes "a" ∷ []) 0 (codes "zz"))) 16
          ∷ reads (line.Call C (call.Rename (codes "b" ∷ []) (codes "a" ∷ []))) 13 ∷ reads (line.Push D 1) 8
          ∷ reads (line.Call A (call.Chmod (codes "d" ∷ codes "e" ∷ []) 384)) 14 ∷ reads (line.Call A (call.Create (codes "a" ∷ []))) 10
          ∷ reads (line.Cut C) 5 ∷ reads (line.Call B (call.Read (codes "a" ∷ []) 0 64)) 13 ∷ reads (line.Call A (call.Chown (codes "a" ∷ []) 2)) 12
          ∷ reads (line.Call B (call.SetLen (codes "a" ∷ []) 0)) 13 ∷ reads (line.Call D (call.Remove (codes "a" ∷ []))) 10 ∷ reads (line.Push D 1) 8
          ∷ reads (line.Call A (call.Write (codes "e" ∷ codes "a" ∷ []) 4 (codes "x"))) 16
          ∷ reads (line.Call C (call.Write (codes "a" ∷ []) 6 (codes "bccza"))) 14 ∷ reads (line.Call A (call.Create (codes "d" ∷ codes "a" ∷ []))) 10
          ∷ reads (line.Deliver C msg.Hello 1) 17 ∷ reads (line.Push B 1) 8 ∷ reads (line.Call B (call.Create (codes "a" ∷ []))) 10
          ∷ reads (line.Call B (call.SetLen (codes "b" ∷ []) 4)) 13 ∷ reads (line.Call B (call.Remove (codes "a" ∷ []))) 10
          ∷ reads (line.Call B (call.Create (codes "a" ∷ []))) 10 ∷ reads (line.Call B (call.Write (codes "a" ∷ []) 3 (codes "b"))) 14
          ∷ reads (line.Call C (call.Write (codes "a" ∷ []) 5 (codes "aa"))) 14 ∷ reads (line.Call C (call.Write (codes "a" ∷ []) 2 (codes "x"))) 14
          ∷ reads (line.Call D (call.Remove (codes "a" ∷ []))) 10 ∷ reads (line.Call B (call.Create (codes "a" ∷ []))) 10
          ∷ reads (line.Call A (call.Read (codes "a" ∷ []) 1 2)) 13 ∷ reads (line.Call C (call.Create (codes "b" ∷ []))) 10 ∷ reads (line.Uncut C) 7
          ∷ reads (line.Resend A) 8 ∷ reads (line.Resend B) 8 ∷ reads (line.Resend C) 8 ∷ reads (line.Resend D) 8 ∷ reads (line.Resend A) 8
          ∷ reads (line.Resend B) 8 ∷ reads (line.Resend C) 8 ∷ reads (line.Resend D) 8 ∷ reads (line.Call A (call.List [])) 8
          ∷ reads (line.Call B (call.List [])) 8 ∷ reads (line.Call C (call.List [])) 8 ∷ reads (line.Call D (call.List [])) 8
          ∷ reads (line.Call B (call.Read (codes "a" ∷ []) 0 64)) 13 ∷ reads (line.Call B (call.Read (codes "b" ∷ []) 0 64)) 13
          ∷ reads (line.Call A (call.Read (codes "d" ∷ codes "a" ∷ []) 0 64)) 15 ∷ reads (line.Call A call.Sync) 3 ∷ reads (line.Call B call.Sync) 3
          ∷ reads (line.Call C call.Sync) 3 ∷ reads (line.Call D call.Sync) 3 ∷ [];
      fates = [];
      max_objects = 1024;
      shown =
          Waits 1 A (call.Write (codes "d" ∷ codes "e" ∷ codes "a" ∷ []) 5 (codes "za"))
          ∷ Answered 1 A (call.Write (codes "d" ∷ codes "e" ∷ codes "a" ∷ []) 5 (codes "za")) (answer.Reply (reply.Refused (no.NotFound 1))) None
          ∷ Answered 2 A (call.Write (codes "d" ∷ codes "e" ∷ codes "a" ∷ []) 1 (codes "zb")) (answer.Reply (reply.Refused (no.NotFound 1))) None
          ∷ Waits 4 C (call.Read (codes "d" ∷ codes "e" ∷ codes "a" ∷ []) 0 9) ∷ Waits 5 B (call.List [])
          ∷ Answered 5 B (call.List []) (answer.Reply (reply.Names [])) None ∷ Waits 6 C (call.Chown (codes "d" ∷ codes "k" ∷ []) 4)
          ∷ Waits 7 D (call.Write (codes "a" ∷ []) 4 (codes "cz"))
          ∷ Answered 7 D (call.Write (codes "a" ∷ []) 4 (codes "cz")) (answer.Reply (reply.Refused (no.NotFound 1))) None
          ∷ Answered 8 D (call.Write (codes "a" ∷ []) 1 (codes "yx")) (answer.Reply (reply.Refused (no.NotFound 1))) None
          ∷ Waits 9 C (call.Chown [] 1)
          ∷ Answered 10 A (call.Forder ((codes "d" ∷ codes "b" ∷ []) ∷ [] ∷ [])) (answer.Reply (reply.Refused (no.NotFound 1))) None
          ∷ Answered 11 D (call.SetLen (codes "d" ∷ codes "b" ∷ []) 4) (answer.Reply (reply.Refused (no.NotFound 1))) None
          ∷ Waits 12 D (call.Forder ([] ∷ [])) ∷ Answered 12 D (call.Forder ([] ∷ [])) (answer.Reply reply.Ok) (Some 1)
          ∷ Waits 13 B (call.Write (codes "e" ∷ codes "a" ∷ []) 2 (codes "ba")) ∷ Durable D (1 ∷ [])
          ∷ Answered 13 B (call.Write (codes "e" ∷ codes "a" ∷ []) 2 (codes "ba")) (answer.Reply (reply.Refused (no.NotFound 1))) None
          ∷ Answered 14 B (call.Write (codes "e" ∷ codes "a" ∷ []) 0 (codes "zz")) (answer.Reply (reply.Refused (no.NotFound 1))) None
          ∷ Waits 15 C (call.Rename (codes "b" ∷ []) (codes "a" ∷ [])) ∷ Nothing ∷ Waits 17 A (call.Chmod (codes "d" ∷ codes "e" ∷ []) 384)
          ∷ Answered 17 A (call.Chmod (codes "d" ∷ codes "e" ∷ []) 384) (answer.Reply (reply.Refused (no.NotFound 1))) None
          ∷ Waits 18 A (call.Create (codes "a" ∷ [])) ∷ Answered 18 A (call.Create (codes "a" ∷ [])) (answer.Reply reply.Ok) (Some 1) ∷ Nothing
          ∷ Waits 20 B (call.Read (codes "a" ∷ []) 0 64) ∷ Durable A (1 ∷ [])
          ∷ Answered 20 B (call.Read (codes "a" ∷ []) 0 64) (answer.Reply (reply.Data [])) None ∷ Waits 21 A (call.Chown (codes "a" ∷ []) 2)
          ∷ Answered 21 A (call.Chown (codes "a" ∷ []) 2) (answer.Reply reply.Ok) (Some 2) ∷ Waits 22 B (call.SetLen (codes "a" ∷ []) 0)
          ∷ Durable A (2 ∷ []) ∷ Answered 22 B (call.SetLen (codes "a" ∷ []) 0) (answer.Reply reply.Ok) (Some 1)
          ∷ Waits 23 D (call.Remove (codes "a" ∷ [])) ∷ Durable B (1 ∷ [])
          ∷ Answered 23 D (call.Remove (codes "a" ∷ [])) (answer.Reply reply.Ok) (Some 2) ∷ Nothing
          ∷ Waits 25 A (call.Write (codes "e" ∷ codes "a" ∷ []) 4 (codes "x")) ∷ Durable D (2 ∷ [])
          ∷ Answered 25 A (call.Write (codes "e" ∷ codes "a" ∷ []) 4 (codes "x")) (answer.Reply (reply.Refused (no.NotFound 1))) None
          ∷ Waits 26 C (call.Write (codes "a" ∷ []) 6 (codes "bccza"))
          ∷ Answered 27 A (call.Create (codes "d" ∷ codes "a" ∷ [])) (answer.Reply (reply.Refused (no.NotFound 1))) None ∷ Nothing
          ∷ Waits 30 B (call.Create (codes "a" ∷ [])) ∷ Answered 30 B (call.Create (codes "a" ∷ [])) (answer.Reply reply.Ok) (Some 2)
          ∷ Answered 31 B (call.SetLen (codes "b" ∷ []) 4) (answer.Reply (reply.Refused (no.NotFound 1))) None
          ∷ Answered 32 B (call.Remove (codes "a" ∷ [])) (answer.Reply reply.Ok) (Some 3)
          ∷ Answered 33 B (call.Create (codes "a" ∷ [])) (answer.Reply reply.Ok) (Some 4)
          ∷ Answered 34 B (call.Write (codes "a" ∷ []) 3 (codes "b")) (answer.Reply reply.Ok) (Some 5)
          ∷ Waits 35 C (call.Write (codes "a" ∷ []) 5 (codes "aa")) ∷ Waits 36 C (call.Write (codes "a" ∷ []) 2 (codes "x"))
          ∷ Waits 37 D (call.Remove (codes "a" ∷ [])) ∷ Durable B (2 ∷ 3 ∷ 4 ∷ []) ∷ Durable B (5 ∷ [])
          ∷ Answered 37 D (call.Remove (codes "a" ∷ [])) (answer.Reply reply.Ok) (Some 3) ∷ Waits 38 B (call.Create (codes "a" ∷ []))
          ∷ Durable D (3 ∷ []) ∷ Answered 38 B (call.Create (codes "a" ∷ [])) (answer.Reply reply.Ok) (Some 6)
          ∷ Waits 39 A (call.Read (codes "a" ∷ []) 1 2) ∷ Durable B (6 ∷ [])
          ∷ Answered 39 A (call.Read (codes "a" ∷ []) 1 2) (answer.Reply (reply.Data [])) None ∷ Waits 40 C (call.Create (codes "b" ∷ []))
          ∷ Answered 4 C (call.Read (codes "d" ∷ codes "e" ∷ codes "a" ∷ []) 0 9) (answer.Reply (reply.Refused (no.NotFound 1))) None
          ∷ Answered 6 C (call.Chown (codes "d" ∷ codes "k" ∷ []) 4) (answer.Reply (reply.Refused (no.NotFound 1))) None
          ∷ Answered 15 C (call.Rename (codes "b" ∷ []) (codes "a" ∷ [])) (answer.Reply (reply.Refused (no.NotFound 1))) None
          ∷ Answered 9 C (call.Chown [] 1) (answer.Reply reply.Ok) (Some 1)
          ∷ Answered 40 C (call.Create (codes "b" ∷ [])) (answer.Reply reply.Ok) (Some 2)
          ∷ Answered 26 C (call.Write (codes "a" ∷ []) 6 (codes "bccza")) (answer.Reply reply.Ok) (Some 3)
          ∷ Answered 35 C (call.Write (codes "a" ∷ []) 5 (codes "aa")) (answer.Reply reply.Ok) (Some 4)
          ∷ Answered 36 C (call.Write (codes "a" ∷ []) 2 (codes "x")) (answer.Reply reply.Ok) (Some 5) ∷ Waits 50 A (call.List [])
          ∷ Durable C (1 ∷ 2 ∷ []) ∷ Answered 50 A (call.List []) (answer.Reply (reply.Names (codes "a" ∷ codes "b" ∷ []))) None
          ∷ Waits 51 B (call.List []) ∷ Answered 51 B (call.List []) (answer.Reply (reply.Names (codes "a" ∷ codes "b" ∷ []))) None
          ∷ Answered 52 C (call.List []) (answer.Reply (reply.Names (codes "a" ∷ codes "b" ∷ []))) None ∷ Waits 53 D (call.List [])
          ∷ Answered 53 D (call.List []) (answer.Reply (reply.Names (codes "a" ∷ codes "b" ∷ []))) None ∷ Waits 54 B (call.Read (codes "a" ∷ []) 0 64)
          ∷ Durable C (3 ∷ 4 ∷ 5 ∷ [])
          ∷ Answered 54 B (call.Read (codes "a" ∷ []) 0 64) (answer.Reply (reply.Data (0 ∷ 0 ∷ 120 ∷ 0 ∷ 0 ∷ 97 ∷ 97 ∷ 99 ∷ 99 ∷ 122 ∷ 97 ∷ []))) None
          ∷ Waits 55 B (call.Read (codes "b" ∷ []) 0 64) ∷ Answered 55 B (call.Read (codes "b" ∷ []) 0 64) (answer.Reply (reply.Data [])) None
          ∷ Answered 56 A (call.Read (codes "d" ∷ codes "a" ∷ []) 0 64) (answer.Reply (reply.Refused (no.NotFound 1))) None
          ∷ Answered 57 A call.Sync (answer.Reply reply.Ok) None ∷ Answered 58 B call.Sync (answer.Reply reply.Ok) None
          ∷ Answered 59 C call.Sync (answer.Reply reply.Ok) None ∷ Answered 60 D call.Sync (answer.Reply reply.Ok) None ∷ [];
      status = 0;
    }

abbrev pub crash_13 : Run
crash_13 =
    record {
      lines =
          reads (line.Call A (call.Mkdir (codes "d" ∷ []))) 9 ∷ reads (line.Call A (call.Create (codes "a" ∷ []))) 10
          ∷ reads (line.Call A (call.Write (codes "a" ∷ []) 0 (codes "abcdefgh"))) 14 ∷ reads (line.Call B (call.Create (codes "b" ∷ []))) 10
          ∷ reads (line.Call A (call.Fsync (codes "a" ∷ []))) 9 ∷ reads (line.Call B (call.Mkdir (codes "d" ∷ codes "k" ∷ []))) 9
          ∷ reads (line.Call B (call.Stat (codes "a" ∷ []))) 8 ∷ reads (line.Call A (call.Write (codes "a" ∷ []) 1 (codes "ca"))) 14
          ∷ reads (line.Call A (call.Write (codes "a" ∷ []) 0 (codes "xc"))) 14 ∷ reads (line.Push A 4) 8 ∷ reads (line.Repeat B msg.Want 4) 15
          ∷ reads (line.Uncut B) 7 ∷ reads (line.Call B (call.Write (codes "a" ∷ []) 4 (codes "ca"))) 14 ∷ reads (line.Call A (call.Stat [])) 8
          ∷ reads (line.Call B (call.Rename (codes "d" ∷ []) (codes "e" ∷ []))) 13
          ∷ reads (line.Call B (call.Write (codes "a" ∷ []) 2 (codes "ab"))) 14 ∷ reads (line.Call B (call.Write (codes "a" ∷ []) 1 (codes "c"))) 14
          ∷ reads (line.Call B (call.Write (codes "a" ∷ []) 1 (codes "xz"))) 14 ∷ reads (line.Call A (call.Read (codes "d" ∷ codes "a" ∷ []) 0 2)) 15
          ∷ reads (line.Call A (call.Fsync (codes "b" ∷ []))) 9 ∷ reads (line.Call A (call.Remove (codes "a" ∷ []))) 10
          ∷ reads (line.Call B (call.Write (codes "b" ∷ []) 0 (codes "zabax"))) 14 ∷ reads (line.Call A (call.Read (codes "b" ∷ []) 0 64)) 13
          ∷ reads (line.Repeat B msg.Want 10) 15 ∷ reads (line.Call A (call.Rename (codes "d" ∷ codes "a" ∷ []) (codes "d" ∷ codes "a2" ∷ []))) 15
          ∷ reads (line.Call A (call.Create (codes "a" ∷ []))) 10 ∷ reads (line.Call B (call.Write (codes "a" ∷ []) 2 (codes "b"))) 14
          ∷ reads (line.Call B (call.Write (codes "a" ∷ []) 2 (codes "xx"))) 14 ∷ reads (line.Cut B) 5 ∷ reads (line.Push B 9) 8
          ∷ reads (line.Call B (call.Forder ((codes "a" ∷ []) ∷ (codes "b" ∷ []) ∷ []))) 13 ∷ reads (line.Call B call.Sync) 3 ∷ reads (line.End B) 5
          ∷ reads (line.Call B (call.Write (codes "a" ∷ []) 0 (codes "xcz"))) 14 ∷ reads (line.Uncut B) 7
          ∷ reads (line.Call B (call.Read (codes "b" ∷ []) 0 9)) 13 ∷ reads (line.Call B (call.List [])) 8
          ∷ reads (line.Call B (call.Stat (codes "a2" ∷ []))) 8 ∷ reads (line.Uncut A) 7 ∷ reads (line.Push B 12) 8 ∷ reads (line.Resend A) 8
          ∷ reads (line.Resend B) 8 ∷ reads (line.Resend A) 8 ∷ reads (line.Resend B) 8 ∷ reads (line.Call A (call.List [])) 8
          ∷ reads (line.Call B (call.List [])) 8 ∷ reads (line.Call B (call.Read (codes "a" ∷ []) 0 64)) 13
          ∷ reads (line.Call B (call.Read (codes "b" ∷ []) 0 64)) 13 ∷ reads (line.Call A (call.Read (codes "d" ∷ codes "a" ∷ []) 0 64)) 15
          ∷ reads (line.Call A call.Sync) 3 ∷ reads (line.Call B call.Sync) 3 ∷ [];
      fates = [];
      max_objects = 1024;
      shown =
          Waits 1 A (call.Mkdir (codes "d" ∷ [])) ∷ Answered 1 A (call.Mkdir (codes "d" ∷ [])) (answer.Reply reply.Ok) (Some 1)
          ∷ Answered 2 A (call.Create (codes "a" ∷ [])) (answer.Reply reply.Ok) (Some 2)
          ∷ Answered 3 A (call.Write (codes "a" ∷ []) 0 (codes "abcdefgh")) (answer.Reply reply.Ok) (Some 3)
          ∷ Waits 4 B (call.Create (codes "b" ∷ [])) ∷ Durable A (1 ∷ 2 ∷ [])
          ∷ Answered 4 B (call.Create (codes "b" ∷ [])) (answer.Reply reply.Ok) (Some 1) ∷ Waits 5 A (call.Fsync (codes "a" ∷ []))
          ∷ Durable B (1 ∷ []) ∷ Durable A (3 ∷ []) ∷ Answered 5 A (call.Fsync (codes "a" ∷ [])) (answer.Reply reply.Ok) None
          ∷ Waits 6 B (call.Mkdir (codes "d" ∷ codes "k" ∷ []))
          ∷ Answered 6 B (call.Mkdir (codes "d" ∷ codes "k" ∷ [])) (answer.Reply reply.Ok) (Some 2) ∷ Waits 7 B (call.Stat (codes "a" ∷ []))
          ∷ Answered 7 B (call.Stat (codes "a" ∷ [])) (answer.Reply (reply.Stat kind.File 420 0 0 8)) None
          ∷ Waits 8 A (call.Write (codes "a" ∷ []) 1 (codes "ca"))
          ∷ Answered 8 A (call.Write (codes "a" ∷ []) 1 (codes "ca")) (answer.Reply reply.Ok) (Some 4)
          ∷ Answered 9 A (call.Write (codes "a" ∷ []) 0 (codes "xc")) (answer.Reply reply.Ok) (Some 5) ∷ Durable A (4 ∷ []) ∷ Nothing
          ∷ Waits 13 B (call.Write (codes "a" ∷ []) 4 (codes "ca")) ∷ Durable A (5 ∷ [])
          ∷ Answered 13 B (call.Write (codes "a" ∷ []) 4 (codes "ca")) (answer.Reply reply.Ok) (Some 3)
          ∷ Answered 14 A (call.Stat []) (answer.Reply (reply.Stat kind.Dir 493 0 0 3)) None
          ∷ Waits 15 B (call.Rename (codes "d" ∷ []) (codes "e" ∷ []))
          ∷ Answered 15 B (call.Rename (codes "d" ∷ []) (codes "e" ∷ [])) (answer.Reply reply.Ok) (Some 4)
          ∷ Answered 16 B (call.Write (codes "a" ∷ []) 2 (codes "ab")) (answer.Reply reply.Ok) (Some 5)
          ∷ Answered 17 B (call.Write (codes "a" ∷ []) 1 (codes "c")) (answer.Reply reply.Ok) (Some 6)
          ∷ Answered 18 B (call.Write (codes "a" ∷ []) 1 (codes "xz")) (answer.Reply reply.Ok) (Some 7)
          ∷ Waits 19 A (call.Read (codes "d" ∷ codes "a" ∷ []) 0 2) ∷ Durable B (2 ∷ 4 ∷ [])
          ∷ Answered 19 A (call.Read (codes "d" ∷ codes "a" ∷ []) 0 2) (answer.Reply (reply.Refused (no.NotFound 1))) None
          ∷ Waits 20 A (call.Fsync (codes "b" ∷ [])) ∷ Answered 20 A (call.Fsync (codes "b" ∷ [])) (answer.Reply reply.Ok) None
          ∷ Waits 21 A (call.Remove (codes "a" ∷ [])) ∷ Durable B (3 ∷ 5 ∷ 6 ∷ 7 ∷ [])
          ∷ Answered 21 A (call.Remove (codes "a" ∷ [])) (answer.Reply reply.Ok) (Some 6) ∷ Waits 22 B (call.Write (codes "b" ∷ []) 0 (codes "zabax"))
          ∷ Durable A (6 ∷ []) ∷ Answered 22 B (call.Write (codes "b" ∷ []) 0 (codes "zabax")) (answer.Reply reply.Ok) (Some 8)
          ∷ Waits 23 A (call.Read (codes "b" ∷ []) 0 64) ∷ Durable B (8 ∷ [])
          ∷ Answered 23 A (call.Read (codes "b" ∷ []) 0 64) (answer.Reply (reply.Data (codes "zabax"))) None
          ∷ Answered 25 A (call.Rename (codes "d" ∷ codes "a" ∷ []) (codes "d" ∷ codes "a2" ∷ [])) (answer.Reply (reply.Refused (no.NotFound 1))) None
          ∷ Waits 26 A (call.Create (codes "a" ∷ [])) ∷ Answered 26 A (call.Create (codes "a" ∷ [])) (answer.Reply reply.Ok) (Some 7)
          ∷ Waits 27 B (call.Write (codes "a" ∷ []) 2 (codes "b")) ∷ Durable A (7 ∷ [])
          ∷ Answered 27 B (call.Write (codes "a" ∷ []) 2 (codes "b")) (answer.Reply reply.Ok) (Some 9)
          ∷ Answered 28 B (call.Write (codes "a" ∷ []) 2 (codes "xx")) (answer.Reply reply.Ok) (Some 10)
          ∷ Waits 31 B (call.Forder ((codes "a" ∷ []) ∷ (codes "b" ∷ []) ∷ [])) ∷ Waits 32 B call.Sync ∷ Ended B (9 ∷ 10 ∷ [])
          ∷ Answered 34 B (call.Write (codes "a" ∷ []) 0 (codes "xcz")) (answer.Reply reply.Ok) (Some 11) ∷ Told B (9 ∷ 10 ∷ 11 ∷ [])
          ∷ Answered 32 B call.Sync (answer.Lost (9 ∷ 10 ∷ 11 ∷ [])) None
          ∷ Answered 31 B (call.Forder ((codes "a" ∷ []) ∷ (codes "b" ∷ []) ∷ [])) (answer.Reply reply.Ok) (Some 12)
          ∷ Answered 36 B (call.Read (codes "b" ∷ []) 0 9) (answer.Reply (reply.Data (codes "zabax"))) None
          ∷ Answered 37 B (call.List []) (answer.Reply (reply.Names (codes "a" ∷ codes "b" ∷ codes "e" ∷ []))) None
          ∷ Answered 38 B (call.Stat (codes "a2" ∷ [])) (answer.Reply (reply.Refused (no.NotFound 1))) None ∷ Nothing ∷ Durable B (12 ∷ [])
          ∷ Answered 45 A (call.List []) (answer.Reply (reply.Names (codes "a" ∷ codes "b" ∷ codes "e" ∷ []))) None
          ∷ Answered 46 B (call.List []) (answer.Reply (reply.Names (codes "a" ∷ codes "b" ∷ codes "e" ∷ []))) None
          ∷ Answered 47 B (call.Read (codes "a" ∷ []) 0 64) (answer.Reply (reply.Data [])) None
          ∷ Answered 48 B (call.Read (codes "b" ∷ []) 0 64) (answer.Reply (reply.Data (codes "zabax"))) None
          ∷ Answered 49 A (call.Read (codes "d" ∷ codes "a" ∷ []) 0 64) (answer.Reply (reply.Refused (no.NotFound 1))) None
          ∷ Answered 50 A call.Sync (answer.Reply reply.Ok) None ∷ Answered 51 B call.Sync (answer.Reply reply.Ok) None ∷ [];
      status = 0;
    }

abbrev pub crash_14 : Run
crash_14 =
    record {
      lines =
          reads (line.Call A (call.Mkdir (codes "d" ∷ []))) 9 ∷ reads (line.Call B (call.Create (codes "a" ∷ []))) 10
          ∷ reads (line.Call A (call.Create (codes "b" ∷ []))) 10 ∷ reads (line.Call A (call.Create (codes "d" ∷ codes "a" ∷ []))) 10
          ∷ reads (line.Repeat B msg.Kept 1) 15 ∷ reads (line.Crash B) 7 ∷ reads (line.Cut C) 5 ∷ reads (line.Cut A) 5
          ∷ reads (line.Call A (call.Chmod (codes "d" ∷ codes "a" ∷ []) 4095)) 14 ∷ reads (line.Uncut A) 7
          ∷ reads (line.Call B (call.Rename (codes "d" ∷ []) (codes "d" ∷ codes "k" ∷ []))) 13 ∷ reads (line.Call B (call.Touch [] 3)) 11
          ∷ reads (line.Call B call.Sync) 3 ∷ reads (line.Call C (call.Write (codes "b" ∷ []) 6 (codes "z"))) 14
          ∷ reads (line.Call A (call.Fsync [])) 9 ∷ reads (line.Push A 1) 8 ∷ reads (line.Call A (call.Rmdir (codes "d" ∷ []))) 9
          ∷ reads (line.Drop C msg.Hello 1) 14 ∷ reads (line.Push A 3) 8 ∷ reads (line.Repeat A msg.Kept 3) 15
          ∷ reads (line.Call C (call.Mkdir (codes "d" ∷ codes "k" ∷ []))) 9 ∷ reads (line.Cut B) 5 ∷ reads (line.Call B call.Sync) 3
          ∷ reads (line.Call B (call.Write (codes "b" ∷ []) 0 (codes "q"))) 14 ∷ reads (line.End B) 5 ∷ reads (line.Uncut B) 7
          ∷ reads (line.Call B (call.Stat (codes "b2" ∷ []))) 8 ∷ reads (line.Call B (call.Read (codes "b" ∷ []) 0 9)) 13
          ∷ reads (line.Call B call.Sync) 3 ∷ reads (line.Call A (call.Read (codes "d" ∷ codes "a" ∷ []) 1 64)) 15
          ∷ reads (line.Call C (call.Stat (codes "a" ∷ []))) 8 ∷ reads (line.End A) 5 ∷ reads (line.Call B (call.Fsync [])) 9
          ∷ reads (line.Call B (call.Write (codes "a" ∷ []) 4 (codes "c"))) 14
          ∷ reads (line.Call C (call.Rename (codes "b" ∷ []) (codes "a" ∷ []))) 13 ∷ reads (line.Call A (call.Fsync (codes "d" ∷ codes "a" ∷ []))) 9
          ∷ reads (line.Call C (call.Read (codes "d" ∷ codes "a" ∷ []) 3 0)) 15 ∷ reads (line.Cut A) 5
          ∷ reads (line.Call A (call.Forder ((codes "d" ∷ codes "a" ∷ []) ∷ (codes "d" ∷ codes "a" ∷ []) ∷ []))) 15 ∷ reads (line.End A) 5
          ∷ reads (line.Call B (call.Write (codes "b" ∷ []) 4 (codes "z"))) 14
          ∷ reads (line.Call C (call.Rename (codes "d" ∷ []) (codes "d" ∷ []))) 13 ∷ reads (line.Uncut A) 7
          ∷ reads (line.Call A (call.Stat (codes "d" ∷ codes "a2" ∷ []))) 8 ∷ reads (line.Call A (call.Read (codes "d" ∷ codes "a" ∷ []) 0 9)) 15
          ∷ reads (line.Call A call.Sync) 3 ∷ reads (line.Uncut C) 7 ∷ reads (line.Resend A) 8 ∷ reads (line.Resend B) 8 ∷ reads (line.Resend C) 8
          ∷ reads (line.Resend A) 8 ∷ reads (line.Resend B) 8 ∷ reads (line.Resend C) 8 ∷ reads (line.Call A (call.List [])) 8
          ∷ reads (line.Call B (call.List [])) 8 ∷ reads (line.Call C (call.List [])) 8 ∷ reads (line.Call A (call.Read (codes "a" ∷ []) 0 64)) 13
          ∷ reads (line.Call B (call.Read (codes "b" ∷ []) 0 64)) 13 ∷ reads (line.Call A (call.Read (codes "d" ∷ codes "a" ∷ []) 0 64)) 15 ∷ [];
      fates = [];
      max_objects = 1024;
      shown =
          Waits 1 A (call.Mkdir (codes "d" ∷ [])) ∷ Answered 1 A (call.Mkdir (codes "d" ∷ [])) (answer.Reply reply.Ok) (Some 1)
          ∷ Waits 2 B (call.Create (codes "a" ∷ [])) ∷ Durable A (1 ∷ [])
          ∷ Answered 2 B (call.Create (codes "a" ∷ [])) (answer.Reply reply.Ok) (Some 1) ∷ Waits 3 A (call.Create (codes "b" ∷ []))
          ∷ Durable B (1 ∷ []) ∷ Answered 3 A (call.Create (codes "b" ∷ [])) (answer.Reply reply.Ok) (Some 2)
          ∷ Answered 4 A (call.Create (codes "d" ∷ codes "a" ∷ [])) (answer.Reply reply.Ok) (Some 3) ∷ Crashed B
          ∷ Answered 9 A (call.Chmod (codes "d" ∷ codes "a" ∷ []) 4095) (answer.Reply reply.Ok) (Some 4)
          ∷ Waits 11 B (call.Rename (codes "d" ∷ []) (codes "d" ∷ codes "k" ∷ [])) ∷ Ended B [] ∷ Durable A (2 ∷ []) ∷ Durable A (3 ∷ [])
          ∷ Answered 11 B (call.Rename (codes "d" ∷ []) (codes "d" ∷ codes "k" ∷ [])) (answer.Reply (reply.Refused no.Loop)) None
          ∷ Waits 12 B (call.Touch [] 3) ∷ Answered 12 B (call.Touch [] 3) (answer.Reply reply.Ok) (Some 1) ∷ Waits 13 B call.Sync
          ∷ Durable B (1 ∷ []) ∷ Answered 13 B call.Sync (answer.Reply reply.Ok) None ∷ Waits 14 C (call.Write (codes "b" ∷ []) 6 (codes "z"))
          ∷ Waits 15 A (call.Fsync []) ∷ Answered 15 A (call.Fsync []) (answer.Reply reply.Ok) None ∷ Nothing
          ∷ Answered 17 A (call.Rmdir (codes "d" ∷ [])) (answer.Reply (reply.Refused no.NotEmpty)) None ∷ Nothing
          ∷ Waits 21 C (call.Mkdir (codes "d" ∷ codes "k" ∷ [])) ∷ Answered 23 B call.Sync (answer.Reply reply.Ok) None
          ∷ Waits 24 B (call.Write (codes "b" ∷ []) 0 (codes "q")) ∷ Ended B [] ∷ Told B []
          ∷ Answered 24 B (call.Write (codes "b" ∷ []) 0 (codes "q")) (answer.Reply reply.Ok) (Some 2)
          ∷ Answered 27 B (call.Stat (codes "b2" ∷ [])) (answer.Reply (reply.Refused (no.NotFound 1))) None
          ∷ Answered 28 B (call.Read (codes "b" ∷ []) 0 9) (answer.Reply (reply.Data (codes "q"))) None ∷ Waits 29 B call.Sync ∷ Durable B (2 ∷ [])
          ∷ Answered 29 B call.Sync (answer.Reply reply.Ok) None
          ∷ Answered 30 A (call.Read (codes "d" ∷ codes "a" ∷ []) 1 64) (answer.Reply (reply.Data [])) None ∷ Waits 31 C (call.Stat (codes "a" ∷ []))
          ∷ Ended A (4 ∷ []) ∷ Told A (4 ∷ []) ∷ Answered 33 B (call.Fsync []) (answer.Reply reply.Ok) None
          ∷ Waits 34 B (call.Write (codes "a" ∷ []) 4 (codes "c"))
          ∷ Answered 34 B (call.Write (codes "a" ∷ []) 4 (codes "c")) (answer.Reply reply.Ok) (Some 3)
          ∷ Waits 35 C (call.Rename (codes "b" ∷ []) (codes "a" ∷ [])) ∷ Waits 36 A (call.Fsync (codes "d" ∷ codes "a" ∷ []))
          ∷ Answered 36 A (call.Fsync (codes "d" ∷ codes "a" ∷ [])) (answer.Lost (4 ∷ [])) None
          ∷ Waits 37 C (call.Read (codes "d" ∷ codes "a" ∷ []) 3 0)
          ∷ Waits 39 A (call.Forder ((codes "d" ∷ codes "a" ∷ []) ∷ (codes "d" ∷ codes "a" ∷ []) ∷ [])) ∷ Ended A []
          ∷ Answered 41 B (call.Write (codes "b" ∷ []) 4 (codes "z")) (answer.Reply reply.Ok) (Some 4)
          ∷ Waits 42 C (call.Rename (codes "d" ∷ []) (codes "d" ∷ [])) ∷ Told A []
          ∷ Answered 39 A (call.Forder ((codes "d" ∷ codes "a" ∷ []) ∷ (codes "d" ∷ codes "a" ∷ []) ∷ [])) (answer.Reply reply.Ok) (Some 5)
          ∷ Answered 44 A (call.Stat (codes "d" ∷ codes "a2" ∷ [])) (answer.Reply (reply.Refused (no.NotFound 2))) None
          ∷ Answered 45 A (call.Read (codes "d" ∷ codes "a" ∷ []) 0 9) (answer.Reply (reply.Data [])) None ∷ Waits 46 A call.Sync ∷ Durable A (5 ∷ [])
          ∷ Answered 46 A call.Sync (answer.Reply reply.Ok) None
          ∷ Answered 42 C (call.Rename (codes "d" ∷ []) (codes "d" ∷ [])) (answer.Reply reply.Ok) None ∷ Durable B (4 ∷ []) ∷ Durable B (3 ∷ [])
          ∷ Answered 37 C (call.Read (codes "d" ∷ codes "a" ∷ []) 3 0) (answer.Reply (reply.Data [])) None
          ∷ Answered 31 C (call.Stat (codes "a" ∷ [])) (answer.Reply (reply.Stat kind.File 420 0 0 5)) None
          ∷ Answered 21 C (call.Mkdir (codes "d" ∷ codes "k" ∷ [])) (answer.Reply reply.Ok) (Some 1)
          ∷ Answered 14 C (call.Write (codes "b" ∷ []) 6 (codes "z")) (answer.Reply reply.Ok) (Some 2)
          ∷ Answered 35 C (call.Rename (codes "b" ∷ []) (codes "a" ∷ [])) (answer.Reply reply.Ok) (Some 3) ∷ Waits 54 A (call.List [])
          ∷ Durable C (2 ∷ 3 ∷ []) ∷ Answered 54 A (call.List []) (answer.Reply (reply.Names (codes "a" ∷ codes "d" ∷ []))) None
          ∷ Waits 55 B (call.List []) ∷ Answered 55 B (call.List []) (answer.Reply (reply.Names (codes "a" ∷ codes "d" ∷ []))) None
          ∷ Answered 56 C (call.List []) (answer.Reply (reply.Names (codes "a" ∷ codes "d" ∷ []))) None ∷ Waits 57 A (call.Read (codes "a" ∷ []) 0 64)
          ∷ Answered 57 A (call.Read (codes "a" ∷ []) 0 64) (answer.Reply (reply.Data (113 ∷ 0 ∷ 0 ∷ 0 ∷ 122 ∷ 0 ∷ 122 ∷ []))) None
          ∷ Answered 58 B (call.Read (codes "b" ∷ []) 0 64) (answer.Reply (reply.Refused (no.NotFound 1))) None
          ∷ Waits 59 A (call.Read (codes "d" ∷ codes "a" ∷ []) 0 64) ∷ Durable C (1 ∷ [])
          ∷ Answered 59 A (call.Read (codes "d" ∷ codes "a" ∷ []) 0 64) (answer.Reply (reply.Data [])) None ∷ [];
      status = 0;
    }

abbrev pub crash_15 : Run
crash_15 =
    record {
      lines =
          reads (line.Call B (call.Mkdir (codes "d" ∷ []))) 9 ∷ reads (line.Call B (call.Create (codes "a" ∷ []))) 10
          ∷ reads (line.Call B (call.Create (codes "b" ∷ []))) 10 ∷ reads (line.Call B (call.Create (codes "d" ∷ codes "a" ∷ []))) 10
          ∷ reads (line.Call B (call.Remove (codes "d" ∷ codes "a" ∷ []))) 10 ∷ reads (line.End A) 5
          ∷ reads (line.Call B (call.Write (codes "a" ∷ []) 0 (codes "yy"))) 14 ∷ reads (line.Call B (call.Chmod (codes "b" ∷ []) 493)) 12
          ∷ reads (line.Call A (call.Create (codes "d" ∷ codes "b" ∷ []))) 10 ∷ reads (line.Resend A) 8 ∷ reads (line.Push A 1) 8
          ∷ reads (line.Call A (call.Remove (codes "b" ∷ []))) 10 ∷ reads (line.Call B (call.Stat [])) 8
          ∷ reads (line.Call B (call.Write (codes "a" ∷ []) 0 (codes "xacaa"))) 14 ∷ reads (line.Call A (call.Fsync (codes "d" ∷ codes "b" ∷ []))) 9
          ∷ reads (line.Call A (call.Fsync (codes "d" ∷ []))) 9 ∷ reads (line.Call B (call.Write (codes "a" ∷ []) 1 (codes "c"))) 14
          ∷ reads (line.Call B (call.Remove (codes "d" ∷ codes "b" ∷ []))) 10 ∷ reads (line.Repeat B msg.Flush 3) 16
          ∷ reads (line.Call A (call.Remove (codes "a" ∷ []))) 10 ∷ reads (line.Call A (call.Write (codes "e" ∷ codes "a" ∷ []) 4 (codes "ccaab"))) 16
          ∷ reads (line.Call A (call.Mkdir (codes "d" ∷ codes "e" ∷ []))) 9 ∷ reads (line.Call B (call.Mkdir (codes "d" ∷ codes "k" ∷ []))) 9
          ∷ reads (line.Cut B) 5 ∷ reads (line.Push B 11) 8 ∷ reads (line.Call B call.Sync) 3 ∷ reads (line.End B) 5 ∷ reads (line.Uncut B) 7
          ∷ reads (line.Call B (call.List [])) 8 ∷ reads (line.Call B (call.Read (codes "d" ∷ codes "a" ∷ []) 0 9)) 15
          ∷ reads (line.Call B call.Sync) 3 ∷ reads (line.Push B 8) 8 ∷ reads (line.Call A (call.Fsync (codes "d" ∷ codes "e" ∷ []))) 9
          ∷ reads (line.Push B 9) 8 ∷ reads (line.Call B (call.Chown (codes "a" ∷ []) 6)) 12
          ∷ reads (line.Call B (call.Write (codes "d" ∷ codes "a" ∷ []) 6 (codes "by"))) 16
          ∷ reads (line.Call B (call.Chown (codes "d" ∷ codes "e" ∷ codes "a" ∷ []) 2)) 16
          ∷ reads (line.Call A (call.Write (codes "d" ∷ codes "e" ∷ codes "a" ∷ []) 2 (codes "yb"))) 18
          ∷ reads (line.Call A (call.Remove (codes "d" ∷ codes "e" ∷ codes "a" ∷ []))) 10 ∷ reads (line.Push A 1) 8
          ∷ reads (line.Call A (call.Write (codes "a" ∷ []) 0 (codes "bxa"))) 14 ∷ reads (line.Call A (call.List (codes "d" ∷ codes "e" ∷ []))) 8
          ∷ reads (line.Call B (call.Remove (codes "d" ∷ codes "a" ∷ []))) 10 ∷ reads (line.Call B (call.Write (codes "b" ∷ []) 1 (codes "aax"))) 14
          ∷ reads (line.Call A (call.Rename (codes "a" ∷ []) (codes "a" ∷ []))) 13
          ∷ reads (line.Call A (call.Rename (codes "d" ∷ codes "k" ∷ []) (codes "d" ∷ []))) 15
          ∷ reads (line.Call B (call.Write (codes "d" ∷ codes "b" ∷ []) 6 (codes "xyxyy"))) 16
          ∷ reads (line.Call B (call.Read (codes "b" ∷ []) 0 0)) 13 ∷ reads (line.Call A (call.Read (codes "d" ∷ codes "b" ∷ []) 0 9)) 15
          ∷ reads (line.Call A (call.Mkdir (codes "d" ∷ codes "e" ∷ []))) 9
          ∷ reads (line.Call B (call.Write (codes "d" ∷ codes "a" ∷ []) 0 (codes "xaabc"))) 16
          ∷ reads (line.Call B (call.Write (codes "a" ∷ []) 0 (codes "yyc"))) 14
          ∷ reads (line.Call A (call.Remove (codes "d" ∷ codes "e" ∷ codes "a" ∷ []))) 10 ∷ reads (line.Call B (call.Stat [])) 8
          ∷ reads (line.Call A (call.Remove (codes "e" ∷ codes "a" ∷ []))) 10
          ∷ reads (line.Call A (call.Write (codes "d" ∷ codes "e" ∷ codes "a" ∷ []) 2 (codes "bcaxz"))) 18
          ∷ reads (line.Call B (call.Create (codes "d" ∷ codes "b" ∷ []))) 10 ∷ reads (line.Crash B) 7 ∷ reads (line.Call A (call.Chmod [] 493)) 11
          ∷ reads (line.Call A (call.Write (codes "d" ∷ codes "b" ∷ []) 4 (codes "zbaba"))) 16 ∷ reads (line.Resend A) 8 ∷ reads (line.Resend A) 8
          ∷ reads (line.Call A (call.List [])) 8 ∷ reads (line.Call B (call.List [])) 8 ∷ reads (line.Call B (call.Read (codes "a" ∷ []) 0 64)) 13
          ∷ reads (line.Call A (call.Read (codes "b" ∷ []) 0 64)) 13 ∷ reads (line.Call A (call.Read (codes "d" ∷ codes "a" ∷ []) 0 64)) 15
          ∷ reads (line.Call A call.Sync) 3 ∷ reads (line.Call B call.Sync) 3 ∷ [];
      fates = [];
      max_objects = 1024;
      shown =
          Waits 1 B (call.Mkdir (codes "d" ∷ [])) ∷ Answered 1 B (call.Mkdir (codes "d" ∷ [])) (answer.Reply reply.Ok) (Some 1)
          ∷ Answered 2 B (call.Create (codes "a" ∷ [])) (answer.Reply reply.Ok) (Some 2)
          ∷ Answered 3 B (call.Create (codes "b" ∷ [])) (answer.Reply reply.Ok) (Some 3)
          ∷ Answered 4 B (call.Create (codes "d" ∷ codes "a" ∷ [])) (answer.Reply reply.Ok) (Some 4)
          ∷ Answered 5 B (call.Remove (codes "d" ∷ codes "a" ∷ [])) (answer.Reply reply.Ok) (Some 5) ∷ Nothing
          ∷ Answered 7 B (call.Write (codes "a" ∷ []) 0 (codes "yy")) (answer.Reply reply.Ok) (Some 6)
          ∷ Answered 8 B (call.Chmod (codes "b" ∷ []) 493) (answer.Reply reply.Ok) (Some 7) ∷ Waits 9 A (call.Create (codes "d" ∷ codes "b" ∷ []))
          ∷ Durable B (1 ∷ 2 ∷ 3 ∷ []) ∷ Durable B (4 ∷ 5 ∷ [])
          ∷ Answered 9 A (call.Create (codes "d" ∷ codes "b" ∷ [])) (answer.Reply reply.Ok) (Some 1) ∷ Durable A (1 ∷ [])
          ∷ Waits 12 A (call.Remove (codes "b" ∷ [])) ∷ Durable B (7 ∷ [])
          ∷ Answered 12 A (call.Remove (codes "b" ∷ [])) (answer.Reply reply.Ok) (Some 2) ∷ Waits 13 B (call.Stat []) ∷ Durable A (2 ∷ [])
          ∷ Answered 13 B (call.Stat []) (answer.Reply (reply.Stat kind.Dir 493 0 0 2)) None
          ∷ Answered 14 B (call.Write (codes "a" ∷ []) 0 (codes "xacaa")) (answer.Reply reply.Ok) (Some 8)
          ∷ Answered 15 A (call.Fsync (codes "d" ∷ codes "b" ∷ [])) (answer.Reply reply.Ok) None
          ∷ Answered 16 A (call.Fsync (codes "d" ∷ [])) (answer.Reply reply.Ok) None
          ∷ Answered 17 B (call.Write (codes "a" ∷ []) 1 (codes "c")) (answer.Reply reply.Ok) (Some 9)
          ∷ Waits 18 B (call.Remove (codes "d" ∷ codes "b" ∷ []))
          ∷ Answered 18 B (call.Remove (codes "d" ∷ codes "b" ∷ [])) (answer.Reply reply.Ok) (Some 10) ∷ Waits 20 A (call.Remove (codes "a" ∷ []))
          ∷ Durable B (6 ∷ 8 ∷ 9 ∷ []) ∷ Answered 20 A (call.Remove (codes "a" ∷ [])) (answer.Reply reply.Ok) (Some 3)
          ∷ Answered 21 A (call.Write (codes "e" ∷ codes "a" ∷ []) 4 (codes "ccaab")) (answer.Reply (reply.Refused (no.NotFound 1))) None
          ∷ Waits 22 A (call.Mkdir (codes "d" ∷ codes "e" ∷ [])) ∷ Durable B (10 ∷ [])
          ∷ Answered 22 A (call.Mkdir (codes "d" ∷ codes "e" ∷ [])) (answer.Reply reply.Ok) (Some 4)
          ∷ Waits 23 B (call.Mkdir (codes "d" ∷ codes "k" ∷ [])) ∷ Durable A (3 ∷ []) ∷ Durable A (4 ∷ [])
          ∷ Answered 23 B (call.Mkdir (codes "d" ∷ codes "k" ∷ [])) (answer.Reply reply.Ok) (Some 11) ∷ Waits 26 B call.Sync ∷ Ended B (11 ∷ [])
          ∷ Told B (11 ∷ []) ∷ Answered 26 B call.Sync (answer.Lost (11 ∷ [])) None ∷ Waits 29 B (call.List [])
          ∷ Answered 29 B (call.List []) (answer.Reply (reply.Names (codes "d" ∷ []))) None ∷ Waits 30 B (call.Read (codes "d" ∷ codes "a" ∷ []) 0 9)
          ∷ Answered 30 B (call.Read (codes "d" ∷ codes "a" ∷ []) 0 9) (answer.Reply (reply.Refused (no.NotFound 2))) None
          ∷ Answered 31 B call.Sync (answer.Reply reply.Ok) None ∷ Nothing ∷ Waits 33 A (call.Fsync (codes "d" ∷ codes "e" ∷ []))
          ∷ Answered 33 A (call.Fsync (codes "d" ∷ codes "e" ∷ [])) (answer.Reply reply.Ok) None ∷ Nothing
          ∷ Answered 35 B (call.Chown (codes "a" ∷ []) 6) (answer.Reply (reply.Refused (no.NotFound 1))) None
          ∷ Answered 36 B (call.Write (codes "d" ∷ codes "a" ∷ []) 6 (codes "by")) (answer.Reply (reply.Refused (no.NotFound 2))) None
          ∷ Waits 37 B (call.Chown (codes "d" ∷ codes "e" ∷ codes "a" ∷ []) 2)
          ∷ Answered 37 B (call.Chown (codes "d" ∷ codes "e" ∷ codes "a" ∷ []) 2) (answer.Reply (reply.Refused (no.NotFound 3))) None
          ∷ Answered 38 A (call.Write (codes "d" ∷ codes "e" ∷ codes "a" ∷ []) 2 (codes "yb")) (answer.Reply (reply.Refused (no.NotFound 3))) None
          ∷ Answered 39 A (call.Remove (codes "d" ∷ codes "e" ∷ codes "a" ∷ [])) (answer.Reply (reply.Refused (no.NotFound 3))) None ∷ Nothing
          ∷ Answered 41 A (call.Write (codes "a" ∷ []) 0 (codes "bxa")) (answer.Reply (reply.Refused (no.NotFound 1))) None
          ∷ Answered 42 A (call.List (codes "d" ∷ codes "e" ∷ [])) (answer.Reply (reply.Names [])) None
          ∷ Answered 43 B (call.Remove (codes "d" ∷ codes "a" ∷ [])) (answer.Reply (reply.Refused (no.NotFound 2))) None
          ∷ Answered 44 B (call.Write (codes "b" ∷ []) 1 (codes "aax")) (answer.Reply (reply.Refused (no.NotFound 1))) None
          ∷ Answered 45 A (call.Rename (codes "a" ∷ []) (codes "a" ∷ [])) (answer.Reply (reply.Refused (no.NotFound 1))) None
          ∷ Answered 46 A (call.Rename (codes "d" ∷ codes "k" ∷ []) (codes "d" ∷ [])) (answer.Reply (reply.Refused (no.NotFound 2))) None
          ∷ Answered 47 B (call.Write (codes "d" ∷ codes "b" ∷ []) 6 (codes "xyxyy")) (answer.Reply (reply.Refused (no.NotFound 2))) None
          ∷ Answered 48 B (call.Read (codes "b" ∷ []) 0 0) (answer.Reply (reply.Refused (no.NotFound 1))) None
          ∷ Answered 49 A (call.Read (codes "d" ∷ codes "b" ∷ []) 0 9) (answer.Reply (reply.Refused (no.NotFound 2))) None
          ∷ Answered 50 A (call.Mkdir (codes "d" ∷ codes "e" ∷ [])) (answer.Reply (reply.Refused no.Exists)) None
          ∷ Answered 51 B (call.Write (codes "d" ∷ codes "a" ∷ []) 0 (codes "xaabc")) (answer.Reply (reply.Refused (no.NotFound 2))) None
          ∷ Answered 52 B (call.Write (codes "a" ∷ []) 0 (codes "yyc")) (answer.Reply (reply.Refused (no.NotFound 1))) None
          ∷ Answered 53 A (call.Remove (codes "d" ∷ codes "e" ∷ codes "a" ∷ [])) (answer.Reply (reply.Refused (no.NotFound 3))) None
          ∷ Answered 54 B (call.Stat []) (answer.Reply (reply.Stat kind.Dir 493 0 0 1)) None
          ∷ Answered 55 A (call.Remove (codes "e" ∷ codes "a" ∷ [])) (answer.Reply (reply.Refused (no.NotFound 1))) None
          ∷ Answered 56 A (call.Write (codes "d" ∷ codes "e" ∷ codes "a" ∷ []) 2 (codes "bcaxz")) (answer.Reply (reply.Refused (no.NotFound 3))) None
          ∷ Waits 57 B (call.Create (codes "d" ∷ codes "b" ∷ []))
          ∷ Answered 57 B (call.Create (codes "d" ∷ codes "b" ∷ [])) (answer.Reply reply.Ok) (Some 12) ∷ Crashed B ∷ Waits 59 A (call.Chmod [] 493)
          ∷ Waits 60 A (call.Write (codes "d" ∷ codes "b" ∷ []) 4 (codes "zbaba"))
          ∷ Answered 63 A (call.List []) (answer.Reply (reply.Names (codes "d" ∷ []))) None ∷ Waits 64 B (call.List []) ∷ Ended B (12 ∷ [])
          ∷ Answered 59 A (call.Chmod [] 493) (answer.Reply reply.Ok) (Some 5)
          ∷ Answered 60 A (call.Write (codes "d" ∷ codes "b" ∷ []) 4 (codes "zbaba")) (answer.Reply (reply.Refused (no.NotFound 2))) None
          ∷ Durable A (5 ∷ []) ∷ Answered 64 B (call.List []) (answer.Reply (reply.Names (codes "d" ∷ []))) None
          ∷ Answered 65 B (call.Read (codes "a" ∷ []) 0 64) (answer.Reply (reply.Refused (no.NotFound 1))) None
          ∷ Answered 66 A (call.Read (codes "b" ∷ []) 0 64) (answer.Reply (reply.Refused (no.NotFound 1))) None
          ∷ Answered 67 A (call.Read (codes "d" ∷ codes "a" ∷ []) 0 64) (answer.Reply (reply.Refused (no.NotFound 2))) None
          ∷ Answered 68 A call.Sync (answer.Reply reply.Ok) None ∷ Answered 69 B call.Sync (answer.Reply reply.Ok) None ∷ [];
      status = 0;
    }
