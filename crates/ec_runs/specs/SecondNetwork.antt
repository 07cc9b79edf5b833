-- Random scripts with lost, repeated and late messages.
use Rattle.std.specs.Prelude.{[], ◌∷◌, None, Some, codes}
use Rattle.ec_volume.specs.declared.image.Kind.TheVariants as kind
use Rattle.ec_plain.specs.declared.call.Call.TheVariants as call
use Rattle.ec_plain.specs.declared.call.Reply.TheVariants as reply
use Rattle.ec_plain.specs.declared.call.Refusal.TheVariants as no
use Rattle.ec_history.specs.declared.entry.Answer.TheVariants as answer
use Rattle.ec_history.specs.declared.shown.Shown.TheVariants.{Waits, Answered, Durable, Nothing}
use Rattle.ec_wire.specs.declared.msg.MsgKind.TheVariants as msg
use Rattle.ec_protocol.specs.declared.script.Line.TheVariants as line
use Rattle.ec_protocol.specs.Drill.{reads}
use Rattle.ec_protocol.specs.Runs.{Run, A, B, C, D}

abbrev pub net_8 : Run
net_8 =
    record {
      lines =
          reads (line.Call A call.Sync) 3 ∷ reads (line.Deliver A msg.Claim 1) 17 ∷ reads (line.Resend C) 8
          ∷ reads (line.Call A (call.Write (codes "e" ∷ codes "a" ∷ []) 1 (codes "xx"))) 16
          ∷ reads (line.Call A (call.Write (codes "e" ∷ codes "a" ∷ []) 4 (codes "z"))) 16
          ∷ reads (line.Call B (call.Write (codes "e" ∷ codes "a" ∷ []) 1 (codes "zby"))) 16 ∷ reads (line.Call A (call.Create (codes "a" ∷ []))) 10
          ∷ reads (line.Call C (call.Rename (codes "e" ∷ []) (codes "e" ∷ []))) 13 ∷ reads (line.Call B (call.Forder ([] ∷ [] ∷ []))) 12
          ∷ reads (line.Call C (call.Rename (codes "d" ∷ []) (codes "e" ∷ []))) 13 ∷ reads (line.Call A (call.Create (codes "a" ∷ []))) 10
          ∷ reads (line.Call A (call.Fsync (codes "a" ∷ []))) 9 ∷ reads (line.Call A (call.Rename (codes "e" ∷ []) (codes "e" ∷ codes "z" ∷ []))) 13
          ∷ reads (line.Resend B) 8 ∷ reads (line.Repeat A msg.Recall 2) 17 ∷ reads (line.Call A (call.SetLen (codes "a" ∷ []) 8)) 13
          ∷ reads (line.Cut B) 5 ∷ reads (line.Call B (call.Read (codes "e" ∷ codes "a" ∷ []) 0 0)) 15
          ∷ reads (line.Call B (call.Write (codes "a" ∷ []) 2 (codes "azzzc"))) 14 ∷ reads (line.Call C (call.Stat [])) 8
          ∷ reads (line.Call B (call.Forder ([] ∷ (codes "e" ∷ []) ∷ (codes "a" ∷ []) ∷ []))) 15 ∷ reads (line.Repeat C msg.Back 1) 15
          ∷ reads (line.Uncut B) 7 ∷ reads (line.Call B (call.Rename (codes "e" ∷ []) (codes "d" ∷ codes "e" ∷ codes "k" ∷ []))) 13
          ∷ reads (line.Cut A) 5 ∷ reads (line.Cut B) 5 ∷ reads (line.Cut C) 5 ∷ reads (line.Call B (call.Chown (codes "a" ∷ []) 5)) 12
          ∷ reads (line.Push B 1) 8 ∷ reads (line.Call A (call.Stat [])) 8 ∷ reads (line.Call B (call.Write (codes "a" ∷ []) 3 (codes "a"))) 14
          ∷ reads (line.Call B (call.Write (codes "a" ∷ []) 5 (codes "a"))) 14 ∷ reads (line.Call B (call.Write (codes "a" ∷ []) 5 (codes "c"))) 14
          ∷ reads (line.Push B 5) 8 ∷ reads (line.Call C (call.Write (codes "a" ∷ []) 1 (codes "cb"))) 14 ∷ reads (line.Cut B) 5
          ∷ reads (line.Deliver C msg.Want 3) 16 ∷ reads (line.Call B (call.Read (codes "a" ∷ []) 0 0)) 13 ∷ reads (line.Deliver B msg.Recall 3) 18
          ∷ reads (line.Call B (call.Read (codes "d" ∷ codes "a" ∷ []) 1 2)) 15 ∷ reads (line.Uncut A) 7 ∷ reads (line.Uncut B) 7
          ∷ reads (line.Uncut C) 7 ∷ reads (line.Resend A) 8 ∷ reads (line.Resend B) 8 ∷ reads (line.Resend C) 8 ∷ reads (line.Resend A) 8
          ∷ reads (line.Resend B) 8 ∷ reads (line.Resend C) 8 ∷ reads (line.Call A (call.List [])) 8 ∷ reads (line.Call B (call.List [])) 8
          ∷ reads (line.Call C (call.List [])) 8 ∷ reads (line.Call A (call.Read (codes "a" ∷ []) 0 64)) 13
          ∷ reads (line.Call C (call.Read (codes "d" ∷ codes "a" ∷ []) 0 64)) 15
          ∷ reads (line.Call C (call.Read (codes "e" ∷ codes "a" ∷ []) 0 64)) 15 ∷ reads (line.Call A call.Sync) 3 ∷ reads (line.Call B call.Sync) 3
          ∷ reads (line.Call C call.Sync) 3 ∷ [];
      fates = [];
      max_objects = 1024;
      shown =
          Answered 1 A call.Sync (answer.Reply reply.Ok) None ∷ Nothing ∷ Waits 4 A (call.Write (codes "e" ∷ codes "a" ∷ []) 1 (codes "xx"))
          ∷ Answered 4 A (call.Write (codes "e" ∷ codes "a" ∷ []) 1 (codes "xx")) (answer.Reply (reply.Refused (no.NotFound 1))) None
          ∷ Answered 5 A (call.Write (codes "e" ∷ codes "a" ∷ []) 4 (codes "z")) (answer.Reply (reply.Refused (no.NotFound 1))) None
          ∷ Waits 6 B (call.Write (codes "e" ∷ codes "a" ∷ []) 1 (codes "zby"))
          ∷ Answered 6 B (call.Write (codes "e" ∷ codes "a" ∷ []) 1 (codes "zby")) (answer.Reply (reply.Refused (no.NotFound 1))) None
          ∷ Waits 7 A (call.Create (codes "a" ∷ [])) ∷ Answered 7 A (call.Create (codes "a" ∷ [])) (answer.Reply reply.Ok) (Some 1)
          ∷ Waits 8 C (call.Rename (codes "e" ∷ []) (codes "e" ∷ [])) ∷ Durable A (1 ∷ [])
          ∷ Answered 8 C (call.Rename (codes "e" ∷ []) (codes "e" ∷ [])) (answer.Reply (reply.Refused (no.NotFound 1))) None
          ∷ Waits 9 B (call.Forder ([] ∷ [] ∷ [])) ∷ Answered 9 B (call.Forder ([] ∷ [] ∷ [])) (answer.Reply reply.Ok) (Some 1)
          ∷ Waits 10 C (call.Rename (codes "d" ∷ []) (codes "e" ∷ [])) ∷ Durable B (1 ∷ [])
          ∷ Answered 10 C (call.Rename (codes "d" ∷ []) (codes "e" ∷ [])) (answer.Reply (reply.Refused (no.NotFound 1))) None
          ∷ Waits 11 A (call.Create (codes "a" ∷ [])) ∷ Answered 11 A (call.Create (codes "a" ∷ [])) (answer.Reply (reply.Refused no.Exists)) None
          ∷ Answered 12 A (call.Fsync (codes "a" ∷ [])) (answer.Reply reply.Ok) None
          ∷ Answered 13 A (call.Rename (codes "e" ∷ []) (codes "e" ∷ codes "z" ∷ [])) (answer.Reply (reply.Refused (no.NotFound 1))) None
          ∷ Answered 16 A (call.SetLen (codes "a" ∷ []) 8) (answer.Reply reply.Ok) (Some 2)
          ∷ Answered 18 B (call.Read (codes "e" ∷ codes "a" ∷ []) 0 0) (answer.Reply (reply.Refused (no.NotFound 1))) None
          ∷ Waits 19 B (call.Write (codes "a" ∷ []) 2 (codes "azzzc"))
          ∷ Answered 20 C (call.Stat []) (answer.Reply (reply.Stat kind.Dir 493 0 0 1)) None
          ∷ Answered 21 B (call.Forder ([] ∷ (codes "e" ∷ []) ∷ (codes "a" ∷ []) ∷ [])) (answer.Reply (reply.Refused (no.NotFound 1))) None
          ∷ Durable A (2 ∷ []) ∷ Answered 19 B (call.Write (codes "a" ∷ []) 2 (codes "azzzc")) (answer.Reply reply.Ok) (Some 2)
          ∷ Answered 24 B (call.Rename (codes "e" ∷ []) (codes "d" ∷ codes "e" ∷ codes "k" ∷ [])) (answer.Reply (reply.Refused (no.NotFound 1))) None
          ∷ Answered 28 B (call.Chown (codes "a" ∷ []) 5) (answer.Reply reply.Ok) (Some 3) ∷ Nothing
          ∷ Answered 30 A (call.Stat []) (answer.Reply (reply.Stat kind.Dir 493 0 0 1)) None
          ∷ Answered 31 B (call.Write (codes "a" ∷ []) 3 (codes "a")) (answer.Reply reply.Ok) (Some 4)
          ∷ Answered 32 B (call.Write (codes "a" ∷ []) 5 (codes "a")) (answer.Reply reply.Ok) (Some 5)
          ∷ Answered 33 B (call.Write (codes "a" ∷ []) 5 (codes "c")) (answer.Reply reply.Ok) (Some 6)
          ∷ Waits 35 C (call.Write (codes "a" ∷ []) 1 (codes "cb")) ∷ Nothing
          ∷ Answered 38 B (call.Read (codes "a" ∷ []) 0 0) (answer.Reply (reply.Data [])) None
          ∷ Answered 40 B (call.Read (codes "d" ∷ codes "a" ∷ []) 1 2) (answer.Reply (reply.Refused (no.NotFound 1))) None
          ∷ Durable B (2 ∷ 3 ∷ 5 ∷ []) ∷ Durable B (4 ∷ 6 ∷ [])
          ∷ Answered 35 C (call.Write (codes "a" ∷ []) 1 (codes "cb")) (answer.Reply reply.Ok) (Some 1)
          ∷ Answered 50 A (call.List []) (answer.Reply (reply.Names (codes "a" ∷ []))) None
          ∷ Answered 51 B (call.List []) (answer.Reply (reply.Names (codes "a" ∷ []))) None
          ∷ Answered 52 C (call.List []) (answer.Reply (reply.Names (codes "a" ∷ []))) None ∷ Waits 53 A (call.Read (codes "a" ∷ []) 0 64)
          ∷ Durable C (1 ∷ [])
          ∷ Answered 53 A (call.Read (codes "a" ∷ []) 0 64) (answer.Reply (reply.Data (0 ∷ 99 ∷ 98 ∷ 97 ∷ 122 ∷ 99 ∷ 99 ∷ 0 ∷ []))) None
          ∷ Answered 54 C (call.Read (codes "d" ∷ codes "a" ∷ []) 0 64) (answer.Reply (reply.Refused (no.NotFound 1))) None
          ∷ Answered 55 C (call.Read (codes "e" ∷ codes "a" ∷ []) 0 64) (answer.Reply (reply.Refused (no.NotFound 1))) None
          ∷ Answered 56 A call.Sync (answer.Reply reply.Ok) None ∷ Answered 57 B call.Sync (answer.Reply reply.Ok) None
          ∷ Answered 58 C call.Sync (answer.Reply reply.Ok) None ∷ [];
      status = 0;
    }

abbrev pub net_9 : Run
net_9 =
    record {
      lines =
          reads (line.Call C (call.Fsync [])) 9
          ∷ reads (line.Call A (call.Forder ((codes "d" ∷ []) ∷ (codes "b" ∷ []) ∷ (codes "d" ∷ codes "k" ∷ []) ∷ []))) 16
          ∷ reads (line.Call A (call.Create (codes "b" ∷ []))) 10 ∷ reads (line.Deliver C msg.Claim 1) 17 ∷ reads (line.Call C (call.List [])) 8
          ∷ reads (line.Call B (call.Touch (codes "b" ∷ []) 8)) 12 ∷ reads (line.Call C (call.Read (codes "b" ∷ []) 0 9)) 13
          ∷ reads (line.Call B (call.Create (codes "a" ∷ []))) 10 ∷ reads (line.Resend A) 8 ∷ reads (line.Call A (call.Read (codes "a" ∷ []) 3 9)) 13
          ∷ reads (line.Call A (call.SetLen (codes "a" ∷ []) 0)) 13 ∷ reads (line.Call A (call.Mkdir (codes "e" ∷ []))) 9
          ∷ reads (line.Call B (call.Rmdir (codes "e" ∷ []))) 9 ∷ reads (line.Call C (call.Stat [])) 8
          ∷ reads (line.Call B (call.Read (codes "a" ∷ []) 0 0)) 13 ∷ reads (line.Call B (call.Write (codes "a" ∷ []) 3 (codes "yb"))) 14
          ∷ reads (line.Call C (call.Fsync (codes "b" ∷ []))) 9 ∷ reads (line.Push A 1) 8 ∷ reads (line.Push B 3) 8 ∷ reads (line.Push B 4) 8
          ∷ reads (line.Call C (call.Write (codes "a" ∷ []) 3 (codes "x"))) 14 ∷ reads (line.Call A (call.Chmod (codes "b" ∷ []) 493)) 12
          ∷ reads (line.Call B (call.Remove (codes "a" ∷ []))) 10 ∷ reads (line.Call B (call.Rmdir (codes "d" ∷ codes "e" ∷ []))) 9
          ∷ reads (line.Call C (call.Create (codes "a" ∷ []))) 10 ∷ reads (line.Call C (call.Read (codes "b" ∷ []) 1 9)) 13 ∷ reads (line.Push A 1) 8
          ∷ reads (line.Call A (call.Chmod (codes "b" ∷ []) 384)) 12 ∷ reads (line.Call A (call.List (codes "d" ∷ []))) 8
          ∷ reads (line.Call C (call.SetLen (codes "a" ∷ []) 0)) 13 ∷ reads (line.Call A (call.Write (codes "a" ∷ []) 0 (codes "b"))) 14
          ∷ reads (line.Call A (call.Write (codes "b" ∷ []) 2 (codes "xa"))) 14 ∷ reads (line.Push C 1) 8
          ∷ reads (line.Call B (call.Read (codes "b" ∷ []) 0 9)) 13 ∷ reads (line.Call B (call.Mkdir (codes "d" ∷ []))) 9
          ∷ reads (line.Call B (call.Write (codes "a" ∷ []) 0 (codes "y"))) 14 ∷ reads (line.Call A (call.List [])) 8
          ∷ reads (line.Call A (call.Stat (codes "b" ∷ []))) 8 ∷ reads (line.Call C (call.Create (codes "d" ∷ codes "a" ∷ []))) 10
          ∷ reads (line.Call B (call.List (codes "d" ∷ []))) 8 ∷ reads (line.Resend A) 8 ∷ reads (line.Resend B) 8 ∷ reads (line.Resend C) 8
          ∷ reads (line.Resend A) 8 ∷ reads (line.Resend B) 8 ∷ reads (line.Resend C) 8 ∷ reads (line.Call A (call.List [])) 8
          ∷ reads (line.Call B (call.List [])) 8 ∷ reads (line.Call C (call.List [])) 8 ∷ reads (line.Call B (call.Read (codes "a" ∷ []) 0 64)) 13
          ∷ reads (line.Call C (call.Read (codes "b" ∷ []) 0 64)) 13 ∷ reads (line.Call A (call.Read (codes "d" ∷ codes "a" ∷ []) 0 64)) 15 ∷ [];
      fates = [];
      max_objects = 1024;
      shown =
          Waits 1 C (call.Fsync []) ∷ Answered 1 C (call.Fsync []) (answer.Reply reply.Ok) None
          ∷ Waits 2 A (call.Forder ((codes "d" ∷ []) ∷ (codes "b" ∷ []) ∷ (codes "d" ∷ codes "k" ∷ []) ∷ []))
          ∷ Answered 2 A (call.Forder ((codes "d" ∷ []) ∷ (codes "b" ∷ []) ∷ (codes "d" ∷ codes "k" ∷ []) ∷ [])) (answer.Reply (reply.Refused (no.NotFound 1))) None
          ∷ Waits 3 A (call.Create (codes "b" ∷ [])) ∷ Answered 3 A (call.Create (codes "b" ∷ [])) (answer.Reply reply.Ok) (Some 1)
          ∷ Waits 5 C (call.List []) ∷ Durable A (1 ∷ []) ∷ Answered 5 C (call.List []) (answer.Reply (reply.Names (codes "b" ∷ []))) None
          ∷ Waits 6 B (call.Touch (codes "b" ∷ []) 8) ∷ Answered 6 B (call.Touch (codes "b" ∷ []) 8) (answer.Reply reply.Ok) (Some 1)
          ∷ Waits 7 C (call.Read (codes "b" ∷ []) 0 9) ∷ Durable B (1 ∷ [])
          ∷ Answered 7 C (call.Read (codes "b" ∷ []) 0 9) (answer.Reply (reply.Data [])) None ∷ Waits 8 B (call.Create (codes "a" ∷ []))
          ∷ Answered 8 B (call.Create (codes "a" ∷ [])) (answer.Reply reply.Ok) (Some 2) ∷ Waits 10 A (call.Read (codes "a" ∷ []) 3 9)
          ∷ Durable B (2 ∷ []) ∷ Answered 10 A (call.Read (codes "a" ∷ []) 3 9) (answer.Reply (reply.Data [])) None
          ∷ Waits 11 A (call.SetLen (codes "a" ∷ []) 0) ∷ Answered 11 A (call.SetLen (codes "a" ∷ []) 0) (answer.Reply reply.Ok) (Some 2)
          ∷ Waits 12 A (call.Mkdir (codes "e" ∷ [])) ∷ Answered 12 A (call.Mkdir (codes "e" ∷ [])) (answer.Reply reply.Ok) (Some 3)
          ∷ Waits 13 B (call.Rmdir (codes "e" ∷ [])) ∷ Durable A (3 ∷ [])
          ∷ Answered 13 B (call.Rmdir (codes "e" ∷ [])) (answer.Reply reply.Ok) (Some 3) ∷ Waits 14 C (call.Stat []) ∷ Durable B (3 ∷ [])
          ∷ Answered 14 C (call.Stat []) (answer.Reply (reply.Stat kind.Dir 493 0 0 2)) None ∷ Waits 15 B (call.Read (codes "a" ∷ []) 0 0)
          ∷ Durable A (2 ∷ []) ∷ Answered 15 B (call.Read (codes "a" ∷ []) 0 0) (answer.Reply (reply.Data [])) None
          ∷ Waits 16 B (call.Write (codes "a" ∷ []) 3 (codes "yb"))
          ∷ Answered 16 B (call.Write (codes "a" ∷ []) 3 (codes "yb")) (answer.Reply reply.Ok) (Some 4)
          ∷ Answered 17 C (call.Fsync (codes "b" ∷ [])) (answer.Reply reply.Ok) None ∷ Nothing ∷ Nothing ∷ Durable B (4 ∷ [])
          ∷ Waits 21 C (call.Write (codes "a" ∷ []) 3 (codes "x"))
          ∷ Answered 21 C (call.Write (codes "a" ∷ []) 3 (codes "x")) (answer.Reply reply.Ok) (Some 1) ∷ Waits 22 A (call.Chmod (codes "b" ∷ []) 493)
          ∷ Answered 22 A (call.Chmod (codes "b" ∷ []) 493) (answer.Reply reply.Ok) (Some 4) ∷ Waits 23 B (call.Remove (codes "a" ∷ []))
          ∷ Durable C (1 ∷ []) ∷ Answered 23 B (call.Remove (codes "a" ∷ [])) (answer.Reply reply.Ok) (Some 5)
          ∷ Answered 24 B (call.Rmdir (codes "d" ∷ codes "e" ∷ [])) (answer.Reply (reply.Refused (no.NotFound 1))) None
          ∷ Waits 25 C (call.Create (codes "a" ∷ [])) ∷ Durable B (5 ∷ [])
          ∷ Answered 25 C (call.Create (codes "a" ∷ [])) (answer.Reply reply.Ok) (Some 2) ∷ Waits 26 C (call.Read (codes "b" ∷ []) 1 9)
          ∷ Durable A (4 ∷ []) ∷ Answered 26 C (call.Read (codes "b" ∷ []) 1 9) (answer.Reply (reply.Data [])) None ∷ Nothing
          ∷ Waits 28 A (call.Chmod (codes "b" ∷ []) 384) ∷ Durable C (2 ∷ [])
          ∷ Answered 28 A (call.Chmod (codes "b" ∷ []) 384) (answer.Reply reply.Ok) (Some 5)
          ∷ Answered 29 A (call.List (codes "d" ∷ [])) (answer.Reply (reply.Refused (no.NotFound 1))) None
          ∷ Answered 30 C (call.SetLen (codes "a" ∷ []) 0) (answer.Reply reply.Ok) (Some 3) ∷ Waits 31 A (call.Write (codes "a" ∷ []) 0 (codes "b"))
          ∷ Durable C (3 ∷ []) ∷ Answered 31 A (call.Write (codes "a" ∷ []) 0 (codes "b")) (answer.Reply reply.Ok) (Some 6)
          ∷ Answered 32 A (call.Write (codes "b" ∷ []) 2 (codes "xa")) (answer.Reply reply.Ok) (Some 7) ∷ Nothing
          ∷ Waits 34 B (call.Read (codes "b" ∷ []) 0 9) ∷ Durable A (5 ∷ 7 ∷ [])
          ∷ Answered 34 B (call.Read (codes "b" ∷ []) 0 9) (answer.Reply (reply.Data (0 ∷ 0 ∷ 120 ∷ 97 ∷ []))) None
          ∷ Waits 35 B (call.Mkdir (codes "d" ∷ [])) ∷ Answered 35 B (call.Mkdir (codes "d" ∷ [])) (answer.Reply reply.Ok) (Some 6)
          ∷ Waits 36 B (call.Write (codes "a" ∷ []) 0 (codes "y")) ∷ Durable A (6 ∷ [])
          ∷ Answered 36 B (call.Write (codes "a" ∷ []) 0 (codes "y")) (answer.Reply reply.Ok) (Some 7) ∷ Waits 37 A (call.List [])
          ∷ Durable B (6 ∷ []) ∷ Answered 37 A (call.List []) (answer.Reply (reply.Names (codes "a" ∷ codes "b" ∷ codes "d" ∷ []))) None
          ∷ Answered 38 A (call.Stat (codes "b" ∷ [])) (answer.Reply (reply.Stat kind.File 384 8 0 4)) None
          ∷ Waits 39 C (call.Create (codes "d" ∷ codes "a" ∷ []))
          ∷ Answered 39 C (call.Create (codes "d" ∷ codes "a" ∷ [])) (answer.Reply reply.Ok) (Some 4) ∷ Waits 40 B (call.List (codes "d" ∷ []))
          ∷ Durable C (4 ∷ []) ∷ Answered 40 B (call.List (codes "d" ∷ [])) (answer.Reply (reply.Names (codes "a" ∷ []))) None
          ∷ Answered 47 A (call.List []) (answer.Reply (reply.Names (codes "a" ∷ codes "b" ∷ codes "d" ∷ []))) None
          ∷ Answered 48 B (call.List []) (answer.Reply (reply.Names (codes "a" ∷ codes "b" ∷ codes "d" ∷ []))) None
          ∷ Answered 49 C (call.List []) (answer.Reply (reply.Names (codes "a" ∷ codes "b" ∷ codes "d" ∷ []))) None
          ∷ Answered 50 B (call.Read (codes "a" ∷ []) 0 64) (answer.Reply (reply.Data (codes "y"))) None
          ∷ Waits 51 C (call.Read (codes "b" ∷ []) 0 64)
          ∷ Answered 51 C (call.Read (codes "b" ∷ []) 0 64) (answer.Reply (reply.Data (0 ∷ 0 ∷ 120 ∷ 97 ∷ []))) None
          ∷ Waits 52 A (call.Read (codes "d" ∷ codes "a" ∷ []) 0 64)
          ∷ Answered 52 A (call.Read (codes "d" ∷ codes "a" ∷ []) 0 64) (answer.Reply (reply.Data [])) None ∷ [];
      status = 0;
    }

abbrev pub net_10 : Run
net_10 =
    record {
      lines =
          reads (line.Call A (call.Rename (codes "e" ∷ codes "a" ∷ []) (codes "d" ∷ codes "a" ∷ []))) 15
          ∷ reads (line.Call C (call.Write (codes "a" ∷ []) 0 (codes "cbbcz"))) 14 ∷ reads (line.Call D (call.Stat (codes "d" ∷ []))) 8
          ∷ reads (line.Repeat C msg.Hello 1) 16 ∷ reads (line.Call A (call.Fsync [])) 9
          ∷ reads (line.Call D (call.Write (codes "d" ∷ codes "a" ∷ []) 5 (codes "za"))) 16
          ∷ reads (line.Call D (call.Write (codes "d" ∷ codes "a" ∷ []) 4 (codes "b"))) 16
          ∷ reads (line.Call D (call.Write (codes "d" ∷ codes "a" ∷ []) 0 (codes "za"))) 16
          ∷ reads (line.Call A (call.Write (codes "a" ∷ []) 6 (codes "xax"))) 14 ∷ reads (line.Call A call.Sync) 3 ∷ reads (line.Call A call.Sync) 3
          ∷ reads (line.Call C (call.Write (codes "a" ∷ []) 3 (codes "yy"))) 14 ∷ reads (line.Call C (call.Write (codes "a" ∷ []) 1 (codes "yc"))) 14
          ∷ reads (line.Call C (call.Fsync [])) 9 ∷ reads (line.Call D (call.Stat (codes "d" ∷ []))) 8
          ∷ reads (line.Call B (call.Create (codes "a" ∷ []))) 10 ∷ reads (line.Call C (call.Stat (codes "a" ∷ []))) 8
          ∷ reads (line.Call D (call.Rename (codes "a" ∷ []) (codes "a" ∷ []))) 13 ∷ reads (line.Resend B) 8 ∷ reads (line.Push B 1) 8
          ∷ reads (line.Call D (call.Create (codes "e" ∷ codes "a" ∷ []))) 10 ∷ reads (line.Push B 1) 8
          ∷ reads (line.Call B (call.Create (codes "d" ∷ codes "a" ∷ []))) 10 ∷ reads (line.Call C (call.Create (codes "d" ∷ codes "a" ∷ []))) 10
          ∷ reads (line.Call B (call.Write (codes "a" ∷ []) 0 (codes "xax"))) 14 ∷ reads (line.Call C call.Sync) 3 ∷ reads (line.Cut B) 5
          ∷ reads (line.Call D (call.Read (codes "a" ∷ []) 0 2)) 13 ∷ reads (line.Uncut B) 7
          ∷ reads (line.Call A (call.Rename (codes "a" ∷ []) (codes "a" ∷ []))) 13
          ∷ reads (line.Call A (call.Write (codes "a" ∷ []) 0 (codes "c"))) 14 ∷ reads (line.Call A (call.List [])) 8
          ∷ reads (line.Call A (call.Rmdir (codes "e" ∷ []))) 9 ∷ reads (line.Call A (call.Write (codes "a" ∷ []) 2 (codes "aaaax"))) 14
          ∷ reads (line.Call D (call.Read (codes "a" ∷ []) 3 0)) 13 ∷ reads (line.Call D (call.Chmod (codes "a" ∷ []) 4095)) 12
          ∷ reads (line.Call D (call.Remove (codes "a" ∷ []))) 10 ∷ reads (line.Call D (call.Read (codes "e" ∷ codes "a" ∷ []) 1 9)) 15
          ∷ reads (line.Repeat D msg.Grant 3) 16 ∷ reads (line.Uncut A) 7 ∷ reads (line.Resend A) 8 ∷ reads (line.Resend B) 8
          ∷ reads (line.Resend C) 8 ∷ reads (line.Resend D) 8 ∷ reads (line.Resend A) 8 ∷ reads (line.Resend B) 8 ∷ reads (line.Resend C) 8
          ∷ reads (line.Resend D) 8 ∷ reads (line.Call A (call.List [])) 8 ∷ reads (line.Call B (call.List [])) 8
          ∷ reads (line.Call C (call.List [])) 8 ∷ reads (line.Call D (call.List [])) 8 ∷ reads (line.Call C (call.Read (codes "a" ∷ []) 0 64)) 13
          ∷ reads (line.Call C (call.Read (codes "d" ∷ codes "a" ∷ []) 0 64)) 15
          ∷ reads (line.Call B (call.Read (codes "e" ∷ codes "a" ∷ []) 0 64)) 15 ∷ [];
      fates = [];
      max_objects = 1024;
      shown =
          Waits 1 A (call.Rename (codes "e" ∷ codes "a" ∷ []) (codes "d" ∷ codes "a" ∷ []))
          ∷ Answered 1 A (call.Rename (codes "e" ∷ codes "a" ∷ []) (codes "d" ∷ codes "a" ∷ [])) (answer.Reply (reply.Refused (no.NotFound 1))) None
          ∷ Waits 2 C (call.Write (codes "a" ∷ []) 0 (codes "cbbcz"))
          ∷ Answered 2 C (call.Write (codes "a" ∷ []) 0 (codes "cbbcz")) (answer.Reply (reply.Refused (no.NotFound 1))) None
          ∷ Waits 3 D (call.Stat (codes "d" ∷ [])) ∷ Answered 3 D (call.Stat (codes "d" ∷ [])) (answer.Reply (reply.Refused (no.NotFound 1))) None
          ∷ Answered 5 A (call.Fsync []) (answer.Reply reply.Ok) None
          ∷ Answered 6 D (call.Write (codes "d" ∷ codes "a" ∷ []) 5 (codes "za")) (answer.Reply (reply.Refused (no.NotFound 1))) None
          ∷ Answered 7 D (call.Write (codes "d" ∷ codes "a" ∷ []) 4 (codes "b")) (answer.Reply (reply.Refused (no.NotFound 1))) None
          ∷ Answered 8 D (call.Write (codes "d" ∷ codes "a" ∷ []) 0 (codes "za")) (answer.Reply (reply.Refused (no.NotFound 1))) None
          ∷ Answered 9 A (call.Write (codes "a" ∷ []) 6 (codes "xax")) (answer.Reply (reply.Refused (no.NotFound 1))) None
          ∷ Answered 10 A call.Sync (answer.Reply reply.Ok) None ∷ Answered 11 A call.Sync (answer.Reply reply.Ok) None
          ∷ Answered 12 C (call.Write (codes "a" ∷ []) 3 (codes "yy")) (answer.Reply (reply.Refused (no.NotFound 1))) None
          ∷ Answered 13 C (call.Write (codes "a" ∷ []) 1 (codes "yc")) (answer.Reply (reply.Refused (no.NotFound 1))) None
          ∷ Answered 14 C (call.Fsync []) (answer.Reply reply.Ok) None
          ∷ Answered 15 D (call.Stat (codes "d" ∷ [])) (answer.Reply (reply.Refused (no.NotFound 1))) None ∷ Waits 16 B (call.Create (codes "a" ∷ []))
          ∷ Answered 16 B (call.Create (codes "a" ∷ [])) (answer.Reply reply.Ok) (Some 1) ∷ Waits 17 C (call.Stat (codes "a" ∷ []))
          ∷ Durable B (1 ∷ []) ∷ Answered 17 C (call.Stat (codes "a" ∷ [])) (answer.Reply (reply.Stat kind.File 420 0 0 0)) None
          ∷ Waits 18 D (call.Rename (codes "a" ∷ []) (codes "a" ∷ []))
          ∷ Answered 18 D (call.Rename (codes "a" ∷ []) (codes "a" ∷ [])) (answer.Reply reply.Ok) None ∷ Nothing
          ∷ Answered 21 D (call.Create (codes "e" ∷ codes "a" ∷ [])) (answer.Reply (reply.Refused (no.NotFound 1))) None ∷ Nothing
          ∷ Answered 23 B (call.Create (codes "d" ∷ codes "a" ∷ [])) (answer.Reply (reply.Refused (no.NotFound 1))) None
          ∷ Answered 24 C (call.Create (codes "d" ∷ codes "a" ∷ [])) (answer.Reply (reply.Refused (no.NotFound 1))) None
          ∷ Waits 25 B (call.Write (codes "a" ∷ []) 0 (codes "xax"))
          ∷ Answered 25 B (call.Write (codes "a" ∷ []) 0 (codes "xax")) (answer.Reply reply.Ok) (Some 2)
          ∷ Answered 26 C call.Sync (answer.Reply reply.Ok) None ∷ Waits 28 D (call.Read (codes "a" ∷ []) 0 2) ∷ Durable B (2 ∷ [])
          ∷ Answered 28 D (call.Read (codes "a" ∷ []) 0 2) (answer.Reply (reply.Data (codes "xa"))) None
          ∷ Waits 30 A (call.Rename (codes "a" ∷ []) (codes "a" ∷ []))
          ∷ Answered 30 A (call.Rename (codes "a" ∷ []) (codes "a" ∷ [])) (answer.Reply reply.Ok) None
          ∷ Waits 31 A (call.Write (codes "a" ∷ []) 0 (codes "c"))
          ∷ Answered 31 A (call.Write (codes "a" ∷ []) 0 (codes "c")) (answer.Reply reply.Ok) (Some 1)
          ∷ Answered 32 A (call.List []) (answer.Reply (reply.Names (codes "a" ∷ []))) None
          ∷ Answered 33 A (call.Rmdir (codes "e" ∷ [])) (answer.Reply (reply.Refused (no.NotFound 1))) None
          ∷ Answered 34 A (call.Write (codes "a" ∷ []) 2 (codes "aaaax")) (answer.Reply reply.Ok) (Some 2)
          ∷ Waits 35 D (call.Read (codes "a" ∷ []) 3 0) ∷ Durable A (1 ∷ 2 ∷ [])
          ∷ Answered 35 D (call.Read (codes "a" ∷ []) 3 0) (answer.Reply (reply.Data [])) None ∷ Waits 36 D (call.Chmod (codes "a" ∷ []) 4095)
          ∷ Answered 36 D (call.Chmod (codes "a" ∷ []) 4095) (answer.Reply reply.Ok) (Some 1) ∷ Waits 37 D (call.Remove (codes "a" ∷ []))
          ∷ Answered 37 D (call.Remove (codes "a" ∷ [])) (answer.Reply reply.Ok) (Some 2)
          ∷ Answered 38 D (call.Read (codes "e" ∷ codes "a" ∷ []) 1 9) (answer.Reply (reply.Refused (no.NotFound 1))) None ∷ Nothing
          ∷ Waits 49 A (call.List []) ∷ Durable D (1 ∷ 2 ∷ []) ∷ Answered 49 A (call.List []) (answer.Reply (reply.Names [])) None
          ∷ Waits 50 B (call.List []) ∷ Answered 50 B (call.List []) (answer.Reply (reply.Names [])) None ∷ Waits 51 C (call.List [])
          ∷ Answered 51 C (call.List []) (answer.Reply (reply.Names [])) None ∷ Answered 52 D (call.List []) (answer.Reply (reply.Names [])) None
          ∷ Answered 53 C (call.Read (codes "a" ∷ []) 0 64) (answer.Reply (reply.Refused (no.NotFound 1))) None
          ∷ Answered 54 C (call.Read (codes "d" ∷ codes "a" ∷ []) 0 64) (answer.Reply (reply.Refused (no.NotFound 1))) None
          ∷ Answered 55 B (call.Read (codes "e" ∷ codes "a" ∷ []) 0 64) (answer.Reply (reply.Refused (no.NotFound 1))) None ∷ [];
      status = 0;
    }

abbrev pub net_11 : Run
net_11 =
    record {
      lines =
          reads (line.Call B (call.Mkdir (codes "d" ∷ []))) 9 ∷ reads (line.Call A (call.Create (codes "a" ∷ []))) 10
          ∷ reads (line.Call B (call.Mkdir (codes "d" ∷ codes "k" ∷ []))) 9 ∷ reads (line.Push B 1) 8
          ∷ reads (line.Call A (call.Write (codes "a" ∷ []) 0 (codes "za"))) 14
          ∷ reads (line.Call A (call.Rename (codes "a" ∷ []) (codes "b" ∷ []))) 13
          ∷ reads (line.Call B (call.Write (codes "b" ∷ []) 2 (codes "cx"))) 14 ∷ reads (line.Call A (call.Fsync (codes "b" ∷ []))) 9
          ∷ reads (line.Call B (call.Mkdir (codes "e" ∷ []))) 9 ∷ reads (line.Repeat A msg.Back 5) 15
          ∷ reads (line.Call C (call.Create (codes "b" ∷ []))) 10 ∷ reads (line.Call B (call.Stat (codes "b" ∷ []))) 8 ∷ reads (line.Resend C) 8
          ∷ reads (line.Cut B) 5 ∷ reads (line.Call A (call.Create (codes "e" ∷ codes "a" ∷ []))) 10 ∷ reads (line.Repeat B msg.Recall 3) 17
          ∷ reads (line.Call A (call.Rename (codes "b" ∷ []) (codes "b" ∷ []))) 13
          ∷ reads (line.Call C (call.Write (codes "b" ∷ []) 0 (codes "xbyab"))) 14 ∷ reads (line.Call C (call.Stat (codes "b" ∷ []))) 8 ∷ [];
      fates = [];
      max_objects = 1024;
      shown =
          Waits 1 B (call.Mkdir (codes "d" ∷ [])) ∷ Answered 1 B (call.Mkdir (codes "d" ∷ [])) (answer.Reply reply.Ok) (Some 1)
          ∷ Waits 2 A (call.Create (codes "a" ∷ [])) ∷ Durable B (1 ∷ [])
          ∷ Answered 2 A (call.Create (codes "a" ∷ [])) (answer.Reply reply.Ok) (Some 1) ∷ Waits 3 B (call.Mkdir (codes "d" ∷ codes "k" ∷ []))
          ∷ Durable A (1 ∷ []) ∷ Answered 3 B (call.Mkdir (codes "d" ∷ codes "k" ∷ [])) (answer.Reply reply.Ok) (Some 2) ∷ Nothing
          ∷ Answered 5 A (call.Write (codes "a" ∷ []) 0 (codes "za")) (answer.Reply reply.Ok) (Some 2)
          ∷ Waits 6 A (call.Rename (codes "a" ∷ []) (codes "b" ∷ []))
          ∷ Answered 6 A (call.Rename (codes "a" ∷ []) (codes "b" ∷ [])) (answer.Reply reply.Ok) (Some 3)
          ∷ Waits 7 B (call.Write (codes "b" ∷ []) 2 (codes "cx")) ∷ Durable A (2 ∷ 3 ∷ [])
          ∷ Answered 7 B (call.Write (codes "b" ∷ []) 2 (codes "cx")) (answer.Reply reply.Ok) (Some 3) ∷ Waits 8 A (call.Fsync (codes "b" ∷ []))
          ∷ Durable B (3 ∷ []) ∷ Answered 8 A (call.Fsync (codes "b" ∷ [])) (answer.Reply reply.Ok) None ∷ Waits 9 B (call.Mkdir (codes "e" ∷ []))
          ∷ Answered 9 B (call.Mkdir (codes "e" ∷ [])) (answer.Reply reply.Ok) (Some 4) ∷ Waits 11 C (call.Create (codes "b" ∷ []))
          ∷ Durable B (4 ∷ []) ∷ Answered 11 C (call.Create (codes "b" ∷ [])) (answer.Reply (reply.Refused no.Exists)) None
          ∷ Answered 12 B (call.Stat (codes "b" ∷ [])) (answer.Reply (reply.Stat kind.File 420 0 0 4)) None
          ∷ Waits 15 A (call.Create (codes "e" ∷ codes "a" ∷ []))
          ∷ Answered 17 A (call.Rename (codes "b" ∷ []) (codes "b" ∷ [])) (answer.Reply reply.Ok) None
          ∷ Waits 18 C (call.Write (codes "b" ∷ []) 0 (codes "xbyab"))
          ∷ Answered 19 C (call.Stat (codes "b" ∷ [])) (answer.Reply (reply.Stat kind.File 420 0 0 4)) None ∷ [];
      status = 0;
    }

abbrev pub net_12 : Run
net_12 =
    record {
      lines =
          reads (line.Call B (call.List (codes "e" ∷ []))) 8 ∷ reads (line.Call A (call.Write (codes "d" ∷ codes "a" ∷ []) 4 (codes "cc"))) 16
          ∷ reads (line.Call B (call.Fsync [])) 9 ∷ reads (line.Uncut B) 7 ∷ reads (line.Repeat A msg.Hello 1) 16
          ∷ reads (line.Call A (call.Fsync (codes "e" ∷ codes "a" ∷ []))) 9 ∷ reads (line.Call B (call.Forder ((codes "d" ∷ codes "b" ∷ []) ∷ []))) 10
          ∷ reads (line.Uncut A) 7 ∷ reads (line.Cut B) 5 ∷ reads (line.Call A (call.Chown (codes "d" ∷ codes "a" ∷ []) 3)) 14
          ∷ reads (line.Call B (call.Create (codes "b" ∷ []))) 10 ∷ reads (line.Call B (call.Remove (codes "d" ∷ codes "b" ∷ []))) 10
          ∷ reads (line.Call A (call.Fsync (codes "e" ∷ []))) 9 ∷ reads (line.Call A (call.Mkdir (codes "e" ∷ []))) 9
          ∷ reads (line.Call B (call.Write (codes "d" ∷ codes "b" ∷ []) 3 (codes "ya"))) 16 ∷ reads (line.Call A (call.Mkdir (codes "e" ∷ []))) 9
          ∷ reads (line.Call B (call.Read (codes "a" ∷ []) 0 0)) 13
          ∷ reads (line.Call A (call.Forder ((codes "b" ∷ []) ∷ (codes "d" ∷ codes "e" ∷ codes "a" ∷ []) ∷ []))) 13
          ∷ reads (line.Call B (call.Touch (codes "d" ∷ codes "k" ∷ []) 3)) 14 ∷ reads (line.Drop B msg.Want 2) 13
          ∷ reads (line.Call B (call.Fsync (codes "d" ∷ codes "a" ∷ []))) 9 ∷ reads (line.Call A (call.Create (codes "a" ∷ codes "x" ∷ []))) 10
          ∷ reads (line.Call B (call.Write (codes "e" ∷ codes "a" ∷ []) 6 (codes "zax"))) 16 ∷ reads (line.Call A (call.Mkdir (codes "e" ∷ []))) 9
          ∷ reads (line.Deliver B msg.Want 1) 16 ∷ reads (line.Deliver B msg.Grant 2) 17 ∷ reads (line.Deliver B msg.Recall 1) 18
          ∷ reads (line.Call A (call.Write (codes "d" ∷ codes "e" ∷ codes "a" ∷ []) 4 (codes "c"))) 18 ∷ reads (line.Repeat B msg.Recall 1) 17
          ∷ reads (line.Uncut B) 7 ∷ reads (line.Call B (call.List [])) 8 ∷ reads (line.Repeat A msg.Want 3) 15 ∷ reads (line.Uncut B) 7
          ∷ reads (line.Call B (call.Write (codes "b" ∷ []) 2 (codes "xazaz"))) 14
          ∷ reads (line.Call B (call.Write (codes "b" ∷ []) 1 (codes "x"))) 14 ∷ reads (line.Call A (call.Write (codes "b" ∷ []) 3 (codes "bcz"))) 14
          ∷ reads (line.Call A (call.Rename (codes "d" ∷ []) (codes "d" ∷ []))) 13 ∷ reads (line.Uncut A) 7 ∷ reads (line.Push A 1) 8
          ∷ reads (line.Call B (call.Create (codes "a" ∷ []))) 10 ∷ reads (line.Resend A) 8 ∷ reads (line.Resend B) 8 ∷ reads (line.Resend A) 8
          ∷ reads (line.Resend B) 8 ∷ reads (line.Call A (call.List [])) 8 ∷ reads (line.Call B (call.List [])) 8
          ∷ reads (line.Call B (call.Read (codes "a" ∷ []) 0 64)) 13 ∷ reads (line.Call A (call.Read (codes "b" ∷ []) 0 64)) 13
          ∷ reads (line.Call A (call.Read (codes "d" ∷ codes "a" ∷ []) 0 64)) 15 ∷ reads (line.Call A call.Sync) 3 ∷ reads (line.Call B call.Sync) 3
          ∷ [];
      fates = [];
      max_objects = 1024;
      shown =
          Waits 1 B (call.List (codes "e" ∷ [])) ∷ Answered 1 B (call.List (codes "e" ∷ [])) (answer.Reply (reply.Refused (no.NotFound 1))) None
          ∷ Waits 2 A (call.Write (codes "d" ∷ codes "a" ∷ []) 4 (codes "cc"))
          ∷ Answered 2 A (call.Write (codes "d" ∷ codes "a" ∷ []) 4 (codes "cc")) (answer.Reply (reply.Refused (no.NotFound 1))) None
          ∷ Answered 3 B (call.Fsync []) (answer.Reply reply.Ok) None ∷ Nothing
          ∷ Answered 6 A (call.Fsync (codes "e" ∷ codes "a" ∷ [])) (answer.Reply (reply.Refused (no.NotFound 1))) None
          ∷ Answered 7 B (call.Forder ((codes "d" ∷ codes "b" ∷ []) ∷ [])) (answer.Reply (reply.Refused (no.NotFound 1))) None ∷ Nothing
          ∷ Answered 10 A (call.Chown (codes "d" ∷ codes "a" ∷ []) 3) (answer.Reply (reply.Refused (no.NotFound 1))) None
          ∷ Waits 11 B (call.Create (codes "b" ∷ []))
          ∷ Answered 12 B (call.Remove (codes "d" ∷ codes "b" ∷ [])) (answer.Reply (reply.Refused (no.NotFound 1))) None
          ∷ Answered 13 A (call.Fsync (codes "e" ∷ [])) (answer.Reply (reply.Refused (no.NotFound 1))) None ∷ Waits 14 A (call.Mkdir (codes "e" ∷ []))
          ∷ Answered 15 B (call.Write (codes "d" ∷ codes "b" ∷ []) 3 (codes "ya")) (answer.Reply (reply.Refused (no.NotFound 1))) None
          ∷ Waits 16 A (call.Mkdir (codes "e" ∷ []))
          ∷ Answered 17 B (call.Read (codes "a" ∷ []) 0 0) (answer.Reply (reply.Refused (no.NotFound 1))) None
          ∷ Answered 18 A (call.Forder ((codes "b" ∷ []) ∷ (codes "d" ∷ codes "e" ∷ codes "a" ∷ []) ∷ [])) (answer.Reply (reply.Refused (no.NotFound 1))) None
          ∷ Answered 19 B (call.Touch (codes "d" ∷ codes "k" ∷ []) 3) (answer.Reply (reply.Refused (no.NotFound 1))) None
          ∷ Answered 21 B (call.Fsync (codes "d" ∷ codes "a" ∷ [])) (answer.Reply (reply.Refused (no.NotFound 1))) None
          ∷ Answered 22 A (call.Create (codes "a" ∷ codes "x" ∷ [])) (answer.Reply (reply.Refused (no.NotFound 1))) None
          ∷ Answered 23 B (call.Write (codes "e" ∷ codes "a" ∷ []) 6 (codes "zax")) (answer.Reply (reply.Refused (no.NotFound 1))) None
          ∷ Waits 24 A (call.Mkdir (codes "e" ∷ []))
          ∷ Answered 28 A (call.Write (codes "d" ∷ codes "e" ∷ codes "a" ∷ []) 4 (codes "c")) (answer.Reply (reply.Refused (no.NotFound 1))) None
          ∷ Answered 14 A (call.Mkdir (codes "e" ∷ [])) (answer.Reply reply.Ok) (Some 1)
          ∷ Answered 16 A (call.Mkdir (codes "e" ∷ [])) (answer.Reply (reply.Refused no.Exists)) None
          ∷ Answered 24 A (call.Mkdir (codes "e" ∷ [])) (answer.Reply (reply.Refused no.Exists)) None ∷ Durable A (1 ∷ [])
          ∷ Answered 11 B (call.Create (codes "b" ∷ [])) (answer.Reply reply.Ok) (Some 1)
          ∷ Answered 31 B (call.List []) (answer.Reply (reply.Names (codes "b" ∷ codes "e" ∷ []))) None ∷ Durable B (1 ∷ []) ∷ Nothing
          ∷ Waits 34 B (call.Write (codes "b" ∷ []) 2 (codes "xazaz"))
          ∷ Answered 34 B (call.Write (codes "b" ∷ []) 2 (codes "xazaz")) (answer.Reply reply.Ok) (Some 2)
          ∷ Answered 35 B (call.Write (codes "b" ∷ []) 1 (codes "x")) (answer.Reply reply.Ok) (Some 3)
          ∷ Waits 36 A (call.Write (codes "b" ∷ []) 3 (codes "bcz")) ∷ Durable B (2 ∷ 3 ∷ [])
          ∷ Answered 36 A (call.Write (codes "b" ∷ []) 3 (codes "bcz")) (answer.Reply reply.Ok) (Some 2)
          ∷ Answered 37 A (call.Rename (codes "d" ∷ []) (codes "d" ∷ [])) (answer.Reply (reply.Refused (no.NotFound 1))) None ∷ Nothing ∷ Nothing
          ∷ Waits 40 B (call.Create (codes "a" ∷ [])) ∷ Answered 40 B (call.Create (codes "a" ∷ [])) (answer.Reply reply.Ok) (Some 4)
          ∷ Waits 45 A (call.List []) ∷ Durable B (4 ∷ [])
          ∷ Answered 45 A (call.List []) (answer.Reply (reply.Names (codes "a" ∷ codes "b" ∷ codes "e" ∷ []))) None
          ∷ Answered 46 B (call.List []) (answer.Reply (reply.Names (codes "a" ∷ codes "b" ∷ codes "e" ∷ []))) None
          ∷ Answered 47 B (call.Read (codes "a" ∷ []) 0 64) (answer.Reply (reply.Data [])) None
          ∷ Answered 48 A (call.Read (codes "b" ∷ []) 0 64) (answer.Reply (reply.Data (0 ∷ 120 ∷ 120 ∷ 98 ∷ 99 ∷ 122 ∷ 122 ∷ []))) None
          ∷ Answered 49 A (call.Read (codes "d" ∷ codes "a" ∷ []) 0 64) (answer.Reply (reply.Refused (no.NotFound 1))) None ∷ Waits 50 A call.Sync
          ∷ Durable A (2 ∷ []) ∷ Answered 50 A call.Sync (answer.Reply reply.Ok) None ∷ Answered 51 B call.Sync (answer.Reply reply.Ok) None ∷ [];
      status = 0;
    }

abbrev pub net_13 : Run
net_13 =
    record {
      lines =
          reads (line.Call A (call.Mkdir (codes "d" ∷ []))) 9 ∷ reads (line.Call B (call.Create (codes "a" ∷ []))) 10
          ∷ reads (line.Call B (call.Create (codes "d" ∷ codes "a" ∷ []))) 10 ∷ reads (line.Call A (call.Create (codes "e" ∷ codes "a" ∷ []))) 10
          ∷ reads (line.Call A call.Sync) 3 ∷ reads (line.Call B call.Sync) 3
          ∷ reads (line.Call B (call.Write (codes "e" ∷ codes "a" ∷ []) 3 (codes "zcx"))) 16
          ∷ reads (line.Call B (call.Write (codes "a" ∷ []) 2 (codes "a"))) 14 ∷ reads (line.Repeat B msg.Back 1) 15
          ∷ reads (line.Call B (call.Rename (codes "a" ∷ []) (codes "a2" ∷ []))) 13 ∷ reads (line.Uncut B) 7 ∷ reads (line.Call A (call.Stat [])) 8
          ∷ reads (line.Call A (call.Write (codes "a2" ∷ []) 0 (codes "zbb"))) 15
          ∷ reads (line.Call B (call.Read (codes "d" ∷ codes "a" ∷ []) 3 64)) 15 ∷ reads (line.Call B (call.Create (codes "a" ∷ []))) 10
          ∷ reads (line.Call B (call.Stat (codes "a2" ∷ []))) 8 ∷ reads (line.Call B (call.Read (codes "a2" ∷ []) 0 2)) 14
          ∷ reads (line.Call A (call.List [])) 8 ∷ reads (line.Call B (call.Rename (codes "d" ∷ []) (codes "e" ∷ []))) 13
          ∷ reads (line.Repeat A msg.Want 4) 15 ∷ reads (line.Call A (call.SetLen (codes "a2" ∷ []) 2)) 14
          ∷ reads (line.Call A (call.Write (codes "e" ∷ codes "a" ∷ []) 4 (codes "b"))) 16
          ∷ reads (line.Call A (call.Stat (codes "e" ∷ codes "a" ∷ []))) 8 ∷ reads (line.Call B (call.Remove (codes "a2" ∷ []))) 10
          ∷ reads (line.Call A (call.Create (codes "d" ∷ codes "a" ∷ []))) 10 ∷ reads (line.Call A (call.Stat [])) 8
          ∷ reads (line.Call B (call.Mkdir (codes "d" ∷ []))) 9 ∷ reads (line.Call B (call.Write (codes "a" ∷ []) 2 (codes "ccaxz"))) 14
          ∷ reads (line.Push B 9) 8
          ∷ reads (line.Call B (call.Forder ((codes "e" ∷ codes "a" ∷ []) ∷ (codes "e" ∷ codes "a" ∷ []) ∷ (codes "a" ∷ []) ∷ []))) 20
          ∷ reads (line.Call A (call.Remove (codes "a" ∷ []))) 10 ∷ reads (line.Call A (call.SetLen (codes "e" ∷ codes "a" ∷ []) 0)) 15
          ∷ reads (line.Cut A) 5 ∷ reads (line.Call B (call.Forder ([] ∷ []))) 10 ∷ reads (line.Push A 3) 8
          ∷ reads (line.Call B (call.Rename (codes "e" ∷ codes "a" ∷ []) (codes "d" ∷ codes "a" ∷ []))) 15
          ∷ reads (line.Call A (call.Stat (codes "e" ∷ []))) 8 ∷ reads (line.Call A (call.Stat (codes "d" ∷ []))) 8
          ∷ reads (line.Call A (call.Create (codes "e" ∷ codes "a" ∷ []))) 10
          ∷ reads (line.Call B (call.Write (codes "e" ∷ codes "a" ∷ []) 2 (codes "z"))) 16 ∷ reads (line.Uncut A) 7 ∷ reads (line.Resend A) 8
          ∷ reads (line.Resend B) 8 ∷ reads (line.Resend A) 8 ∷ reads (line.Resend B) 8 ∷ reads (line.Call A (call.List [])) 8
          ∷ reads (line.Call B (call.List [])) 8 ∷ reads (line.Call B (call.Read (codes "a" ∷ []) 0 64)) 13
          ∷ reads (line.Call A (call.Read (codes "d" ∷ codes "a" ∷ []) 0 64)) 15
          ∷ reads (line.Call A (call.Read (codes "e" ∷ codes "a" ∷ []) 0 64)) 15 ∷ [];
      fates = [];
      max_objects = 1024;
      shown =
          Waits 1 A (call.Mkdir (codes "d" ∷ [])) ∷ Answered 1 A (call.Mkdir (codes "d" ∷ [])) (answer.Reply reply.Ok) (Some 1)
          ∷ Waits 2 B (call.Create (codes "a" ∷ [])) ∷ Durable A (1 ∷ [])
          ∷ Answered 2 B (call.Create (codes "a" ∷ [])) (answer.Reply reply.Ok) (Some 1) ∷ Waits 3 B (call.Create (codes "d" ∷ codes "a" ∷ []))
          ∷ Answered 3 B (call.Create (codes "d" ∷ codes "a" ∷ [])) (answer.Reply reply.Ok) (Some 2)
          ∷ Waits 4 A (call.Create (codes "e" ∷ codes "a" ∷ [])) ∷ Durable B (1 ∷ [])
          ∷ Answered 4 A (call.Create (codes "e" ∷ codes "a" ∷ [])) (answer.Reply (reply.Refused (no.NotFound 1))) None
          ∷ Answered 5 A call.Sync (answer.Reply reply.Ok) None ∷ Waits 6 B call.Sync ∷ Durable B (2 ∷ [])
          ∷ Answered 6 B call.Sync (answer.Reply reply.Ok) None
          ∷ Answered 7 B (call.Write (codes "e" ∷ codes "a" ∷ []) 3 (codes "zcx")) (answer.Reply (reply.Refused (no.NotFound 1))) None
          ∷ Answered 8 B (call.Write (codes "a" ∷ []) 2 (codes "a")) (answer.Reply reply.Ok) (Some 3)
          ∷ Waits 10 B (call.Rename (codes "a" ∷ []) (codes "a2" ∷ []))
          ∷ Answered 10 B (call.Rename (codes "a" ∷ []) (codes "a2" ∷ [])) (answer.Reply reply.Ok) (Some 4) ∷ Nothing ∷ Waits 12 A (call.Stat [])
          ∷ Durable B (3 ∷ 4 ∷ []) ∷ Answered 12 A (call.Stat []) (answer.Reply (reply.Stat kind.Dir 493 0 0 2)) None
          ∷ Waits 13 A (call.Write (codes "a2" ∷ []) 0 (codes "zbb"))
          ∷ Answered 13 A (call.Write (codes "a2" ∷ []) 0 (codes "zbb")) (answer.Reply reply.Ok) (Some 2)
          ∷ Answered 14 B (call.Read (codes "d" ∷ codes "a" ∷ []) 3 64) (answer.Reply (reply.Data [])) None
          ∷ Waits 15 B (call.Create (codes "a" ∷ [])) ∷ Answered 15 B (call.Create (codes "a" ∷ [])) (answer.Reply reply.Ok) (Some 5)
          ∷ Waits 16 B (call.Stat (codes "a2" ∷ [])) ∷ Durable A (2 ∷ [])
          ∷ Answered 16 B (call.Stat (codes "a2" ∷ [])) (answer.Reply (reply.Stat kind.File 420 0 0 3)) None
          ∷ Answered 17 B (call.Read (codes "a2" ∷ []) 0 2) (answer.Reply (reply.Data (codes "zb"))) None ∷ Waits 18 A (call.List [])
          ∷ Durable B (5 ∷ []) ∷ Answered 18 A (call.List []) (answer.Reply (reply.Names (codes "a" ∷ codes "a2" ∷ codes "d" ∷ []))) None
          ∷ Waits 19 B (call.Rename (codes "d" ∷ []) (codes "e" ∷ []))
          ∷ Answered 19 B (call.Rename (codes "d" ∷ []) (codes "e" ∷ [])) (answer.Reply reply.Ok) (Some 6) ∷ Durable B (6 ∷ [])
          ∷ Waits 21 A (call.SetLen (codes "a2" ∷ []) 2) ∷ Answered 21 A (call.SetLen (codes "a2" ∷ []) 2) (answer.Reply reply.Ok) (Some 3)
          ∷ Waits 22 A (call.Write (codes "e" ∷ codes "a" ∷ []) 4 (codes "b"))
          ∷ Answered 22 A (call.Write (codes "e" ∷ codes "a" ∷ []) 4 (codes "b")) (answer.Reply reply.Ok) (Some 4)
          ∷ Answered 23 A (call.Stat (codes "e" ∷ codes "a" ∷ [])) (answer.Reply (reply.Stat kind.File 420 0 0 5)) None
          ∷ Waits 24 B (call.Remove (codes "a2" ∷ [])) ∷ Durable A (3 ∷ [])
          ∷ Answered 24 B (call.Remove (codes "a2" ∷ [])) (answer.Reply reply.Ok) (Some 7) ∷ Waits 25 A (call.Create (codes "d" ∷ codes "a" ∷ []))
          ∷ Durable B (7 ∷ []) ∷ Answered 25 A (call.Create (codes "d" ∷ codes "a" ∷ [])) (answer.Reply (reply.Refused (no.NotFound 1))) None
          ∷ Answered 26 A (call.Stat []) (answer.Reply (reply.Stat kind.Dir 493 0 0 2)) None ∷ Waits 27 B (call.Mkdir (codes "d" ∷ []))
          ∷ Answered 27 B (call.Mkdir (codes "d" ∷ [])) (answer.Reply reply.Ok) (Some 8)
          ∷ Answered 28 B (call.Write (codes "a" ∷ []) 2 (codes "ccaxz")) (answer.Reply reply.Ok) (Some 9) ∷ Durable B (9 ∷ [])
          ∷ Waits 30 B (call.Forder ((codes "e" ∷ codes "a" ∷ []) ∷ (codes "e" ∷ codes "a" ∷ []) ∷ (codes "a" ∷ []) ∷ [])) ∷ Durable A (4 ∷ [])
          ∷ Answered 30 B (call.Forder ((codes "e" ∷ codes "a" ∷ []) ∷ (codes "e" ∷ codes "a" ∷ []) ∷ (codes "a" ∷ []) ∷ [])) (answer.Reply reply.Ok) (Some 10)
          ∷ Waits 31 A (call.Remove (codes "a" ∷ [])) ∷ Durable B (8 ∷ []) ∷ Durable B (10 ∷ [])
          ∷ Answered 31 A (call.Remove (codes "a" ∷ [])) (answer.Reply reply.Ok) (Some 5) ∷ Waits 32 A (call.SetLen (codes "e" ∷ codes "a" ∷ []) 0)
          ∷ Answered 32 A (call.SetLen (codes "e" ∷ codes "a" ∷ []) 0) (answer.Reply reply.Ok) (Some 6) ∷ Waits 34 B (call.Forder ([] ∷ [])) ∷ Nothing
          ∷ Waits 36 B (call.Rename (codes "e" ∷ codes "a" ∷ []) (codes "d" ∷ codes "a" ∷ []))
          ∷ Answered 37 A (call.Stat (codes "e" ∷ [])) (answer.Reply (reply.Stat kind.Dir 493 0 0 1)) None ∷ Waits 38 A (call.Stat (codes "d" ∷ []))
          ∷ Answered 39 A (call.Create (codes "e" ∷ codes "a" ∷ [])) (answer.Reply (reply.Refused no.Exists)) None
          ∷ Waits 40 B (call.Write (codes "e" ∷ codes "a" ∷ []) 2 (codes "z")) ∷ Durable A (5 ∷ [])
          ∷ Answered 38 A (call.Stat (codes "d" ∷ [])) (answer.Reply (reply.Stat kind.Dir 493 0 0 0)) None ∷ Durable A (6 ∷ [])
          ∷ Answered 34 B (call.Forder ([] ∷ [])) (answer.Reply reply.Ok) (Some 11)
          ∷ Answered 40 B (call.Write (codes "e" ∷ codes "a" ∷ []) 2 (codes "z")) (answer.Reply reply.Ok) (Some 12)
          ∷ Answered 36 B (call.Rename (codes "e" ∷ codes "a" ∷ []) (codes "d" ∷ codes "a" ∷ [])) (answer.Reply reply.Ok) (Some 13)
          ∷ Waits 46 A (call.List []) ∷ Durable B (11 ∷ [])
          ∷ Answered 46 A (call.List []) (answer.Reply (reply.Names (codes "d" ∷ codes "e" ∷ []))) None
          ∷ Answered 47 B (call.List []) (answer.Reply (reply.Names (codes "d" ∷ codes "e" ∷ []))) None
          ∷ Answered 48 B (call.Read (codes "a" ∷ []) 0 64) (answer.Reply (reply.Refused (no.NotFound 1))) None
          ∷ Waits 49 A (call.Read (codes "d" ∷ codes "a" ∷ []) 0 64) ∷ Durable B (12 ∷ 13 ∷ [])
          ∷ Answered 49 A (call.Read (codes "d" ∷ codes "a" ∷ []) 0 64) (answer.Reply (reply.Data (0 ∷ 0 ∷ 122 ∷ []))) None
          ∷ Waits 50 A (call.Read (codes "e" ∷ codes "a" ∷ []) 0 64)
          ∷ Answered 50 A (call.Read (codes "e" ∷ codes "a" ∷ []) 0 64) (answer.Reply (reply.Refused (no.NotFound 2))) None ∷ [];
      status = 0;
    }

abbrev pub net_14 : Run
net_14 =
    record {
      lines =
          reads (line.Call B (call.Mkdir (codes "d" ∷ []))) 9 ∷ reads (line.Call A (call.Create (codes "a" ∷ []))) 10
          ∷ reads (line.Call A (call.Write (codes "a" ∷ []) 0 (codes "abcdefgh"))) 14 ∷ reads (line.Call B (call.Create (codes "b" ∷ []))) 10
          ∷ reads (line.Call B (call.Write (codes "b" ∷ []) 0 (codes "abcdefgh"))) 14
          ∷ reads (line.Call B (call.Create (codes "d" ∷ codes "a" ∷ []))) 10
          ∷ reads (line.Call B (call.Write (codes "d" ∷ codes "a" ∷ []) 0 (codes "abcdefgh"))) 16
          ∷ reads (line.Call A (call.Read (codes "b" ∷ []) 0 64)) 13 ∷ reads (line.Cut A) 5
          ∷ reads (line.Call A (call.Write (codes "a" ∷ []) 4 (codes "aac"))) 14
          ∷ reads (line.Call A (call.Write (codes "d" ∷ codes "e" ∷ codes "a" ∷ []) 2 (codes "xc"))) 18
          ∷ reads (line.Call A (call.Write (codes "d" ∷ codes "e" ∷ codes "a" ∷ []) 5 (codes "y"))) 18 ∷ reads (line.Push A 3) 8
          ∷ reads (line.Call B (call.List [])) 8 ∷ reads (line.Resend A) 8 ∷ reads (line.Call A (call.Rename (codes "a" ∷ []) (codes "a" ∷ []))) 13
          ∷ reads (line.Deliver A msg.Claim 2) 17 ∷ reads (line.Call B (call.Create (codes "d" ∷ codes "b" ∷ []))) 10
          ∷ reads (line.Deliver A msg.Want 6) 16 ∷ reads (line.Call A (call.Write (codes "a" ∷ []) 3 (codes "aaa"))) 14
          ∷ reads (line.Call B (call.Chmod (codes "a" ∷ []) 493)) 12 ∷ reads (line.Call A (call.Stat [])) 8 ∷ reads (line.Drop A msg.Want 5) 13
          ∷ reads (line.Deliver A msg.Grant 5) 17 ∷ reads (line.Drop A msg.Flush 2) 14 ∷ reads (line.Drop A msg.Flush 3) 14
          ∷ reads (line.Repeat B msg.Recall 5) 17 ∷ reads (line.Call B (call.Write (codes "b" ∷ []) 4 (codes "yxaba"))) 14
          ∷ reads (line.Call A (call.Write (codes "a" ∷ []) 0 (codes "zx"))) 14 ∷ reads (line.Call A (call.Mkdir (codes "d" ∷ codes "e" ∷ []))) 9
          ∷ reads (line.Drop A msg.Recall 3) 15 ∷ reads (line.Cut B) 5 ∷ reads (line.Call A (call.Write (codes "a" ∷ []) 3 (codes "c"))) 14
          ∷ reads (line.Call A (call.Stat [])) 8 ∷ reads (line.Deliver A msg.Recall 4) 18 ∷ reads (line.Call A (call.Create (codes "b" ∷ []))) 10
          ∷ reads (line.Call A (call.Fsync (codes "d" ∷ codes "a" ∷ []))) 9 ∷ reads (line.Deliver A msg.Want 7) 16
          ∷ reads (line.Repeat A msg.Recall 1) 17 ∷ reads (line.Call A (call.Create (codes "a" ∷ []))) 10 ∷ [];
      fates = [];
      max_objects = 1024;
      shown =
          Waits 1 B (call.Mkdir (codes "d" ∷ [])) ∷ Answered 1 B (call.Mkdir (codes "d" ∷ [])) (answer.Reply reply.Ok) (Some 1)
          ∷ Waits 2 A (call.Create (codes "a" ∷ [])) ∷ Durable B (1 ∷ [])
          ∷ Answered 2 A (call.Create (codes "a" ∷ [])) (answer.Reply reply.Ok) (Some 1)
          ∷ Answered 3 A (call.Write (codes "a" ∷ []) 0 (codes "abcdefgh")) (answer.Reply reply.Ok) (Some 2)
          ∷ Waits 4 B (call.Create (codes "b" ∷ [])) ∷ Durable A (1 ∷ [])
          ∷ Answered 4 B (call.Create (codes "b" ∷ [])) (answer.Reply reply.Ok) (Some 2)
          ∷ Answered 5 B (call.Write (codes "b" ∷ []) 0 (codes "abcdefgh")) (answer.Reply reply.Ok) (Some 3)
          ∷ Answered 6 B (call.Create (codes "d" ∷ codes "a" ∷ [])) (answer.Reply reply.Ok) (Some 4)
          ∷ Answered 7 B (call.Write (codes "d" ∷ codes "a" ∷ []) 0 (codes "abcdefgh")) (answer.Reply reply.Ok) (Some 5)
          ∷ Waits 8 A (call.Read (codes "b" ∷ []) 0 64) ∷ Durable B (2 ∷ []) ∷ Durable B (3 ∷ [])
          ∷ Answered 8 A (call.Read (codes "b" ∷ []) 0 64) (answer.Reply (reply.Data (codes "abcdefgh"))) None
          ∷ Answered 10 A (call.Write (codes "a" ∷ []) 4 (codes "aac")) (answer.Reply reply.Ok) (Some 3)
          ∷ Waits 11 A (call.Write (codes "d" ∷ codes "e" ∷ codes "a" ∷ []) 2 (codes "xc"))
          ∷ Waits 12 A (call.Write (codes "d" ∷ codes "e" ∷ codes "a" ∷ []) 5 (codes "y"))
          ∷ Answered 14 B (call.List []) (answer.Reply (reply.Names (codes "a" ∷ codes "b" ∷ codes "d" ∷ []))) None
          ∷ Answered 16 A (call.Rename (codes "a" ∷ []) (codes "a" ∷ [])) (answer.Reply reply.Ok) None
          ∷ Answered 18 B (call.Create (codes "d" ∷ codes "b" ∷ [])) (answer.Reply reply.Ok) (Some 6) ∷ Durable B (4 ∷ 6 ∷ [])
          ∷ Answered 20 A (call.Write (codes "a" ∷ []) 3 (codes "aaa")) (answer.Reply reply.Ok) (Some 4)
          ∷ Waits 21 B (call.Chmod (codes "a" ∷ []) 493) ∷ Answered 22 A (call.Stat []) (answer.Reply (reply.Stat kind.Dir 493 0 0 3)) None
          ∷ Answered 11 A (call.Write (codes "d" ∷ codes "e" ∷ codes "a" ∷ []) 2 (codes "xc")) (answer.Reply (reply.Refused (no.NotFound 2))) None
          ∷ Answered 12 A (call.Write (codes "d" ∷ codes "e" ∷ codes "a" ∷ []) 5 (codes "y")) (answer.Reply (reply.Refused (no.NotFound 2))) None
          ∷ Waits 28 B (call.Write (codes "b" ∷ []) 4 (codes "yxaba"))
          ∷ Answered 29 A (call.Write (codes "a" ∷ []) 0 (codes "zx")) (answer.Reply reply.Ok) (Some 5)
          ∷ Waits 30 A (call.Mkdir (codes "d" ∷ codes "e" ∷ []))
          ∷ Answered 33 A (call.Write (codes "a" ∷ []) 3 (codes "c")) (answer.Reply reply.Ok) (Some 6)
          ∷ Answered 34 A (call.Stat []) (answer.Reply (reply.Stat kind.Dir 493 0 0 3)) None
          ∷ Answered 36 A (call.Create (codes "b" ∷ [])) (answer.Reply (reply.Refused no.Exists)) None
          ∷ Waits 37 A (call.Fsync (codes "d" ∷ codes "a" ∷ []))
          ∷ Answered 40 A (call.Create (codes "a" ∷ [])) (answer.Reply (reply.Refused no.Exists)) None ∷ [];
      status = 0;
    }

abbrev pub net_15 : Run
net_15 =
    record {
      lines =
          reads (line.Call A (call.Rmdir (codes "d" ∷ codes "k" ∷ []))) 9 ∷ reads (line.Call C (call.Mkdir (codes "e" ∷ []))) 9
          ∷ reads (line.Call B (call.Write (codes "e" ∷ codes "a" ∷ []) 3 (codes "z"))) 16
          ∷ reads (line.Call B (call.Stat (codes "d" ∷ codes "b" ∷ []))) 8 ∷ reads (line.Call A (call.SetLen (codes "d" ∷ codes "b" ∷ []) 4)) 15
          ∷ reads (line.Call C (call.Write (codes "a" ∷ []) 0 (codes "byc"))) 14 ∷ reads (line.Call B (call.Read (codes "d" ∷ codes "a" ∷ []) 3 9)) 15
          ∷ reads (line.Call B (call.Write (codes "d" ∷ codes "a" ∷ []) 0 (codes "b"))) 16
          ∷ reads (line.Call B (call.Write (codes "d" ∷ codes "a" ∷ []) 2 (codes "by"))) 16
          ∷ reads (line.Call B (call.Write (codes "d" ∷ codes "a" ∷ []) 4 (codes "a"))) 16
          ∷ reads (line.Call A (call.Write (codes "b" ∷ []) 6 (codes "x"))) 14 ∷ reads (line.Uncut A) 7
          ∷ reads (line.Call C (call.Create (codes "b" ∷ []))) 10 ∷ reads (line.Call B (call.Fsync (codes "e" ∷ []))) 9
          ∷ reads (line.Call B (call.Stat (codes "d" ∷ codes "e" ∷ []))) 8 ∷ reads (line.Call A (call.Stat [])) 8
          ∷ reads (line.Call B (call.Stat (codes "e" ∷ []))) 8 ∷ reads (line.Resend B) 8 ∷ reads (line.Call B (call.Rmdir (codes "e" ∷ []))) 9
          ∷ reads (line.Call B (call.Stat [])) 8 ∷ reads (line.Call C (call.Write (codes "b" ∷ []) 3 (codes "ab"))) 14
          ∷ reads (line.Call C (call.Write (codes "b" ∷ []) 2 (codes "ca"))) 14 ∷ reads (line.Call C (call.Write (codes "b" ∷ []) 5 (codes "bz"))) 14
          ∷ reads (line.Push C 5) 8 ∷ reads (line.Call C (call.Stat (codes "d" ∷ codes "e" ∷ []))) 8
          ∷ reads (line.Call B (call.Create (codes "a" ∷ []))) 10 ∷ reads (line.Call A (call.Rename (codes "b" ∷ []) (codes "d" ∷ codes "a" ∷ []))) 13
          ∷ reads (line.Call B (call.Rename (codes "d" ∷ codes "e" ∷ []) (codes "e" ∷ []))) 15
          ∷ reads (line.Call A (call.Create (codes "d" ∷ codes "e" ∷ codes "a" ∷ []))) 10
          ∷ reads (line.Call A (call.Rename (codes "d" ∷ codes "k" ∷ []) (codes "d" ∷ codes "e" ∷ []))) 15
          ∷ reads (line.Call A (call.Write (codes "a" ∷ []) 0 (codes "xzz"))) 14 ∷ reads (line.Push A 1) 8
          ∷ reads (line.Call C (call.Stat (codes "b" ∷ []))) 8 ∷ reads (line.Push C 2) 8
          ∷ reads (line.Call C (call.Rename (codes "a" ∷ []) (codes "d" ∷ codes "a" ∷ []))) 13
          ∷ reads (line.Call C (call.Read (codes "a" ∷ []) 0 9)) 13 ∷ reads (line.Call B (call.Mkdir (codes "d" ∷ codes "k" ∷ []))) 9
          ∷ reads (line.Call B (call.Write (codes "a" ∷ []) 2 (codes "cbx"))) 14 ∷ reads (line.Call A (call.Touch [] 4)) 11 ∷ reads (line.Cut B) 5
          ∷ reads (line.Call C (call.Create (codes "d" ∷ codes "a" ∷ []))) 10 ∷ reads (line.Call C (call.Create (codes "b" ∷ []))) 10
          ∷ reads (line.Call A (call.Write (codes "a" ∷ []) 0 (codes "a"))) 14 ∷ reads (line.Call B (call.Fsync [])) 9
          ∷ reads (line.Call C (call.Write (codes "b" ∷ []) 3 (codes "cb"))) 14 ∷ reads (line.Call C (call.List [])) 8
          ∷ reads (line.Call A (call.Create (codes "d" ∷ codes "e" ∷ codes "a" ∷ []))) 10 ∷ reads (line.Call B (call.Forder ([] ∷ [] ∷ []))) 12
          ∷ reads (line.Call B (call.Write (codes "a" ∷ []) 2 (codes "azxab"))) 14 ∷ reads (line.Resend C) 8
          ∷ reads (line.Call B (call.Mkdir (codes "d" ∷ []))) 9 ∷ reads (line.Call A (call.Stat (codes "b" ∷ []))) 8
          ∷ reads (line.Call C (call.Read (codes "b" ∷ []) 3 0)) 13
          ∷ reads (line.Call A (call.Rename (codes "a" ∷ []) (codes "e" ∷ codes "a" ∷ []))) 13
          ∷ reads (line.Call B (call.Read (codes "b" ∷ []) 3 9)) 13 ∷ reads (line.Call A (call.SetLen (codes "b" ∷ []) 2)) 13
          ∷ reads (line.Call B (call.Read (codes "b" ∷ []) 0 9)) 13 ∷ reads (line.Call A (call.Write (codes "b" ∷ []) 2 (codes "cc"))) 14
          ∷ reads (line.Call A (call.Write (codes "b" ∷ []) 2 (codes "c"))) 14 ∷ reads (line.Push A 4) 8 ∷ reads (line.Uncut B) 7
          ∷ reads (line.Resend A) 8 ∷ reads (line.Resend B) 8 ∷ reads (line.Resend C) 8 ∷ reads (line.Resend A) 8 ∷ reads (line.Resend B) 8
          ∷ reads (line.Resend C) 8 ∷ reads (line.Call A (call.List [])) 8 ∷ reads (line.Call B (call.List [])) 8
          ∷ reads (line.Call C (call.List [])) 8 ∷ reads (line.Call B (call.Read (codes "a" ∷ []) 0 64)) 13
          ∷ reads (line.Call B (call.Read (codes "b" ∷ []) 0 64)) 13 ∷ reads (line.Call B (call.Read (codes "d" ∷ codes "a" ∷ []) 0 64)) 15
          ∷ reads (line.Call A call.Sync) 3 ∷ reads (line.Call B call.Sync) 3 ∷ reads (line.Call C call.Sync) 3 ∷ [];
      fates = [];
      max_objects = 1024;
      shown =
          Waits 1 A (call.Rmdir (codes "d" ∷ codes "k" ∷ []))
          ∷ Answered 1 A (call.Rmdir (codes "d" ∷ codes "k" ∷ [])) (answer.Reply (reply.Refused (no.NotFound 1))) None
          ∷ Waits 2 C (call.Mkdir (codes "e" ∷ [])) ∷ Answered 2 C (call.Mkdir (codes "e" ∷ [])) (answer.Reply reply.Ok) (Some 1)
          ∷ Waits 3 B (call.Write (codes "e" ∷ codes "a" ∷ []) 3 (codes "z")) ∷ Durable C (1 ∷ [])
          ∷ Answered 3 B (call.Write (codes "e" ∷ codes "a" ∷ []) 3 (codes "z")) (answer.Reply (reply.Refused (no.NotFound 2))) None
          ∷ Answered 4 B (call.Stat (codes "d" ∷ codes "b" ∷ [])) (answer.Reply (reply.Refused (no.NotFound 1))) None
          ∷ Waits 5 A (call.SetLen (codes "d" ∷ codes "b" ∷ []) 4)
          ∷ Answered 5 A (call.SetLen (codes "d" ∷ codes "b" ∷ []) 4) (answer.Reply (reply.Refused (no.NotFound 1))) None
          ∷ Answered 6 C (call.Write (codes "a" ∷ []) 0 (codes "byc")) (answer.Reply (reply.Refused (no.NotFound 1))) None
          ∷ Answered 7 B (call.Read (codes "d" ∷ codes "a" ∷ []) 3 9) (answer.Reply (reply.Refused (no.NotFound 1))) None
          ∷ Answered 8 B (call.Write (codes "d" ∷ codes "a" ∷ []) 0 (codes "b")) (answer.Reply (reply.Refused (no.NotFound 1))) None
          ∷ Answered 9 B (call.Write (codes "d" ∷ codes "a" ∷ []) 2 (codes "by")) (answer.Reply (reply.Refused (no.NotFound 1))) None
          ∷ Answered 10 B (call.Write (codes "d" ∷ codes "a" ∷ []) 4 (codes "a")) (answer.Reply (reply.Refused (no.NotFound 1))) None
          ∷ Answered 11 A (call.Write (codes "b" ∷ []) 6 (codes "x")) (answer.Reply (reply.Refused (no.NotFound 1))) None ∷ Nothing
          ∷ Waits 13 C (call.Create (codes "b" ∷ [])) ∷ Answered 13 C (call.Create (codes "b" ∷ [])) (answer.Reply reply.Ok) (Some 2)
          ∷ Waits 14 B (call.Fsync (codes "e" ∷ [])) ∷ Durable C (2 ∷ []) ∷ Answered 14 B (call.Fsync (codes "e" ∷ [])) (answer.Reply reply.Ok) None
          ∷ Answered 15 B (call.Stat (codes "d" ∷ codes "e" ∷ [])) (answer.Reply (reply.Refused (no.NotFound 1))) None ∷ Waits 16 A (call.Stat [])
          ∷ Answered 16 A (call.Stat []) (answer.Reply (reply.Stat kind.Dir 493 0 0 2)) None
          ∷ Answered 17 B (call.Stat (codes "e" ∷ [])) (answer.Reply (reply.Stat kind.Dir 493 0 0 0)) None ∷ Waits 19 B (call.Rmdir (codes "e" ∷ []))
          ∷ Answered 19 B (call.Rmdir (codes "e" ∷ [])) (answer.Reply reply.Ok) (Some 1)
          ∷ Answered 20 B (call.Stat []) (answer.Reply (reply.Stat kind.Dir 493 0 0 1)) None ∷ Waits 21 C (call.Write (codes "b" ∷ []) 3 (codes "ab"))
          ∷ Durable B (1 ∷ []) ∷ Answered 21 C (call.Write (codes "b" ∷ []) 3 (codes "ab")) (answer.Reply reply.Ok) (Some 3)
          ∷ Answered 22 C (call.Write (codes "b" ∷ []) 2 (codes "ca")) (answer.Reply reply.Ok) (Some 4)
          ∷ Answered 23 C (call.Write (codes "b" ∷ []) 5 (codes "bz")) (answer.Reply reply.Ok) (Some 5) ∷ Durable C (3 ∷ 4 ∷ 5 ∷ [])
          ∷ Answered 25 C (call.Stat (codes "d" ∷ codes "e" ∷ [])) (answer.Reply (reply.Refused (no.NotFound 1))) None
          ∷ Waits 26 B (call.Create (codes "a" ∷ [])) ∷ Answered 26 B (call.Create (codes "a" ∷ [])) (answer.Reply reply.Ok) (Some 2)
          ∷ Waits 27 A (call.Rename (codes "b" ∷ []) (codes "d" ∷ codes "a" ∷ [])) ∷ Durable B (2 ∷ [])
          ∷ Answered 27 A (call.Rename (codes "b" ∷ []) (codes "d" ∷ codes "a" ∷ [])) (answer.Reply (reply.Refused (no.NotFound 1))) None
          ∷ Answered 28 B (call.Rename (codes "d" ∷ codes "e" ∷ []) (codes "e" ∷ [])) (answer.Reply (reply.Refused (no.NotFound 1))) None
          ∷ Answered 29 A (call.Create (codes "d" ∷ codes "e" ∷ codes "a" ∷ [])) (answer.Reply (reply.Refused (no.NotFound 1))) None
          ∷ Answered 30 A (call.Rename (codes "d" ∷ codes "k" ∷ []) (codes "d" ∷ codes "e" ∷ [])) (answer.Reply (reply.Refused (no.NotFound 1))) None
          ∷ Waits 31 A (call.Write (codes "a" ∷ []) 0 (codes "xzz"))
          ∷ Answered 31 A (call.Write (codes "a" ∷ []) 0 (codes "xzz")) (answer.Reply reply.Ok) (Some 1) ∷ Durable A (1 ∷ [])
          ∷ Waits 33 C (call.Stat (codes "b" ∷ [])) ∷ Answered 33 C (call.Stat (codes "b" ∷ [])) (answer.Reply (reply.Stat kind.File 420 0 0 7)) None
          ∷ Nothing ∷ Waits 35 C (call.Rename (codes "a" ∷ []) (codes "d" ∷ codes "a" ∷ []))
          ∷ Answered 35 C (call.Rename (codes "a" ∷ []) (codes "d" ∷ codes "a" ∷ [])) (answer.Reply (reply.Refused (no.NotFound 1))) None
          ∷ Answered 36 C (call.Read (codes "a" ∷ []) 0 9) (answer.Reply (reply.Data (codes "xzz"))) None
          ∷ Answered 37 B (call.Mkdir (codes "d" ∷ codes "k" ∷ [])) (answer.Reply (reply.Refused (no.NotFound 1))) None
          ∷ Waits 38 B (call.Write (codes "a" ∷ []) 2 (codes "cbx"))
          ∷ Answered 38 B (call.Write (codes "a" ∷ []) 2 (codes "cbx")) (answer.Reply reply.Ok) (Some 3) ∷ Waits 39 A (call.Touch [] 4)
          ∷ Answered 39 A (call.Touch [] 4) (answer.Reply reply.Ok) (Some 2) ∷ Waits 41 C (call.Create (codes "d" ∷ codes "a" ∷ []))
          ∷ Durable A (2 ∷ []) ∷ Answered 41 C (call.Create (codes "d" ∷ codes "a" ∷ [])) (answer.Reply (reply.Refused (no.NotFound 1))) None
          ∷ Answered 42 C (call.Create (codes "b" ∷ [])) (answer.Reply (reply.Refused no.Exists)) None
          ∷ Waits 43 A (call.Write (codes "a" ∷ []) 0 (codes "a")) ∷ Waits 44 B (call.Fsync [])
          ∷ Waits 45 C (call.Write (codes "b" ∷ []) 3 (codes "cb"))
          ∷ Answered 45 C (call.Write (codes "b" ∷ []) 3 (codes "cb")) (answer.Reply reply.Ok) (Some 6)
          ∷ Answered 46 C (call.List []) (answer.Reply (reply.Names (codes "a" ∷ codes "b" ∷ []))) None
          ∷ Answered 47 A (call.Create (codes "d" ∷ codes "e" ∷ codes "a" ∷ [])) (answer.Reply (reply.Refused (no.NotFound 1))) None
          ∷ Waits 48 B (call.Forder ([] ∷ [] ∷ [])) ∷ Waits 49 B (call.Write (codes "a" ∷ []) 2 (codes "azxab"))
          ∷ Waits 51 B (call.Mkdir (codes "d" ∷ [])) ∷ Waits 52 A (call.Stat (codes "b" ∷ [])) ∷ Durable C (6 ∷ [])
          ∷ Answered 52 A (call.Stat (codes "b" ∷ [])) (answer.Reply (reply.Stat kind.File 420 0 0 7)) None
          ∷ Answered 53 C (call.Read (codes "b" ∷ []) 3 0) (answer.Reply (reply.Data [])) None
          ∷ Waits 54 A (call.Rename (codes "a" ∷ []) (codes "e" ∷ codes "a" ∷ [])) ∷ Waits 55 B (call.Read (codes "b" ∷ []) 3 9)
          ∷ Waits 56 A (call.SetLen (codes "b" ∷ []) 2) ∷ Answered 56 A (call.SetLen (codes "b" ∷ []) 2) (answer.Reply reply.Ok) (Some 3)
          ∷ Waits 57 B (call.Read (codes "b" ∷ []) 0 9) ∷ Answered 58 A (call.Write (codes "b" ∷ []) 2 (codes "cc")) (answer.Reply reply.Ok) (Some 4)
          ∷ Answered 59 A (call.Write (codes "b" ∷ []) 2 (codes "c")) (answer.Reply reply.Ok) (Some 5) ∷ Durable A (3 ∷ 4 ∷ []) ∷ Durable B (3 ∷ [])
          ∷ Answered 44 B (call.Fsync []) (answer.Reply reply.Ok) None ∷ Durable A (5 ∷ [])
          ∷ Answered 49 B (call.Write (codes "a" ∷ []) 2 (codes "azxab")) (answer.Reply reply.Ok) (Some 4)
          ∷ Answered 48 B (call.Forder ([] ∷ [] ∷ [])) (answer.Reply reply.Ok) (Some 5)
          ∷ Answered 51 B (call.Mkdir (codes "d" ∷ [])) (answer.Reply reply.Ok) (Some 6)
          ∷ Answered 55 B (call.Read (codes "b" ∷ []) 3 9) (answer.Reply (reply.Data (codes "c"))) None
          ∷ Answered 57 B (call.Read (codes "b" ∷ []) 0 9) (answer.Reply (reply.Data (0 ∷ 0 ∷ 99 ∷ 99 ∷ []))) None ∷ Durable B (4 ∷ [])
          ∷ Durable B (5 ∷ 6 ∷ [])
          ∷ Answered 54 A (call.Rename (codes "a" ∷ []) (codes "e" ∷ codes "a" ∷ [])) (answer.Reply (reply.Refused (no.NotFound 1))) None
          ∷ Answered 43 A (call.Write (codes "a" ∷ []) 0 (codes "a")) (answer.Reply reply.Ok) (Some 6)
          ∷ Answered 68 A (call.List []) (answer.Reply (reply.Names (codes "a" ∷ codes "b" ∷ codes "d" ∷ []))) None
          ∷ Answered 69 B (call.List []) (answer.Reply (reply.Names (codes "a" ∷ codes "b" ∷ codes "d" ∷ []))) None ∷ Waits 70 C (call.List [])
          ∷ Answered 70 C (call.List []) (answer.Reply (reply.Names (codes "a" ∷ codes "b" ∷ codes "d" ∷ []))) None
          ∷ Waits 71 B (call.Read (codes "a" ∷ []) 0 64) ∷ Durable A (6 ∷ [])
          ∷ Answered 71 B (call.Read (codes "a" ∷ []) 0 64) (answer.Reply (reply.Data (codes "azazxab"))) None
          ∷ Answered 72 B (call.Read (codes "b" ∷ []) 0 64) (answer.Reply (reply.Data (0 ∷ 0 ∷ 99 ∷ 99 ∷ []))) None
          ∷ Answered 73 B (call.Read (codes "d" ∷ codes "a" ∷ []) 0 64) (answer.Reply (reply.Refused (no.NotFound 2))) None
          ∷ Answered 74 A call.Sync (answer.Reply reply.Ok) None ∷ Answered 75 B call.Sync (answer.Reply reply.Ok) None
          ∷ Answered 76 C call.Sync (answer.Reply reply.Ok) None ∷ [];
      status = 0;
    }
