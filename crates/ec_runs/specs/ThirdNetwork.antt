-- Random scripts with lost, repeated and late messages.
use Rattle.std.specs.Prelude.{[], ◌∷◌, None, Some, codes}
use Rattle.ec_volume.specs.declared.image.Kind.TheVariants as kind
use Rattle.ec_plain.specs.declared.call.Call.TheVariants as call
use Rattle.ec_plain.specs.declared.call.Reply.TheVariants as reply
use Rattle.ec_plain.specs.declared.call.Refusal.TheVariants as no
use Rattle.ec_history.specs.declared.entry.Answer.TheVariants as answer
use Rattle.ec_history.specs.declared.shown.Shown.TheVariants.{Waits, Answered, Durable, Nothing}
use Rattle.ec_wire.specs.declared.msg.MsgKind.TheVariants as msg
use Rattle.ec_protocol.specs.declared.script.Line.TheVariants as line
use Rattle.ec_protocol.specs.Drill.{reads}
use Rattle.ec_protocol.specs.Runs.{Run, A, B, C, D}

abbrev pub net_16 : Run
net_16 =
    record {
      lines =
          reads (line.Call C (call.Mkdir (codes "d" ∷ []))) 9 ∷ reads (line.Call B (call.Create (codes "a" ∷ []))) 10
          ∷ reads (line.Call B (call.Write (codes "a" ∷ []) 0 (codes "abcdefgh"))) 14
          ∷ reads (line.Call A (call.Create (codes "d" ∷ codes "a" ∷ []))) 10
          ∷ reads (line.Call C (call.Write (codes "d" ∷ codes "a" ∷ []) 1 (codes "c"))) 16
          ∷ reads (line.Call C (call.Write (codes "d" ∷ codes "a" ∷ []) 3 (codes "x"))) 16
          ∷ reads (line.Call C (call.Write (codes "d" ∷ codes "a" ∷ []) 1 (codes "y"))) 16 ∷ reads (line.Push C 4) 8 ∷ reads (line.Resend A) 8
          ∷ reads (line.Call A (call.Write (codes "d" ∷ codes "a" ∷ []) 2 (codes "y"))) 16
          ∷ reads (line.Call A (call.Write (codes "d" ∷ codes "a" ∷ []) 3 (codes "yy"))) 16 ∷ reads (line.Push A 3) 8
          ∷ reads (line.Call C (call.Read (codes "a" ∷ []) 0 2)) 13 ∷ reads (line.Call B (call.Read (codes "d" ∷ codes "a" ∷ []) 0 64)) 15
          ∷ reads (line.Push B 1) 8 ∷ reads (line.Call A (call.Create (codes "b" ∷ []))) 10 ∷ reads (line.Call B (call.Stat (codes "d" ∷ []))) 8
          ∷ reads (line.Call C (call.Remove (codes "a" ∷ []))) 10 ∷ reads (line.Call B (call.Rename (codes "d" ∷ []) (codes "d" ∷ codes "z" ∷ []))) 13
          ∷ reads (line.Call B (call.Rmdir (codes "d" ∷ []))) 9
          ∷ reads (line.Call B (call.Rename (codes "d" ∷ codes "e" ∷ codes "a" ∷ []) (codes "e" ∷ codes "a" ∷ []))) 17
          ∷ reads (line.Call A (call.Rename (codes "b" ∷ []) (codes "b" ∷ []))) 13
          ∷ reads (line.Call A (call.Rename (codes "b" ∷ []) (codes "a" ∷ []))) 13
          ∷ reads (line.Call B (call.Forder ((codes "d" ∷ codes "a" ∷ []) ∷ (codes "d" ∷ []) ∷ [] ∷ []))) 18
          ∷ reads (line.Call A (call.Write (codes "a" ∷ []) 2 (codes "z"))) 14 ∷ reads (line.Call A (call.Write (codes "a" ∷ []) 4 (codes "cc"))) 14
          ∷ reads (line.Call C (call.Create (codes "b" ∷ []))) 10 ∷ reads (line.Call C (call.Remove (codes "d" ∷ codes "a" ∷ []))) 10
          ∷ reads (line.Call B (call.Mkdir (codes "e" ∷ []))) 9 ∷ reads (line.Call C (call.Create (codes "d" ∷ codes "a" ∷ []))) 10
          ∷ reads (line.Call A (call.Read (codes "d" ∷ codes "a" ∷ []) 3 64)) 15 ∷ reads (line.Call B (call.Create (codes "e" ∷ codes "a" ∷ []))) 10
          ∷ reads (line.Call C (call.SetLen (codes "e" ∷ codes "a" ∷ []) 8)) 15 ∷ reads (line.Call C (call.Create (codes "d" ∷ codes "b" ∷ []))) 10
          ∷ reads (line.Call C (call.Stat (codes "d" ∷ []))) 8 ∷ reads (line.Call A (call.Mkdir (codes "d" ∷ codes "k" ∷ []))) 9
          ∷ reads (line.Call A (call.List [])) 8 ∷ reads (line.Call B (call.Rename (codes "b" ∷ []) (codes "b" ∷ []))) 13
          ∷ reads (line.Call C (call.List [])) 8 ∷ reads (line.Call C (call.Write (codes "d" ∷ codes "a" ∷ []) 3 (codes "x"))) 16
          ∷ reads (line.Call C call.Sync) 3 ∷ reads (line.Call C (call.Chown (codes "b" ∷ []) 0)) 12
          ∷ reads (line.Call B (call.Forder ((codes "e" ∷ codes "a" ∷ []) ∷ []))) 10 ∷ reads (line.Call A (call.List (codes "d" ∷ []))) 8
          ∷ reads (line.Call A (call.Create (codes "d" ∷ codes "a" ∷ []))) 10 ∷ reads (line.Call A (call.Write (codes "a" ∷ []) 1 (codes "a"))) 14
          ∷ reads (line.Call A (call.Write (codes "a" ∷ []) 0 (codes "zx"))) 14 ∷ reads (line.Call A (call.Write (codes "a" ∷ []) 1 (codes "x"))) 14
          ∷ reads (line.Push A 10) 8 ∷ reads (line.Call A (call.Rename (codes "e" ∷ codes "a" ∷ []) (codes "d" ∷ codes "a" ∷ []))) 15
          ∷ reads (line.Call A (call.Write (codes "d" ∷ codes "a" ∷ []) 3 (codes "ab"))) 16
          ∷ reads (line.Call A (call.Write (codes "d" ∷ codes "a" ∷ []) 3 (codes "bz"))) 16
          ∷ reads (line.Call A (call.Write (codes "d" ∷ codes "a" ∷ []) 4 (codes "y"))) 16 ∷ reads (line.Push A 14) 8 ∷ reads (line.Uncut A) 7
          ∷ reads (line.Call A (call.Touch (codes "d" ∷ codes "a" ∷ []) 6)) 14 ∷ reads (line.Call A call.Sync) 3 ∷ reads (line.Call B call.Sync) 3
          ∷ reads (line.Call B (call.Write (codes "a" ∷ []) 5 (codes "c"))) 14 ∷ reads (line.Call B (call.Write (codes "a" ∷ []) 4 (codes "xb"))) 14
          ∷ reads (line.Call B (call.Write (codes "a" ∷ []) 0 (codes "c"))) 14 ∷ reads (line.Push B 9) 8 ∷ reads (line.Resend A) 8
          ∷ reads (line.Resend B) 8 ∷ reads (line.Resend C) 8 ∷ reads (line.Resend A) 8 ∷ reads (line.Resend B) 8 ∷ reads (line.Resend C) 8
          ∷ reads (line.Call A (call.List [])) 8 ∷ reads (line.Call B (call.List [])) 8 ∷ reads (line.Call C (call.List [])) 8
          ∷ reads (line.Call A (call.Read (codes "a" ∷ []) 0 64)) 13 ∷ reads (line.Call C (call.Read (codes "b" ∷ []) 0 64)) 13
          ∷ reads (line.Call B (call.Read (codes "d" ∷ codes "a" ∷ []) 0 64)) 15 ∷ reads (line.Call A call.Sync) 3 ∷ reads (line.Call B call.Sync) 3
          ∷ reads (line.Call C call.Sync) 3 ∷ [];
      fates = [];
      max_objects = 1024;
      shown =
          Waits 1 C (call.Mkdir (codes "d" ∷ [])) ∷ Answered 1 C (call.Mkdir (codes "d" ∷ [])) (answer.Reply reply.Ok) (Some 1)
          ∷ Waits 2 B (call.Create (codes "a" ∷ [])) ∷ Durable C (1 ∷ [])
          ∷ Answered 2 B (call.Create (codes "a" ∷ [])) (answer.Reply reply.Ok) (Some 1)
          ∷ Answered 3 B (call.Write (codes "a" ∷ []) 0 (codes "abcdefgh")) (answer.Reply reply.Ok) (Some 2)
          ∷ Waits 4 A (call.Create (codes "d" ∷ codes "a" ∷ [])) ∷ Durable B (1 ∷ [])
          ∷ Answered 4 A (call.Create (codes "d" ∷ codes "a" ∷ [])) (answer.Reply reply.Ok) (Some 1)
          ∷ Waits 5 C (call.Write (codes "d" ∷ codes "a" ∷ []) 1 (codes "c")) ∷ Durable A (1 ∷ [])
          ∷ Answered 5 C (call.Write (codes "d" ∷ codes "a" ∷ []) 1 (codes "c")) (answer.Reply reply.Ok) (Some 2)
          ∷ Answered 6 C (call.Write (codes "d" ∷ codes "a" ∷ []) 3 (codes "x")) (answer.Reply reply.Ok) (Some 3)
          ∷ Answered 7 C (call.Write (codes "d" ∷ codes "a" ∷ []) 1 (codes "y")) (answer.Reply reply.Ok) (Some 4) ∷ Durable C (2 ∷ 3 ∷ 4 ∷ [])
          ∷ Waits 10 A (call.Write (codes "d" ∷ codes "a" ∷ []) 2 (codes "y"))
          ∷ Answered 10 A (call.Write (codes "d" ∷ codes "a" ∷ []) 2 (codes "y")) (answer.Reply reply.Ok) (Some 2)
          ∷ Answered 11 A (call.Write (codes "d" ∷ codes "a" ∷ []) 3 (codes "yy")) (answer.Reply reply.Ok) (Some 3) ∷ Durable A (2 ∷ 3 ∷ [])
          ∷ Waits 13 C (call.Read (codes "a" ∷ []) 0 2) ∷ Durable B (2 ∷ [])
          ∷ Answered 13 C (call.Read (codes "a" ∷ []) 0 2) (answer.Reply (reply.Data (codes "ab"))) None
          ∷ Waits 14 B (call.Read (codes "d" ∷ codes "a" ∷ []) 0 64)
          ∷ Answered 14 B (call.Read (codes "d" ∷ codes "a" ∷ []) 0 64) (answer.Reply (reply.Data (0 ∷ 121 ∷ 121 ∷ 121 ∷ 121 ∷ []))) None ∷ Nothing
          ∷ Waits 16 A (call.Create (codes "b" ∷ [])) ∷ Answered 16 A (call.Create (codes "b" ∷ [])) (answer.Reply reply.Ok) (Some 4)
          ∷ Waits 17 B (call.Stat (codes "d" ∷ [])) ∷ Durable A (4 ∷ [])
          ∷ Answered 17 B (call.Stat (codes "d" ∷ [])) (answer.Reply (reply.Stat kind.Dir 493 0 0 1)) None ∷ Waits 18 C (call.Remove (codes "a" ∷ []))
          ∷ Answered 18 C (call.Remove (codes "a" ∷ [])) (answer.Reply reply.Ok) (Some 5)
          ∷ Waits 19 B (call.Rename (codes "d" ∷ []) (codes "d" ∷ codes "z" ∷ [])) ∷ Durable C (5 ∷ [])
          ∷ Answered 19 B (call.Rename (codes "d" ∷ []) (codes "d" ∷ codes "z" ∷ [])) (answer.Reply (reply.Refused no.Loop)) None
          ∷ Answered 20 B (call.Rmdir (codes "d" ∷ [])) (answer.Reply (reply.Refused no.NotEmpty)) None
          ∷ Answered 21 B (call.Rename (codes "d" ∷ codes "e" ∷ codes "a" ∷ []) (codes "e" ∷ codes "a" ∷ [])) (answer.Reply (reply.Refused (no.NotFound 2))) None
          ∷ Waits 22 A (call.Rename (codes "b" ∷ []) (codes "b" ∷ []))
          ∷ Answered 22 A (call.Rename (codes "b" ∷ []) (codes "b" ∷ [])) (answer.Reply reply.Ok) None
          ∷ Waits 23 A (call.Rename (codes "b" ∷ []) (codes "a" ∷ []))
          ∷ Answered 23 A (call.Rename (codes "b" ∷ []) (codes "a" ∷ [])) (answer.Reply reply.Ok) (Some 5)
          ∷ Waits 24 B (call.Forder ((codes "d" ∷ codes "a" ∷ []) ∷ (codes "d" ∷ []) ∷ [] ∷ [])) ∷ Durable A (5 ∷ [])
          ∷ Answered 24 B (call.Forder ((codes "d" ∷ codes "a" ∷ []) ∷ (codes "d" ∷ []) ∷ [] ∷ [])) (answer.Reply reply.Ok) (Some 3)
          ∷ Waits 25 A (call.Write (codes "a" ∷ []) 2 (codes "z")) ∷ Durable B (3 ∷ [])
          ∷ Answered 25 A (call.Write (codes "a" ∷ []) 2 (codes "z")) (answer.Reply reply.Ok) (Some 6)
          ∷ Answered 26 A (call.Write (codes "a" ∷ []) 4 (codes "cc")) (answer.Reply reply.Ok) (Some 7) ∷ Waits 27 C (call.Create (codes "b" ∷ []))
          ∷ Answered 27 C (call.Create (codes "b" ∷ [])) (answer.Reply reply.Ok) (Some 6) ∷ Waits 28 C (call.Remove (codes "d" ∷ codes "a" ∷ []))
          ∷ Answered 28 C (call.Remove (codes "d" ∷ codes "a" ∷ [])) (answer.Reply reply.Ok) (Some 7) ∷ Waits 29 B (call.Mkdir (codes "e" ∷ []))
          ∷ Durable C (6 ∷ []) ∷ Answered 29 B (call.Mkdir (codes "e" ∷ [])) (answer.Reply reply.Ok) (Some 4)
          ∷ Waits 30 C (call.Create (codes "d" ∷ codes "a" ∷ [])) ∷ Durable B (4 ∷ [])
          ∷ Answered 30 C (call.Create (codes "d" ∷ codes "a" ∷ [])) (answer.Reply reply.Ok) (Some 8)
          ∷ Waits 31 A (call.Read (codes "d" ∷ codes "a" ∷ []) 3 64) ∷ Durable C (7 ∷ 8 ∷ [])
          ∷ Answered 31 A (call.Read (codes "d" ∷ codes "a" ∷ []) 3 64) (answer.Reply (reply.Data [])) None
          ∷ Answered 32 B (call.Create (codes "e" ∷ codes "a" ∷ [])) (answer.Reply reply.Ok) (Some 5)
          ∷ Waits 33 C (call.SetLen (codes "e" ∷ codes "a" ∷ []) 8) ∷ Durable B (5 ∷ [])
          ∷ Answered 33 C (call.SetLen (codes "e" ∷ codes "a" ∷ []) 8) (answer.Reply reply.Ok) (Some 9)
          ∷ Waits 34 C (call.Create (codes "d" ∷ codes "b" ∷ []))
          ∷ Answered 34 C (call.Create (codes "d" ∷ codes "b" ∷ [])) (answer.Reply reply.Ok) (Some 10)
          ∷ Answered 35 C (call.Stat (codes "d" ∷ [])) (answer.Reply (reply.Stat kind.Dir 493 0 0 2)) None
          ∷ Waits 36 A (call.Mkdir (codes "d" ∷ codes "k" ∷ [])) ∷ Durable C (10 ∷ [])
          ∷ Answered 36 A (call.Mkdir (codes "d" ∷ codes "k" ∷ [])) (answer.Reply reply.Ok) (Some 8)
          ∷ Answered 37 A (call.List []) (answer.Reply (reply.Names (codes "a" ∷ codes "b" ∷ codes "d" ∷ codes "e" ∷ []))) None
          ∷ Waits 38 B (call.Rename (codes "b" ∷ []) (codes "b" ∷ []))
          ∷ Answered 38 B (call.Rename (codes "b" ∷ []) (codes "b" ∷ [])) (answer.Reply reply.Ok) None
          ∷ Answered 39 C (call.List []) (answer.Reply (reply.Names (codes "a" ∷ codes "b" ∷ codes "d" ∷ codes "e" ∷ []))) None
          ∷ Waits 40 C (call.Write (codes "d" ∷ codes "a" ∷ []) 3 (codes "x")) ∷ Durable A (8 ∷ [])
          ∷ Answered 40 C (call.Write (codes "d" ∷ codes "a" ∷ []) 3 (codes "x")) (answer.Reply reply.Ok) (Some 11) ∷ Waits 41 C call.Sync
          ∷ Durable C (9 ∷ 11 ∷ []) ∷ Answered 41 C call.Sync (answer.Reply reply.Ok) None ∷ Waits 42 C (call.Chown (codes "b" ∷ []) 0)
          ∷ Answered 42 C (call.Chown (codes "b" ∷ []) 0) (answer.Reply reply.Ok) (Some 12)
          ∷ Waits 43 B (call.Forder ((codes "e" ∷ codes "a" ∷ []) ∷ []))
          ∷ Answered 43 B (call.Forder ((codes "e" ∷ codes "a" ∷ []) ∷ [])) (answer.Reply reply.Ok) (Some 6)
          ∷ Answered 44 A (call.List (codes "d" ∷ [])) (answer.Reply (reply.Names (codes "a" ∷ codes "b" ∷ codes "k" ∷ []))) None
          ∷ Answered 45 A (call.Create (codes "d" ∷ codes "a" ∷ [])) (answer.Reply (reply.Refused no.Exists)) None
          ∷ Answered 46 A (call.Write (codes "a" ∷ []) 1 (codes "a")) (answer.Reply reply.Ok) (Some 9)
          ∷ Answered 47 A (call.Write (codes "a" ∷ []) 0 (codes "zx")) (answer.Reply reply.Ok) (Some 10)
          ∷ Answered 48 A (call.Write (codes "a" ∷ []) 1 (codes "x")) (answer.Reply reply.Ok) (Some 11) ∷ Durable A (6 ∷ 7 ∷ 9 ∷ 10 ∷ [])
          ∷ Waits 50 A (call.Rename (codes "e" ∷ codes "a" ∷ []) (codes "d" ∷ codes "a" ∷ [])) ∷ Durable B (6 ∷ [])
          ∷ Answered 50 A (call.Rename (codes "e" ∷ codes "a" ∷ []) (codes "d" ∷ codes "a" ∷ [])) (answer.Reply reply.Ok) (Some 12)
          ∷ Answered 51 A (call.Write (codes "d" ∷ codes "a" ∷ []) 3 (codes "ab")) (answer.Reply reply.Ok) (Some 13)
          ∷ Answered 52 A (call.Write (codes "d" ∷ codes "a" ∷ []) 3 (codes "bz")) (answer.Reply reply.Ok) (Some 14)
          ∷ Answered 53 A (call.Write (codes "d" ∷ codes "a" ∷ []) 4 (codes "y")) (answer.Reply reply.Ok) (Some 15) ∷ Durable A (12 ∷ 13 ∷ 14 ∷ [])
          ∷ Nothing ∷ Answered 56 A (call.Touch (codes "d" ∷ codes "a" ∷ []) 6) (answer.Reply reply.Ok) (Some 16) ∷ Waits 57 A call.Sync
          ∷ Durable A (11 ∷ 15 ∷ 16 ∷ []) ∷ Answered 57 A call.Sync (answer.Reply reply.Ok) None
          ∷ Answered 58 B call.Sync (answer.Reply reply.Ok) None ∷ Waits 59 B (call.Write (codes "a" ∷ []) 5 (codes "c"))
          ∷ Answered 59 B (call.Write (codes "a" ∷ []) 5 (codes "c")) (answer.Reply reply.Ok) (Some 7)
          ∷ Answered 60 B (call.Write (codes "a" ∷ []) 4 (codes "xb")) (answer.Reply reply.Ok) (Some 8)
          ∷ Answered 61 B (call.Write (codes "a" ∷ []) 0 (codes "c")) (answer.Reply reply.Ok) (Some 9) ∷ Durable B (9 ∷ [])
          ∷ Answered 69 A (call.List []) (answer.Reply (reply.Names (codes "a" ∷ codes "b" ∷ codes "d" ∷ codes "e" ∷ []))) None
          ∷ Answered 70 B (call.List []) (answer.Reply (reply.Names (codes "a" ∷ codes "b" ∷ codes "d" ∷ codes "e" ∷ []))) None
          ∷ Answered 71 C (call.List []) (answer.Reply (reply.Names (codes "a" ∷ codes "b" ∷ codes "d" ∷ codes "e" ∷ []))) None
          ∷ Waits 72 A (call.Read (codes "a" ∷ []) 0 64) ∷ Durable B (7 ∷ 8 ∷ [])
          ∷ Answered 72 A (call.Read (codes "a" ∷ []) 0 64) (answer.Reply (reply.Data (99 ∷ 120 ∷ 122 ∷ 0 ∷ 120 ∷ 98 ∷ []))) None
          ∷ Answered 73 C (call.Read (codes "b" ∷ []) 0 64) (answer.Reply (reply.Data [])) None
          ∷ Waits 74 B (call.Read (codes "d" ∷ codes "a" ∷ []) 0 64)
          ∷ Answered 74 B (call.Read (codes "d" ∷ codes "a" ∷ []) 0 64) (answer.Reply (reply.Data (0 ∷ 0 ∷ 0 ∷ 98 ∷ 121 ∷ 0 ∷ 0 ∷ 0 ∷ []))) None
          ∷ Answered 75 A call.Sync (answer.Reply reply.Ok) None ∷ Answered 76 B call.Sync (answer.Reply reply.Ok) None ∷ Waits 77 C call.Sync
          ∷ Durable C (12 ∷ []) ∷ Answered 77 C call.Sync (answer.Reply reply.Ok) None ∷ [];
      status = 0;
    }

abbrev pub net_17 : Run
net_17 =
    record {
      lines =
          reads (line.Call B (call.Read (codes "d" ∷ codes "a" ∷ []) 0 64)) 15 ∷ reads (line.Call A (call.Fsync (codes "a" ∷ []))) 9
          ∷ reads (line.Call B (call.Write (codes "d" ∷ codes "e" ∷ codes "a" ∷ []) 6 (codes "y"))) 18
          ∷ reads (line.Call A (call.Remove (codes "d" ∷ codes "a" ∷ []))) 10 ∷ reads (line.Call B (call.Fsync (codes "d" ∷ codes "b" ∷ []))) 9
          ∷ reads (line.Call B (call.Create (codes "b" ∷ []))) 10 ∷ reads (line.Call B (call.Fsync [])) 9
          ∷ reads (line.Call A (call.Write (codes "b" ∷ []) 4 (codes "xcx"))) 14 ∷ reads (line.Call A (call.Rename [] (codes "b" ∷ []))) 12
          ∷ reads (line.Call A (call.Forder ((codes "b" ∷ []) ∷ [] ∷ []))) 13 ∷ reads (line.Call B (call.Write (codes "b" ∷ []) 1 (codes "yxc"))) 14
          ∷ reads (line.Uncut A) 7 ∷ reads (line.Call A (call.Fsync [])) 9 ∷ reads (line.Call B (call.Write (codes "b" ∷ []) 3 (codes "cya"))) 14
          ∷ reads (line.Call A (call.Mkdir (codes "e" ∷ []))) 9 ∷ reads (line.Call B (call.Mkdir (codes "d" ∷ []))) 9
          ∷ reads (line.Call A (call.Forder ((codes "b" ∷ []) ∷ []))) 10 ∷ reads (line.Call A (call.Stat (codes "d" ∷ []))) 8
          ∷ reads (line.Call B (call.Write (codes "b" ∷ []) 6 (codes "czxaz"))) 14
          ∷ reads (line.Call A (call.Write (codes "b" ∷ []) 0 (codes "by"))) 14 ∷ reads (line.Call A (call.Stat (codes "d" ∷ []))) 8
          ∷ reads (line.Call B (call.Create (codes "d" ∷ codes "e" ∷ codes "a" ∷ []))) 10 ∷ reads (line.Call B (call.Read (codes "b" ∷ []) 0 9)) 13
          ∷ reads (line.Call A (call.Rename (codes "b" ∷ []) (codes "e" ∷ codes "a" ∷ []))) 13 ∷ reads (line.Call B (call.Stat (codes "d" ∷ []))) 8
          ∷ reads (line.Resend A) 8 ∷ reads (line.Call B (call.Stat (codes "d" ∷ codes "k" ∷ []))) 8
          ∷ reads (line.Call B (call.Rename (codes "e" ∷ []) (codes "e" ∷ codes "d" ∷ []))) 13
          ∷ reads (line.Call A (call.Forder ((codes "e" ∷ codes "a" ∷ []) ∷ []))) 10
          ∷ reads (line.Call A (call.Read (codes "e" ∷ codes "a" ∷ []) 0 64)) 15
          ∷ reads (line.Call A (call.Rename (codes "e" ∷ []) (codes "e" ∷ codes "d" ∷ []))) 13 ∷ reads (line.Call B (call.Create (codes "a" ∷ []))) 10
          ∷ reads (line.Call A (call.Write (codes "e" ∷ codes "a" ∷ []) 6 (codes "xb"))) 16
          ∷ reads (line.Call B (call.Create (codes "d" ∷ codes "a" ∷ []))) 10 ∷ reads (line.Call B (call.Write (codes "a" ∷ []) 3 (codes "bc"))) 14
          ∷ reads (line.Cut B) 5 ∷ reads (line.Call A (call.Read (codes "d" ∷ codes "a" ∷ []) 3 64)) 15
          ∷ reads (line.Call B (call.Write (codes "e" ∷ codes "a" ∷ []) 4 (codes "cyxyy"))) 16 ∷ reads (line.Uncut B) 7
          ∷ reads (line.Call A (call.Write (codes "a" ∷ []) 4 (codes "c"))) 14 ∷ reads (line.Call B (call.Remove (codes "a" ∷ []))) 10
          ∷ reads (line.Call B (call.Read (codes "a" ∷ []) 0 9)) 13 ∷ reads (line.Call B (call.Write (codes "d" ∷ codes "a" ∷ []) 0 (codes "by"))) 16
          ∷ reads (line.Call A (call.Create (codes "a" ∷ []))) 10 ∷ reads (line.Call B (call.Create (codes "d" ∷ codes "b" ∷ []))) 10
          ∷ reads (line.Call B (call.Create (codes "b" ∷ []))) 10 ∷ reads (line.Call A (call.SetLen (codes "e" ∷ codes "a" ∷ []) 4)) 15
          ∷ reads (line.Call B (call.Create (codes "d" ∷ codes "e" ∷ codes "a" ∷ []))) 10 ∷ reads (line.Call B (call.Stat (codes "e" ∷ []))) 8
          ∷ reads (line.Call B (call.Fsync (codes "d" ∷ codes "a" ∷ []))) 9
          ∷ reads (line.Call A (call.Create (codes "d" ∷ codes "a" ∷ codes "x" ∷ []))) 10 ∷ reads (line.Cut B) 5
          ∷ reads (line.Call A (call.Chmod [] 4095)) 11 ∷ reads (line.Uncut B) 7 ∷ reads (line.Call A (call.Fsync (codes "d" ∷ codes "b" ∷ []))) 9
          ∷ reads (line.Call A (call.Rmdir (codes "e" ∷ []))) 9 ∷ reads (line.Call B (call.Create (codes "b" ∷ []))) 10
          ∷ reads (line.Repeat A msg.Grant 27) 16 ∷ reads (line.Call B (call.Mkdir (codes "d" ∷ codes "e" ∷ []))) 9
          ∷ reads (line.Call A (call.Stat (codes "d" ∷ codes "a" ∷ []))) 8 ∷ reads (line.Resend A) 8 ∷ reads (line.Resend B) 8
          ∷ reads (line.Resend A) 8 ∷ reads (line.Resend B) 8 ∷ reads (line.Call A (call.List [])) 8 ∷ reads (line.Call B (call.List [])) 8
          ∷ reads (line.Call B (call.Read (codes "a" ∷ []) 0 64)) 13 ∷ reads (line.Call A (call.Read (codes "b" ∷ []) 0 64)) 13
          ∷ reads (line.Call B (call.Read (codes "d" ∷ codes "a" ∷ []) 0 64)) 15 ∷ reads (line.Call A call.Sync) 3 ∷ reads (line.Call B call.Sync) 3
          ∷ [];
      fates = [];
      max_objects = 1024;
      shown =
          Waits 1 B (call.Read (codes "d" ∷ codes "a" ∷ []) 0 64)
          ∷ Answered 1 B (call.Read (codes "d" ∷ codes "a" ∷ []) 0 64) (answer.Reply (reply.Refused (no.NotFound 1))) None
          ∷ Waits 2 A (call.Fsync (codes "a" ∷ [])) ∷ Answered 2 A (call.Fsync (codes "a" ∷ [])) (answer.Reply (reply.Refused (no.NotFound 1))) None
          ∷ Answered 3 B (call.Write (codes "d" ∷ codes "e" ∷ codes "a" ∷ []) 6 (codes "y")) (answer.Reply (reply.Refused (no.NotFound 1))) None
          ∷ Answered 4 A (call.Remove (codes "d" ∷ codes "a" ∷ [])) (answer.Reply (reply.Refused (no.NotFound 1))) None
          ∷ Answered 5 B (call.Fsync (codes "d" ∷ codes "b" ∷ [])) (answer.Reply (reply.Refused (no.NotFound 1))) None
          ∷ Waits 6 B (call.Create (codes "b" ∷ [])) ∷ Answered 6 B (call.Create (codes "b" ∷ [])) (answer.Reply reply.Ok) (Some 1)
          ∷ Waits 7 B (call.Fsync []) ∷ Durable B (1 ∷ []) ∷ Answered 7 B (call.Fsync []) (answer.Reply reply.Ok) None
          ∷ Waits 8 A (call.Write (codes "b" ∷ []) 4 (codes "xcx"))
          ∷ Answered 8 A (call.Write (codes "b" ∷ []) 4 (codes "xcx")) (answer.Reply reply.Ok) (Some 1)
          ∷ Answered 9 A (call.Rename [] (codes "b" ∷ [])) (answer.Reply (reply.Refused no.Root)) None
          ∷ Waits 10 A (call.Forder ((codes "b" ∷ []) ∷ [] ∷ []))
          ∷ Answered 10 A (call.Forder ((codes "b" ∷ []) ∷ [] ∷ [])) (answer.Reply reply.Ok) (Some 2)
          ∷ Waits 11 B (call.Write (codes "b" ∷ []) 1 (codes "yxc")) ∷ Durable A (1 ∷ 2 ∷ [])
          ∷ Answered 11 B (call.Write (codes "b" ∷ []) 1 (codes "yxc")) (answer.Reply reply.Ok) (Some 2) ∷ Nothing
          ∷ Answered 13 A (call.Fsync []) (answer.Reply reply.Ok) None
          ∷ Answered 14 B (call.Write (codes "b" ∷ []) 3 (codes "cya")) (answer.Reply reply.Ok) (Some 3) ∷ Waits 15 A (call.Mkdir (codes "e" ∷ []))
          ∷ Answered 15 A (call.Mkdir (codes "e" ∷ [])) (answer.Reply reply.Ok) (Some 3) ∷ Waits 16 B (call.Mkdir (codes "d" ∷ []))
          ∷ Durable A (3 ∷ []) ∷ Answered 16 B (call.Mkdir (codes "d" ∷ [])) (answer.Reply reply.Ok) (Some 4)
          ∷ Waits 17 A (call.Forder ((codes "b" ∷ []) ∷ [])) ∷ Durable B (4 ∷ []) ∷ Durable B (2 ∷ 3 ∷ [])
          ∷ Answered 17 A (call.Forder ((codes "b" ∷ []) ∷ [])) (answer.Reply reply.Ok) (Some 4) ∷ Waits 18 A (call.Stat (codes "d" ∷ []))
          ∷ Answered 18 A (call.Stat (codes "d" ∷ [])) (answer.Reply (reply.Stat kind.Dir 493 0 0 0)) None
          ∷ Waits 19 B (call.Write (codes "b" ∷ []) 6 (codes "czxaz")) ∷ Durable A (4 ∷ [])
          ∷ Answered 19 B (call.Write (codes "b" ∷ []) 6 (codes "czxaz")) (answer.Reply reply.Ok) (Some 5)
          ∷ Waits 20 A (call.Write (codes "b" ∷ []) 0 (codes "by")) ∷ Durable B (5 ∷ [])
          ∷ Answered 20 A (call.Write (codes "b" ∷ []) 0 (codes "by")) (answer.Reply reply.Ok) (Some 5)
          ∷ Answered 21 A (call.Stat (codes "d" ∷ [])) (answer.Reply (reply.Stat kind.Dir 493 0 0 0)) None
          ∷ Answered 22 B (call.Create (codes "d" ∷ codes "e" ∷ codes "a" ∷ [])) (answer.Reply (reply.Refused (no.NotFound 2))) None
          ∷ Waits 23 B (call.Read (codes "b" ∷ []) 0 9) ∷ Durable A (5 ∷ [])
          ∷ Answered 23 B (call.Read (codes "b" ∷ []) 0 9) (answer.Reply (reply.Data (codes "byxcyaczx"))) None
          ∷ Waits 24 A (call.Rename (codes "b" ∷ []) (codes "e" ∷ codes "a" ∷ []))
          ∷ Answered 24 A (call.Rename (codes "b" ∷ []) (codes "e" ∷ codes "a" ∷ [])) (answer.Reply reply.Ok) (Some 6)
          ∷ Waits 25 B (call.Stat (codes "d" ∷ [])) ∷ Durable A (6 ∷ [])
          ∷ Answered 25 B (call.Stat (codes "d" ∷ [])) (answer.Reply (reply.Stat kind.Dir 493 0 0 0)) None
          ∷ Answered 27 B (call.Stat (codes "d" ∷ codes "k" ∷ [])) (answer.Reply (reply.Refused (no.NotFound 2))) None
          ∷ Waits 28 B (call.Rename (codes "e" ∷ []) (codes "e" ∷ codes "d" ∷ []))
          ∷ Answered 28 B (call.Rename (codes "e" ∷ []) (codes "e" ∷ codes "d" ∷ [])) (answer.Reply (reply.Refused no.Loop)) None
          ∷ Answered 29 A (call.Forder ((codes "e" ∷ codes "a" ∷ []) ∷ [])) (answer.Reply reply.Ok) (Some 7)
          ∷ Answered 30 A (call.Read (codes "e" ∷ codes "a" ∷ []) 0 64) (answer.Reply (reply.Data (codes "byxcyaczxaz"))) None
          ∷ Answered 31 A (call.Rename (codes "e" ∷ []) (codes "e" ∷ codes "d" ∷ [])) (answer.Reply (reply.Refused no.Loop)) None
          ∷ Waits 32 B (call.Create (codes "a" ∷ [])) ∷ Answered 32 B (call.Create (codes "a" ∷ [])) (answer.Reply reply.Ok) (Some 6)
          ∷ Waits 33 A (call.Write (codes "e" ∷ codes "a" ∷ []) 6 (codes "xb")) ∷ Durable B (6 ∷ [])
          ∷ Answered 33 A (call.Write (codes "e" ∷ codes "a" ∷ []) 6 (codes "xb")) (answer.Reply reply.Ok) (Some 8)
          ∷ Waits 34 B (call.Create (codes "d" ∷ codes "a" ∷ []))
          ∷ Answered 34 B (call.Create (codes "d" ∷ codes "a" ∷ [])) (answer.Reply reply.Ok) (Some 7)
          ∷ Answered 35 B (call.Write (codes "a" ∷ []) 3 (codes "bc")) (answer.Reply reply.Ok) (Some 8)
          ∷ Waits 37 A (call.Read (codes "d" ∷ codes "a" ∷ []) 3 64) ∷ Waits 38 B (call.Write (codes "e" ∷ codes "a" ∷ []) 4 (codes "cyxyy"))
          ∷ Durable B (7 ∷ []) ∷ Durable A (7 ∷ 8 ∷ [])
          ∷ Answered 37 A (call.Read (codes "d" ∷ codes "a" ∷ []) 3 64) (answer.Reply (reply.Data [])) None
          ∷ Answered 38 B (call.Write (codes "e" ∷ codes "a" ∷ []) 4 (codes "cyxyy")) (answer.Reply reply.Ok) (Some 9)
          ∷ Waits 40 A (call.Write (codes "a" ∷ []) 4 (codes "c")) ∷ Durable B (8 ∷ [])
          ∷ Answered 40 A (call.Write (codes "a" ∷ []) 4 (codes "c")) (answer.Reply reply.Ok) (Some 9) ∷ Waits 41 B (call.Remove (codes "a" ∷ []))
          ∷ Durable A (9 ∷ []) ∷ Answered 41 B (call.Remove (codes "a" ∷ [])) (answer.Reply reply.Ok) (Some 10)
          ∷ Answered 42 B (call.Read (codes "a" ∷ []) 0 9) (answer.Reply (reply.Refused (no.NotFound 1))) None
          ∷ Waits 43 B (call.Write (codes "d" ∷ codes "a" ∷ []) 0 (codes "by"))
          ∷ Answered 43 B (call.Write (codes "d" ∷ codes "a" ∷ []) 0 (codes "by")) (answer.Reply reply.Ok) (Some 11)
          ∷ Waits 44 A (call.Create (codes "a" ∷ [])) ∷ Durable B (10 ∷ [])
          ∷ Answered 44 A (call.Create (codes "a" ∷ [])) (answer.Reply reply.Ok) (Some 10) ∷ Waits 45 B (call.Create (codes "d" ∷ codes "b" ∷ []))
          ∷ Durable A (10 ∷ []) ∷ Answered 45 B (call.Create (codes "d" ∷ codes "b" ∷ [])) (answer.Reply reply.Ok) (Some 12)
          ∷ Waits 46 B (call.Create (codes "b" ∷ [])) ∷ Answered 46 B (call.Create (codes "b" ∷ [])) (answer.Reply reply.Ok) (Some 13)
          ∷ Waits 47 A (call.SetLen (codes "e" ∷ codes "a" ∷ []) 4) ∷ Durable B (13 ∷ []) ∷ Durable B (9 ∷ [])
          ∷ Answered 47 A (call.SetLen (codes "e" ∷ codes "a" ∷ []) 4) (answer.Reply reply.Ok) (Some 11)
          ∷ Answered 48 B (call.Create (codes "d" ∷ codes "e" ∷ codes "a" ∷ [])) (answer.Reply (reply.Refused (no.NotFound 2))) None
          ∷ Answered 49 B (call.Stat (codes "e" ∷ [])) (answer.Reply (reply.Stat kind.Dir 493 0 0 1)) None
          ∷ Waits 50 B (call.Fsync (codes "d" ∷ codes "a" ∷ [])) ∷ Durable B (11 ∷ [])
          ∷ Answered 50 B (call.Fsync (codes "d" ∷ codes "a" ∷ [])) (answer.Reply reply.Ok) None
          ∷ Waits 51 A (call.Create (codes "d" ∷ codes "a" ∷ codes "x" ∷ [])) ∷ Durable B (12 ∷ [])
          ∷ Answered 51 A (call.Create (codes "d" ∷ codes "a" ∷ codes "x" ∷ [])) (answer.Reply (reply.Refused (no.NotDir 2))) None
          ∷ Waits 53 A (call.Chmod [] 4095) ∷ Answered 53 A (call.Chmod [] 4095) (answer.Reply reply.Ok) (Some 12)
          ∷ Waits 55 A (call.Fsync (codes "d" ∷ codes "b" ∷ []))
          ∷ Answered 55 A (call.Fsync (codes "d" ∷ codes "b" ∷ [])) (answer.Reply reply.Ok) None
          ∷ Answered 56 A (call.Rmdir (codes "e" ∷ [])) (answer.Reply (reply.Refused no.NotEmpty)) None ∷ Waits 57 B (call.Create (codes "b" ∷ []))
          ∷ Durable A (12 ∷ []) ∷ Answered 57 B (call.Create (codes "b" ∷ [])) (answer.Reply (reply.Refused no.Exists)) None
          ∷ Waits 59 B (call.Mkdir (codes "d" ∷ codes "e" ∷ []))
          ∷ Answered 59 B (call.Mkdir (codes "d" ∷ codes "e" ∷ [])) (answer.Reply reply.Ok) (Some 14)
          ∷ Waits 60 A (call.Stat (codes "d" ∷ codes "a" ∷ [])) ∷ Durable B (14 ∷ [])
          ∷ Answered 60 A (call.Stat (codes "d" ∷ codes "a" ∷ [])) (answer.Reply (reply.Stat kind.File 420 0 0 2)) None
          ∷ Answered 65 A (call.List []) (answer.Reply (reply.Names (codes "a" ∷ codes "b" ∷ codes "d" ∷ codes "e" ∷ []))) None
          ∷ Answered 66 B (call.List []) (answer.Reply (reply.Names (codes "a" ∷ codes "b" ∷ codes "d" ∷ codes "e" ∷ []))) None
          ∷ Waits 67 B (call.Read (codes "a" ∷ []) 0 64) ∷ Answered 67 B (call.Read (codes "a" ∷ []) 0 64) (answer.Reply (reply.Data [])) None
          ∷ Waits 68 A (call.Read (codes "b" ∷ []) 0 64) ∷ Answered 68 A (call.Read (codes "b" ∷ []) 0 64) (answer.Reply (reply.Data [])) None
          ∷ Answered 69 B (call.Read (codes "d" ∷ codes "a" ∷ []) 0 64) (answer.Reply (reply.Data (codes "by"))) None ∷ Waits 70 A call.Sync
          ∷ Durable A (11 ∷ []) ∷ Answered 70 A call.Sync (answer.Reply reply.Ok) None ∷ Answered 71 B call.Sync (answer.Reply reply.Ok) None ∷ [];
      status = 0;
    }

abbrev pub net_18 : Run
net_18 =
    record {
      lines =
          reads (line.Call B (call.Create (codes "a" ∷ []))) 10 ∷ reads (line.Call B (call.Create (codes "a" ∷ []))) 10
          ∷ reads (line.Call A (call.Create (codes "d" ∷ codes "a" ∷ []))) 10 ∷ reads (line.Call A (call.Write (codes "a" ∷ []) 0 (codes "xa"))) 14
          ∷ reads (line.Call A (call.Fsync (codes "a" ∷ []))) 9 ∷ reads (line.Call A (call.Create (codes "d" ∷ codes "a" ∷ []))) 10
          ∷ reads (line.Push A 1) 8 ∷ reads (line.Call B (call.Create (codes "e" ∷ codes "a" ∷ []))) 10 ∷ reads (line.Push A 1) 8
          ∷ reads (line.Call A (call.Create (codes "d" ∷ codes "a" ∷ []))) 10 ∷ reads (line.Call B (call.Write (codes "a" ∷ []) 4 (codes "b"))) 14
          ∷ reads (line.Call A (call.Stat (codes "a" ∷ []))) 8 ∷ reads (line.Call A (call.List (codes "e" ∷ []))) 8
          ∷ reads (line.Call A (call.Fsync (codes "a" ∷ []))) 9 ∷ reads (line.Call A (call.Rmdir (codes "d" ∷ []))) 9 ∷ reads (line.Push B 1) 8
          ∷ reads (line.Call B (call.Touch [] 8)) 11 ∷ reads (line.Call A (call.Chown (codes "e" ∷ []) 5)) 12 ∷ reads (line.Repeat A msg.Back 1) 15
          ∷ reads (line.Call B (call.Rename (codes "a" ∷ []) (codes "d" ∷ codes "a" ∷ []))) 13 ∷ reads (line.Call B (call.Fsync (codes "e" ∷ []))) 9
          ∷ reads (line.Call B (call.Write (codes "a" ∷ []) 2 (codes "z"))) 14 ∷ reads (line.Call A (call.Write (codes "a" ∷ []) 2 (codes "c"))) 14
          ∷ reads (line.Call A call.Sync) 3 ∷ reads (line.Call B (call.Rename (codes "a" ∷ []) (codes "a" ∷ []))) 13
          ∷ reads (line.Call A (call.Create (codes "a" ∷ []))) 10 ∷ reads (line.Call B (call.Write (codes "a" ∷ []) 1 (codes "ay"))) 14
          ∷ reads (line.Call A (call.Write (codes "a" ∷ []) 2 (codes "acb"))) 14 ∷ reads (line.Call B (call.Write (codes "a" ∷ []) 6 (codes "bc"))) 14
          ∷ reads (line.Call A (call.Write (codes "a" ∷ []) 0 (codes "z"))) 14 ∷ reads (line.Call B (call.List [])) 8
          ∷ reads (line.Call B (call.Write (codes "a" ∷ []) 2 (codes "xay"))) 14 ∷ reads (line.Call A (call.Create (codes "e" ∷ codes "a" ∷ []))) 10
          ∷ reads (line.Push A 1) 8 ∷ reads (line.Call A (call.Rmdir (codes "e" ∷ []))) 9 ∷ reads (line.Call A (call.Read (codes "a" ∷ []) 0 2)) 13
          ∷ reads (line.Call B (call.Create (codes "a" ∷ []))) 10 ∷ reads (line.Call B (call.Mkdir (codes "d" ∷ []))) 9 ∷ reads (line.Push A 1) 8
          ∷ reads (line.Call B (call.Write (codes "d" ∷ codes "a" ∷ []) 4 (codes "z"))) 16
          ∷ reads (line.Call A (call.Write (codes "a" ∷ []) 6 (codes "bb"))) 14 ∷ reads (line.Push A 2) 8
          ∷ reads (line.Call B (call.Write (codes "e" ∷ codes "a" ∷ []) 0 (codes "y"))) 16 ∷ reads (line.Call A (call.Read (codes "a" ∷ []) 0 9)) 13
          ∷ reads (line.Call B (call.Create (codes "d" ∷ codes "a" ∷ []))) 10 ∷ reads (line.Call A (call.Write (codes "a" ∷ []) 3 (codes "aaxay"))) 14
          ∷ reads (line.Call A (call.Remove (codes "d" ∷ codes "a" ∷ []))) 10 ∷ reads (line.Call A (call.Create (codes "e" ∷ codes "a" ∷ []))) 10
          ∷ reads (line.Call B (call.Stat (codes "a" ∷ []))) 8 ∷ reads (line.Call B (call.Write (codes "a" ∷ []) 1 (codes "cx"))) 14
          ∷ reads (line.Call A (call.Rename (codes "e" ∷ codes "a" ∷ []) (codes "e" ∷ codes "a" ∷ []))) 15
          ∷ reads (line.Call A (call.Rename (codes "a" ∷ []) (codes "a2" ∷ []))) 13 ∷ reads (line.Call A (call.Read (codes "a2" ∷ []) 1 0)) 14
          ∷ reads (line.Call B (call.Write (codes "a2" ∷ []) 4 (codes "a"))) 15 ∷ reads (line.Call A (call.Read (codes "e" ∷ codes "a" ∷ []) 0 64)) 15
          ∷ reads (line.Call A (call.Write (codes "a2" ∷ []) 0 (codes "bzx"))) 15 ∷ reads (line.Call A (call.Forder ((codes "a2" ∷ []) ∷ []))) 10
          ∷ reads (line.Call A (call.Write (codes "a2" ∷ []) 4 (codes "a"))) 15 ∷ reads (line.Call A (call.Create (codes "d" ∷ codes "a" ∷ []))) 10
          ∷ reads (line.Call B (call.Read (codes "d" ∷ codes "a" ∷ []) 0 64)) 15 ∷ reads (line.Resend A) 8 ∷ reads (line.Resend B) 8
          ∷ reads (line.Resend A) 8 ∷ reads (line.Resend B) 8 ∷ reads (line.Call A (call.List [])) 8 ∷ reads (line.Call B (call.List [])) 8
          ∷ reads (line.Call B (call.Read (codes "a" ∷ []) 0 64)) 13 ∷ reads (line.Call A (call.Read (codes "d" ∷ codes "a" ∷ []) 0 64)) 15
          ∷ reads (line.Call A (call.Read (codes "e" ∷ codes "a" ∷ []) 0 64)) 15 ∷ [];
      fates = [];
      max_objects = 1024;
      shown =
          Waits 1 B (call.Create (codes "a" ∷ [])) ∷ Answered 1 B (call.Create (codes "a" ∷ [])) (answer.Reply reply.Ok) (Some 1)
          ∷ Answered 2 B (call.Create (codes "a" ∷ [])) (answer.Reply (reply.Refused no.Exists)) None
          ∷ Waits 3 A (call.Create (codes "d" ∷ codes "a" ∷ [])) ∷ Durable B (1 ∷ [])
          ∷ Answered 3 A (call.Create (codes "d" ∷ codes "a" ∷ [])) (answer.Reply (reply.Refused (no.NotFound 1))) None
          ∷ Waits 4 A (call.Write (codes "a" ∷ []) 0 (codes "xa"))
          ∷ Answered 4 A (call.Write (codes "a" ∷ []) 0 (codes "xa")) (answer.Reply reply.Ok) (Some 1) ∷ Waits 5 A (call.Fsync (codes "a" ∷ []))
          ∷ Durable A (1 ∷ []) ∷ Answered 5 A (call.Fsync (codes "a" ∷ [])) (answer.Reply reply.Ok) None
          ∷ Answered 6 A (call.Create (codes "d" ∷ codes "a" ∷ [])) (answer.Reply (reply.Refused (no.NotFound 1))) None ∷ Nothing
          ∷ Answered 8 B (call.Create (codes "e" ∷ codes "a" ∷ [])) (answer.Reply (reply.Refused (no.NotFound 1))) None ∷ Nothing
          ∷ Answered 10 A (call.Create (codes "d" ∷ codes "a" ∷ [])) (answer.Reply (reply.Refused (no.NotFound 1))) None
          ∷ Waits 11 B (call.Write (codes "a" ∷ []) 4 (codes "b"))
          ∷ Answered 11 B (call.Write (codes "a" ∷ []) 4 (codes "b")) (answer.Reply reply.Ok) (Some 2) ∷ Waits 12 A (call.Stat (codes "a" ∷ []))
          ∷ Durable B (2 ∷ []) ∷ Answered 12 A (call.Stat (codes "a" ∷ [])) (answer.Reply (reply.Stat kind.File 420 0 0 5)) None
          ∷ Answered 13 A (call.List (codes "e" ∷ [])) (answer.Reply (reply.Refused (no.NotFound 1))) None
          ∷ Answered 14 A (call.Fsync (codes "a" ∷ [])) (answer.Reply reply.Ok) None
          ∷ Answered 15 A (call.Rmdir (codes "d" ∷ [])) (answer.Reply (reply.Refused (no.NotFound 1))) None ∷ Nothing ∷ Waits 17 B (call.Touch [] 8)
          ∷ Answered 17 B (call.Touch [] 8) (answer.Reply reply.Ok) (Some 3) ∷ Waits 18 A (call.Chown (codes "e" ∷ []) 5) ∷ Durable B (3 ∷ [])
          ∷ Answered 18 A (call.Chown (codes "e" ∷ []) 5) (answer.Reply (reply.Refused (no.NotFound 1))) None
          ∷ Answered 20 B (call.Rename (codes "a" ∷ []) (codes "d" ∷ codes "a" ∷ [])) (answer.Reply (reply.Refused (no.NotFound 1))) None
          ∷ Answered 21 B (call.Fsync (codes "e" ∷ [])) (answer.Reply (reply.Refused (no.NotFound 1))) None
          ∷ Waits 22 B (call.Write (codes "a" ∷ []) 2 (codes "z"))
          ∷ Answered 22 B (call.Write (codes "a" ∷ []) 2 (codes "z")) (answer.Reply reply.Ok) (Some 4)
          ∷ Waits 23 A (call.Write (codes "a" ∷ []) 2 (codes "c")) ∷ Durable B (4 ∷ [])
          ∷ Answered 23 A (call.Write (codes "a" ∷ []) 2 (codes "c")) (answer.Reply reply.Ok) (Some 2) ∷ Waits 24 A call.Sync ∷ Durable A (2 ∷ [])
          ∷ Answered 24 A call.Sync (answer.Reply reply.Ok) None ∷ Waits 25 B (call.Rename (codes "a" ∷ []) (codes "a" ∷ []))
          ∷ Answered 25 B (call.Rename (codes "a" ∷ []) (codes "a" ∷ [])) (answer.Reply reply.Ok) None
          ∷ Answered 26 A (call.Create (codes "a" ∷ [])) (answer.Reply (reply.Refused no.Exists)) None
          ∷ Waits 27 B (call.Write (codes "a" ∷ []) 1 (codes "ay"))
          ∷ Answered 27 B (call.Write (codes "a" ∷ []) 1 (codes "ay")) (answer.Reply reply.Ok) (Some 5)
          ∷ Waits 28 A (call.Write (codes "a" ∷ []) 2 (codes "acb")) ∷ Durable B (5 ∷ [])
          ∷ Answered 28 A (call.Write (codes "a" ∷ []) 2 (codes "acb")) (answer.Reply reply.Ok) (Some 3)
          ∷ Waits 29 B (call.Write (codes "a" ∷ []) 6 (codes "bc")) ∷ Durable A (3 ∷ [])
          ∷ Answered 29 B (call.Write (codes "a" ∷ []) 6 (codes "bc")) (answer.Reply reply.Ok) (Some 6)
          ∷ Waits 30 A (call.Write (codes "a" ∷ []) 0 (codes "z")) ∷ Durable B (6 ∷ [])
          ∷ Answered 30 A (call.Write (codes "a" ∷ []) 0 (codes "z")) (answer.Reply reply.Ok) (Some 4)
          ∷ Answered 31 B (call.List []) (answer.Reply (reply.Names (codes "a" ∷ []))) None ∷ Waits 32 B (call.Write (codes "a" ∷ []) 2 (codes "xay"))
          ∷ Durable A (4 ∷ []) ∷ Answered 32 B (call.Write (codes "a" ∷ []) 2 (codes "xay")) (answer.Reply reply.Ok) (Some 7)
          ∷ Answered 33 A (call.Create (codes "e" ∷ codes "a" ∷ [])) (answer.Reply (reply.Refused (no.NotFound 1))) None ∷ Nothing
          ∷ Answered 35 A (call.Rmdir (codes "e" ∷ [])) (answer.Reply (reply.Refused (no.NotFound 1))) None
          ∷ Waits 36 A (call.Read (codes "a" ∷ []) 0 2) ∷ Durable B (7 ∷ [])
          ∷ Answered 36 A (call.Read (codes "a" ∷ []) 0 2) (answer.Reply (reply.Data (codes "za"))) None
          ∷ Answered 37 B (call.Create (codes "a" ∷ [])) (answer.Reply (reply.Refused no.Exists)) None ∷ Waits 38 B (call.Mkdir (codes "d" ∷ []))
          ∷ Answered 38 B (call.Mkdir (codes "d" ∷ [])) (answer.Reply reply.Ok) (Some 8) ∷ Nothing
          ∷ Answered 40 B (call.Write (codes "d" ∷ codes "a" ∷ []) 4 (codes "z")) (answer.Reply (reply.Refused (no.NotFound 2))) None
          ∷ Waits 41 A (call.Write (codes "a" ∷ []) 6 (codes "bb")) ∷ Durable B (8 ∷ [])
          ∷ Answered 41 A (call.Write (codes "a" ∷ []) 6 (codes "bb")) (answer.Reply reply.Ok) (Some 5) ∷ Nothing
          ∷ Answered 43 B (call.Write (codes "e" ∷ codes "a" ∷ []) 0 (codes "y")) (answer.Reply (reply.Refused (no.NotFound 1))) None
          ∷ Answered 44 A (call.Read (codes "a" ∷ []) 0 9) (answer.Reply (reply.Data (122 ∷ 97 ∷ 120 ∷ 97 ∷ 121 ∷ 0 ∷ 98 ∷ 98 ∷ []))) None
          ∷ Answered 45 B (call.Create (codes "d" ∷ codes "a" ∷ [])) (answer.Reply reply.Ok) (Some 9)
          ∷ Answered 46 A (call.Write (codes "a" ∷ []) 3 (codes "aaxay")) (answer.Reply reply.Ok) (Some 6)
          ∷ Waits 47 A (call.Remove (codes "d" ∷ codes "a" ∷ [])) ∷ Durable B (9 ∷ [])
          ∷ Answered 47 A (call.Remove (codes "d" ∷ codes "a" ∷ [])) (answer.Reply reply.Ok) (Some 7)
          ∷ Answered 48 A (call.Create (codes "e" ∷ codes "a" ∷ [])) (answer.Reply (reply.Refused (no.NotFound 1))) None
          ∷ Waits 49 B (call.Stat (codes "a" ∷ [])) ∷ Durable A (5 ∷ 6 ∷ [])
          ∷ Answered 49 B (call.Stat (codes "a" ∷ [])) (answer.Reply (reply.Stat kind.File 420 0 0 8)) None
          ∷ Waits 50 B (call.Write (codes "a" ∷ []) 1 (codes "cx"))
          ∷ Answered 50 B (call.Write (codes "a" ∷ []) 1 (codes "cx")) (answer.Reply reply.Ok) (Some 10)
          ∷ Answered 51 A (call.Rename (codes "e" ∷ codes "a" ∷ []) (codes "e" ∷ codes "a" ∷ [])) (answer.Reply (reply.Refused (no.NotFound 1))) None
          ∷ Waits 52 A (call.Rename (codes "a" ∷ []) (codes "a2" ∷ [])) ∷ Durable B (10 ∷ [])
          ∷ Answered 52 A (call.Rename (codes "a" ∷ []) (codes "a2" ∷ [])) (answer.Reply reply.Ok) (Some 8)
          ∷ Answered 53 A (call.Read (codes "a2" ∷ []) 1 0) (answer.Reply (reply.Data [])) None
          ∷ Waits 54 B (call.Write (codes "a2" ∷ []) 4 (codes "a")) ∷ Durable A (8 ∷ [])
          ∷ Answered 54 B (call.Write (codes "a2" ∷ []) 4 (codes "a")) (answer.Reply reply.Ok) (Some 11)
          ∷ Answered 55 A (call.Read (codes "e" ∷ codes "a" ∷ []) 0 64) (answer.Reply (reply.Refused (no.NotFound 1))) None
          ∷ Waits 56 A (call.Write (codes "a2" ∷ []) 0 (codes "bzx")) ∷ Durable B (11 ∷ [])
          ∷ Answered 56 A (call.Write (codes "a2" ∷ []) 0 (codes "bzx")) (answer.Reply reply.Ok) (Some 9)
          ∷ Answered 57 A (call.Forder ((codes "a2" ∷ []) ∷ [])) (answer.Reply reply.Ok) (Some 10)
          ∷ Answered 58 A (call.Write (codes "a2" ∷ []) 4 (codes "a")) (answer.Reply reply.Ok) (Some 11)
          ∷ Waits 59 A (call.Create (codes "d" ∷ codes "a" ∷ []))
          ∷ Answered 59 A (call.Create (codes "d" ∷ codes "a" ∷ [])) (answer.Reply reply.Ok) (Some 12)
          ∷ Waits 60 B (call.Read (codes "d" ∷ codes "a" ∷ []) 0 64) ∷ Durable A (7 ∷ 12 ∷ [])
          ∷ Answered 60 B (call.Read (codes "d" ∷ codes "a" ∷ []) 0 64) (answer.Reply (reply.Data [])) None
          ∷ Answered 65 A (call.List []) (answer.Reply (reply.Names (codes "a2" ∷ codes "d" ∷ []))) None
          ∷ Answered 66 B (call.List []) (answer.Reply (reply.Names (codes "a2" ∷ codes "d" ∷ []))) None
          ∷ Answered 67 B (call.Read (codes "a" ∷ []) 0 64) (answer.Reply (reply.Refused (no.NotFound 1))) None
          ∷ Answered 68 A (call.Read (codes "d" ∷ codes "a" ∷ []) 0 64) (answer.Reply (reply.Data [])) None
          ∷ Answered 69 A (call.Read (codes "e" ∷ codes "a" ∷ []) 0 64) (answer.Reply (reply.Refused (no.NotFound 1))) None ∷ [];
      status = 0;
    }

abbrev pub net_19 : Run
net_19 =
    record {
      lines =
          reads (line.Call B (call.Mkdir (codes "d" ∷ []))) 9 ∷ reads (line.Call A (call.Create (codes "a" ∷ []))) 10
          ∷ reads (line.Call A (call.Write (codes "a" ∷ []) 0 (codes "abcdefgh"))) 14 ∷ reads (line.Call A call.Sync) 3
          ∷ reads (line.Call B call.Sync) 3 ∷ reads (line.Repeat B msg.Recall 2) 17 ∷ reads (line.Call B (call.Read (codes "a" ∷ []) 0 9)) 13
          ∷ reads (line.Push B 1) 8 ∷ reads (line.Call B (call.Fsync (codes "a" ∷ []))) 9 ∷ reads (line.Resend B) 8 ∷ reads (line.Uncut A) 7
          ∷ reads (line.Cut B) 5 ∷ reads (line.Call A (call.Write (codes "a" ∷ []) 0 (codes "ca"))) 14 ∷ reads (line.Drop B msg.Recall 3) 15
          ∷ reads (line.Call B (call.Fsync (codes "a" ∷ []))) 9 ∷ reads (line.Call A (call.Read (codes "a" ∷ []) 0 64)) 13
          ∷ reads (line.Call A (call.Write (codes "a" ∷ []) 3 (codes "axcxb"))) 14
          ∷ reads (line.Call B (call.Write (codes "a" ∷ []) 5 (codes "y"))) 14 ∷ reads (line.Call B (call.Write (codes "a" ∷ []) 3 (codes "zb"))) 14
          ∷ reads (line.Call B (call.Write (codes "a" ∷ []) 2 (codes "x"))) 14 ∷ reads (line.Cut A) 5 ∷ reads (line.Resend A) 8
          ∷ reads (line.Resend A) 8 ∷ reads (line.Deliver A msg.Want 5) 16 ∷ reads (line.Drop A msg.Claim 2) 14
          ∷ reads (line.Deliver B msg.Recall 4) 18 ∷ reads (line.Drop A msg.Claim 3) 14 ∷ reads (line.Push B 1) 8
          ∷ reads (line.Call A (call.Fsync (codes "a" ∷ []))) 9 ∷ reads (line.Repeat A msg.Back 1) 15 ∷ reads (line.Push A 2) 8
          ∷ reads (line.Drop B msg.Want 5) 13 ∷ reads (line.Repeat B msg.Want 4) 15 ∷ reads (line.Repeat B msg.Flush 1) 16
          ∷ reads (line.Deliver A msg.Want 4) 16 ∷ reads (line.Uncut A) 7 ∷ reads (line.Deliver B msg.Want 4) 16
          ∷ reads (line.Call A (call.Write (codes "a" ∷ []) 1 (codes "cy"))) 14 ∷ reads (line.Call A (call.Write (codes "a" ∷ []) 3 (codes "ba"))) 14
          ∷ reads (line.Call A (call.Write (codes "a" ∷ []) 2 (codes "xa"))) 14 ∷ reads (line.Push A 2) 8
          ∷ reads (line.Call B (call.Write (codes "a" ∷ []) 0 (codes "za"))) 14 ∷ reads (line.Call B (call.Write (codes "a" ∷ []) 1 (codes "c"))) 14
          ∷ reads (line.Call B (call.Write (codes "a" ∷ []) 3 (codes "c"))) 14 ∷ reads (line.Deliver B msg.Flush 1) 17 ∷ reads (line.Cut A) 5
          ∷ reads (line.Call B call.Sync) 3 ∷ reads (line.Drop B msg.Grant 5) 14 ∷ reads (line.Call A (call.Fsync (codes "a" ∷ []))) 9
          ∷ reads (line.Repeat B msg.Back 2) 15 ∷ reads (line.Call A (call.Stat [])) 8 ∷ reads (line.Push B 1) 8
          ∷ reads (line.Call A (call.Touch (codes "a" ∷ []) 3)) 12 ∷ reads (line.Resend A) 8 ∷ reads (line.Cut B) 5 ∷ reads (line.Uncut A) 7
          ∷ reads (line.Call B (call.Write (codes "d" ∷ codes "b" ∷ []) 2 (codes "xb"))) 16
          ∷ reads (line.Call B (call.Write (codes "d" ∷ codes "b" ∷ []) 0 (codes "bz"))) 16 ∷ reads (line.Cut A) 5
          ∷ reads (line.Call A (call.Remove (codes "a" ∷ []))) 10 ∷ reads (line.Uncut A) 7 ∷ [];
      fates = [];
      max_objects = 1024;
      shown =
          Waits 1 B (call.Mkdir (codes "d" ∷ [])) ∷ Answered 1 B (call.Mkdir (codes "d" ∷ [])) (answer.Reply reply.Ok) (Some 1)
          ∷ Waits 2 A (call.Create (codes "a" ∷ [])) ∷ Durable B (1 ∷ [])
          ∷ Answered 2 A (call.Create (codes "a" ∷ [])) (answer.Reply reply.Ok) (Some 1)
          ∷ Answered 3 A (call.Write (codes "a" ∷ []) 0 (codes "abcdefgh")) (answer.Reply reply.Ok) (Some 2) ∷ Waits 4 A call.Sync
          ∷ Durable A (1 ∷ 2 ∷ []) ∷ Answered 4 A call.Sync (answer.Reply reply.Ok) None ∷ Answered 5 B call.Sync (answer.Reply reply.Ok) None
          ∷ Waits 7 B (call.Read (codes "a" ∷ []) 0 9)
          ∷ Answered 7 B (call.Read (codes "a" ∷ []) 0 9) (answer.Reply (reply.Data (codes "abcdefgh"))) None ∷ Nothing
          ∷ Answered 9 B (call.Fsync (codes "a" ∷ [])) (answer.Reply reply.Ok) None ∷ Nothing
          ∷ Waits 13 A (call.Write (codes "a" ∷ []) 0 (codes "ca")) ∷ Answered 15 B (call.Fsync (codes "a" ∷ [])) (answer.Reply reply.Ok) None
          ∷ Answered 16 A (call.Read (codes "a" ∷ []) 0 64) (answer.Reply (reply.Data (codes "abcdefgh"))) None
          ∷ Waits 17 A (call.Write (codes "a" ∷ []) 3 (codes "axcxb")) ∷ Waits 18 B (call.Write (codes "a" ∷ []) 5 (codes "y"))
          ∷ Waits 19 B (call.Write (codes "a" ∷ []) 3 (codes "zb")) ∷ Waits 20 B (call.Write (codes "a" ∷ []) 2 (codes "x")) ∷ Nothing
          ∷ Answered 29 A (call.Fsync (codes "a" ∷ [])) (answer.Reply reply.Ok) None ∷ Nothing
          ∷ Waits 38 A (call.Write (codes "a" ∷ []) 1 (codes "cy")) ∷ Waits 39 A (call.Write (codes "a" ∷ []) 3 (codes "ba"))
          ∷ Waits 40 A (call.Write (codes "a" ∷ []) 2 (codes "xa")) ∷ Nothing ∷ Waits 42 B (call.Write (codes "a" ∷ []) 0 (codes "za"))
          ∷ Waits 43 B (call.Write (codes "a" ∷ []) 1 (codes "c")) ∷ Waits 44 B (call.Write (codes "a" ∷ []) 3 (codes "c"))
          ∷ Answered 47 B call.Sync (answer.Reply reply.Ok) None ∷ Answered 49 A (call.Fsync (codes "a" ∷ [])) (answer.Reply reply.Ok) None
          ∷ Answered 51 A (call.Stat []) (answer.Reply (reply.Stat kind.Dir 493 0 0 2)) None ∷ Nothing ∷ Waits 53 A (call.Touch (codes "a" ∷ []) 3)
          ∷ Nothing ∷ Answered 57 B (call.Write (codes "d" ∷ codes "b" ∷ []) 2 (codes "xb")) (answer.Reply (reply.Refused (no.NotFound 2))) None
          ∷ Answered 58 B (call.Write (codes "d" ∷ codes "b" ∷ []) 0 (codes "bz")) (answer.Reply (reply.Refused (no.NotFound 2))) None
          ∷ Waits 60 A (call.Remove (codes "a" ∷ [])) ∷ [];
      status = 0;
    }

abbrev pub net_20 : Run
net_20 =
    record {
      lines =
          reads (line.Call B (call.Remove (codes "d" ∷ codes "a" ∷ []))) 10 ∷ reads (line.Call C (call.Create (codes "a" ∷ []))) 10
          ∷ reads (line.Call B (call.Touch (codes "a" ∷ []) 4)) 12 ∷ reads (line.Call C (call.Forder ([] ∷ (codes "a" ∷ []) ∷ []))) 12
          ∷ reads (line.Repeat C msg.Want 2) 15 ∷ reads (line.Call B (call.Write (codes "a" ∷ []) 2 (codes "c"))) 14
          ∷ reads (line.Call A (call.Remove (codes "a" ∷ []))) 10 ∷ reads (line.Call B (call.Write (codes "d" ∷ codes "a" ∷ []) 1 (codes "a"))) 16
          ∷ reads (line.Call A (call.Remove (codes "d" ∷ codes "e" ∷ codes "a" ∷ []))) 10
          ∷ reads (line.Call C (call.Write (codes "e" ∷ codes "a" ∷ []) 2 (codes "y"))) 16 ∷ reads (line.Push B 2) 8
          ∷ reads (line.Call B (call.Write (codes "b" ∷ []) 0 (codes "xbz"))) 14
          ∷ reads (line.Call A (call.Write (codes "d" ∷ codes "e" ∷ codes "a" ∷ []) 4 (codes "a"))) 18
          ∷ reads (line.Call A (call.Write (codes "d" ∷ codes "e" ∷ codes "a" ∷ []) 3 (codes "x"))) 18
          ∷ reads (line.Call A (call.Read (codes "a" ∷ []) 0 2)) 13 ∷ reads (line.Call A (call.Create (codes "b" ∷ []))) 10
          ∷ reads (line.Call A (call.Forder ((codes "d" ∷ codes "e" ∷ codes "a" ∷ []) ∷ []))) 10
          ∷ reads (line.Call B (call.Write (codes "b" ∷ []) 3 (codes "zx"))) 14 ∷ reads (line.Call C (call.Read (codes "b" ∷ []) 0 0)) 13
          ∷ reads (line.Call B (call.Mkdir (codes "d" ∷ []))) 9 ∷ reads (line.Call B (call.SetLen (codes "b" ∷ []) 1)) 13
          ∷ reads (line.Call A (call.Create (codes "a" ∷ []))) 10 ∷ reads (line.Call C (call.Fsync (codes "a" ∷ []))) 9
          ∷ reads (line.Call C (call.Write (codes "a" ∷ []) 0 (codes "yzxbz"))) 14 ∷ reads (line.Call B (call.Read [] 0 1)) 12
          ∷ reads (line.Call C (call.Create (codes "d" ∷ codes "b" ∷ []))) 10
          ∷ reads (line.Call B (call.Write (codes "d" ∷ codes "b" ∷ []) 4 (codes "yz"))) 16
          ∷ reads (line.Call A (call.Create (codes "d" ∷ codes "a" ∷ []))) 10 ∷ reads (line.Push C 3) 8
          ∷ reads (line.Call C (call.Read (codes "d" ∷ codes "a" ∷ []) 0 9)) 15 ∷ reads (line.Call A (call.Create (codes "a" ∷ []))) 10
          ∷ reads (line.Call B (call.Remove (codes "a" ∷ []))) 10 ∷ reads (line.Push B 7) 8 ∷ reads (line.Call C (call.Create (codes "a" ∷ []))) 10
          ∷ reads (line.Push B 6) 8 ∷ reads (line.Call C (call.Read (codes "a" ∷ []) 0 64)) 13
          ∷ reads (line.Call A (call.Forder ([] ∷ (codes "d" ∷ []) ∷ []))) 12 ∷ reads (line.Call B (call.Forder ((codes "a" ∷ []) ∷ []))) 10
          ∷ reads (line.Call B (call.Create (codes "b" ∷ []))) 10 ∷ reads (line.Call B (call.Write (codes "d" ∷ codes "b" ∷ []) 0 (codes "a"))) 16
          ∷ reads (line.Call B (call.Forder ((codes "b" ∷ []) ∷ []))) 10
          ∷ reads (line.Call C (call.Write (codes "d" ∷ codes "b" ∷ []) 6 (codes "xybac"))) 16
          ∷ reads (line.Call A (call.Mkdir (codes "d" ∷ codes "e" ∷ []))) 9
          ∷ reads (line.Call C (call.Write (codes "d" ∷ codes "a" ∷ []) 0 (codes "ac"))) 16 ∷ reads (line.Call B (call.Stat (codes "a" ∷ []))) 8
          ∷ reads (line.Call B (call.Write (codes "a" ∷ []) 0 (codes "z"))) 14 ∷ reads (line.Call B (call.Stat [])) 8
          ∷ reads (line.Call B (call.Touch (codes "d" ∷ codes "e" ∷ []) 2)) 14 ∷ reads (line.Call A (call.Write (codes "b" ∷ []) 4 (codes "c"))) 14
          ∷ reads (line.Call C (call.Fsync [])) 9 ∷ reads (line.Call B (call.Chown [] 4)) 11
          ∷ reads (line.Call C (call.Write (codes "d" ∷ codes "b" ∷ []) 6 (codes "c"))) 16
          ∷ reads (line.Call B (call.Stat (codes "d" ∷ codes "e" ∷ []))) 8 ∷ reads (line.Call A (call.Stat [])) 8
          ∷ reads (line.Call C (call.Rmdir (codes "d" ∷ codes "e" ∷ []))) 9 ∷ reads (line.Call B (call.Touch (codes "b" ∷ []) 1)) 12
          ∷ reads (line.Call B (call.Forder ((codes "d" ∷ codes "b" ∷ []) ∷ (codes "b" ∷ []) ∷ (codes "d" ∷ codes "b" ∷ []) ∷ []))) 18
          ∷ reads (line.Call A (call.Mkdir (codes "d" ∷ codes "e" ∷ []))) 9
          ∷ reads (line.Call B (call.Create (codes "d" ∷ codes "e" ∷ codes "a" ∷ []))) 10
          ∷ reads (line.Call B (call.Touch (codes "d" ∷ codes "e" ∷ []) 2)) 14 ∷ reads (line.Resend A) 8 ∷ reads (line.Resend B) 8
          ∷ reads (line.Resend C) 8 ∷ reads (line.Resend A) 8 ∷ reads (line.Resend B) 8 ∷ reads (line.Resend C) 8
          ∷ reads (line.Call A (call.List [])) 8 ∷ reads (line.Call B (call.List [])) 8 ∷ reads (line.Call C (call.List [])) 8
          ∷ reads (line.Call C (call.Read (codes "a" ∷ []) 0 64)) 13 ∷ reads (line.Call C (call.Read (codes "b" ∷ []) 0 64)) 13
          ∷ reads (line.Call A (call.Read (codes "d" ∷ codes "a" ∷ []) 0 64)) 15 ∷ reads (line.Call A call.Sync) 3 ∷ reads (line.Call B call.Sync) 3
          ∷ reads (line.Call C call.Sync) 3 ∷ [];
      fates = [];
      max_objects = 1024;
      shown =
          Waits 1 B (call.Remove (codes "d" ∷ codes "a" ∷ []))
          ∷ Answered 1 B (call.Remove (codes "d" ∷ codes "a" ∷ [])) (answer.Reply (reply.Refused (no.NotFound 1))) None
          ∷ Waits 2 C (call.Create (codes "a" ∷ [])) ∷ Answered 2 C (call.Create (codes "a" ∷ [])) (answer.Reply reply.Ok) (Some 1)
          ∷ Waits 3 B (call.Touch (codes "a" ∷ []) 4) ∷ Durable C (1 ∷ [])
          ∷ Answered 3 B (call.Touch (codes "a" ∷ []) 4) (answer.Reply reply.Ok) (Some 1) ∷ Waits 4 C (call.Forder ([] ∷ (codes "a" ∷ []) ∷ []))
          ∷ Durable B (1 ∷ []) ∷ Answered 4 C (call.Forder ([] ∷ (codes "a" ∷ []) ∷ [])) (answer.Reply reply.Ok) (Some 2)
          ∷ Waits 6 B (call.Write (codes "a" ∷ []) 2 (codes "c")) ∷ Durable C (2 ∷ [])
          ∷ Answered 6 B (call.Write (codes "a" ∷ []) 2 (codes "c")) (answer.Reply reply.Ok) (Some 2) ∷ Waits 7 A (call.Remove (codes "a" ∷ []))
          ∷ Durable B (2 ∷ []) ∷ Answered 7 A (call.Remove (codes "a" ∷ [])) (answer.Reply reply.Ok) (Some 1)
          ∷ Waits 8 B (call.Write (codes "d" ∷ codes "a" ∷ []) 1 (codes "a")) ∷ Durable A (1 ∷ [])
          ∷ Answered 8 B (call.Write (codes "d" ∷ codes "a" ∷ []) 1 (codes "a")) (answer.Reply (reply.Refused (no.NotFound 1))) None
          ∷ Answered 9 A (call.Remove (codes "d" ∷ codes "e" ∷ codes "a" ∷ [])) (answer.Reply (reply.Refused (no.NotFound 1))) None
          ∷ Waits 10 C (call.Write (codes "e" ∷ codes "a" ∷ []) 2 (codes "y"))
          ∷ Answered 10 C (call.Write (codes "e" ∷ codes "a" ∷ []) 2 (codes "y")) (answer.Reply (reply.Refused (no.NotFound 1))) None ∷ Nothing
          ∷ Answered 12 B (call.Write (codes "b" ∷ []) 0 (codes "xbz")) (answer.Reply (reply.Refused (no.NotFound 1))) None
          ∷ Answered 13 A (call.Write (codes "d" ∷ codes "e" ∷ codes "a" ∷ []) 4 (codes "a")) (answer.Reply (reply.Refused (no.NotFound 1))) None
          ∷ Answered 14 A (call.Write (codes "d" ∷ codes "e" ∷ codes "a" ∷ []) 3 (codes "x")) (answer.Reply (reply.Refused (no.NotFound 1))) None
          ∷ Answered 15 A (call.Read (codes "a" ∷ []) 0 2) (answer.Reply (reply.Refused (no.NotFound 1))) None
          ∷ Waits 16 A (call.Create (codes "b" ∷ [])) ∷ Answered 16 A (call.Create (codes "b" ∷ [])) (answer.Reply reply.Ok) (Some 2)
          ∷ Answered 17 A (call.Forder ((codes "d" ∷ codes "e" ∷ codes "a" ∷ []) ∷ [])) (answer.Reply (reply.Refused (no.NotFound 1))) None
          ∷ Waits 18 B (call.Write (codes "b" ∷ []) 3 (codes "zx")) ∷ Durable A (2 ∷ [])
          ∷ Answered 18 B (call.Write (codes "b" ∷ []) 3 (codes "zx")) (answer.Reply reply.Ok) (Some 3) ∷ Waits 19 C (call.Read (codes "b" ∷ []) 0 0)
          ∷ Durable B (3 ∷ []) ∷ Answered 19 C (call.Read (codes "b" ∷ []) 0 0) (answer.Reply (reply.Data [])) None
          ∷ Waits 20 B (call.Mkdir (codes "d" ∷ [])) ∷ Answered 20 B (call.Mkdir (codes "d" ∷ [])) (answer.Reply reply.Ok) (Some 4)
          ∷ Waits 21 B (call.SetLen (codes "b" ∷ []) 1) ∷ Answered 21 B (call.SetLen (codes "b" ∷ []) 1) (answer.Reply reply.Ok) (Some 5)
          ∷ Waits 22 A (call.Create (codes "a" ∷ [])) ∷ Durable B (4 ∷ [])
          ∷ Answered 22 A (call.Create (codes "a" ∷ [])) (answer.Reply reply.Ok) (Some 3) ∷ Waits 23 C (call.Fsync (codes "a" ∷ []))
          ∷ Durable A (3 ∷ []) ∷ Answered 23 C (call.Fsync (codes "a" ∷ [])) (answer.Reply reply.Ok) None
          ∷ Waits 24 C (call.Write (codes "a" ∷ []) 0 (codes "yzxbz"))
          ∷ Answered 24 C (call.Write (codes "a" ∷ []) 0 (codes "yzxbz")) (answer.Reply reply.Ok) (Some 3) ∷ Waits 25 B (call.Read [] 0 1)
          ∷ Answered 25 B (call.Read [] 0 1) (answer.Reply (reply.Refused no.IsDir)) None ∷ Waits 26 C (call.Create (codes "d" ∷ codes "b" ∷ []))
          ∷ Answered 26 C (call.Create (codes "d" ∷ codes "b" ∷ [])) (answer.Reply reply.Ok) (Some 4)
          ∷ Waits 27 B (call.Write (codes "d" ∷ codes "b" ∷ []) 4 (codes "yz")) ∷ Durable C (4 ∷ [])
          ∷ Answered 27 B (call.Write (codes "d" ∷ codes "b" ∷ []) 4 (codes "yz")) (answer.Reply reply.Ok) (Some 6)
          ∷ Waits 28 A (call.Create (codes "d" ∷ codes "a" ∷ []))
          ∷ Answered 28 A (call.Create (codes "d" ∷ codes "a" ∷ [])) (answer.Reply reply.Ok) (Some 4) ∷ Durable C (3 ∷ [])
          ∷ Waits 30 C (call.Read (codes "d" ∷ codes "a" ∷ []) 0 9) ∷ Durable A (4 ∷ [])
          ∷ Answered 30 C (call.Read (codes "d" ∷ codes "a" ∷ []) 0 9) (answer.Reply (reply.Data [])) None
          ∷ Answered 31 A (call.Create (codes "a" ∷ [])) (answer.Reply (reply.Refused no.Exists)) None ∷ Waits 32 B (call.Remove (codes "a" ∷ []))
          ∷ Answered 32 B (call.Remove (codes "a" ∷ [])) (answer.Reply reply.Ok) (Some 7) ∷ Durable B (7 ∷ [])
          ∷ Waits 34 C (call.Create (codes "a" ∷ [])) ∷ Answered 34 C (call.Create (codes "a" ∷ [])) (answer.Reply reply.Ok) (Some 5)
          ∷ Durable B (6 ∷ []) ∷ Answered 36 C (call.Read (codes "a" ∷ []) 0 64) (answer.Reply (reply.Data [])) None
          ∷ Waits 37 A (call.Forder ([] ∷ (codes "d" ∷ []) ∷ [])) ∷ Durable C (5 ∷ [])
          ∷ Answered 37 A (call.Forder ([] ∷ (codes "d" ∷ []) ∷ [])) (answer.Reply reply.Ok) (Some 5)
          ∷ Waits 38 B (call.Forder ((codes "a" ∷ []) ∷ [])) ∷ Durable A (5 ∷ [])
          ∷ Answered 38 B (call.Forder ((codes "a" ∷ []) ∷ [])) (answer.Reply reply.Ok) (Some 8)
          ∷ Answered 39 B (call.Create (codes "b" ∷ [])) (answer.Reply (reply.Refused no.Exists)) None
          ∷ Waits 40 B (call.Write (codes "d" ∷ codes "b" ∷ []) 0 (codes "a"))
          ∷ Answered 40 B (call.Write (codes "d" ∷ codes "b" ∷ []) 0 (codes "a")) (answer.Reply reply.Ok) (Some 9)
          ∷ Answered 41 B (call.Forder ((codes "b" ∷ []) ∷ [])) (answer.Reply reply.Ok) (Some 10)
          ∷ Waits 42 C (call.Write (codes "d" ∷ codes "b" ∷ []) 6 (codes "xybac")) ∷ Durable B (9 ∷ [])
          ∷ Answered 42 C (call.Write (codes "d" ∷ codes "b" ∷ []) 6 (codes "xybac")) (answer.Reply reply.Ok) (Some 6)
          ∷ Waits 43 A (call.Mkdir (codes "d" ∷ codes "e" ∷ []))
          ∷ Answered 43 A (call.Mkdir (codes "d" ∷ codes "e" ∷ [])) (answer.Reply reply.Ok) (Some 6)
          ∷ Waits 44 C (call.Write (codes "d" ∷ codes "a" ∷ []) 0 (codes "ac")) ∷ Durable A (6 ∷ [])
          ∷ Answered 44 C (call.Write (codes "d" ∷ codes "a" ∷ []) 0 (codes "ac")) (answer.Reply reply.Ok) (Some 7)
          ∷ Answered 45 B (call.Stat (codes "a" ∷ [])) (answer.Reply (reply.Stat kind.File 420 0 0 0)) None
          ∷ Answered 46 B (call.Write (codes "a" ∷ []) 0 (codes "z")) (answer.Reply reply.Ok) (Some 11)
          ∷ Answered 47 B (call.Stat []) (answer.Reply (reply.Stat kind.Dir 493 0 0 3)) None ∷ Waits 48 B (call.Touch (codes "d" ∷ codes "e" ∷ []) 2)
          ∷ Answered 48 B (call.Touch (codes "d" ∷ codes "e" ∷ []) 2) (answer.Reply reply.Ok) (Some 12)
          ∷ Waits 49 A (call.Write (codes "b" ∷ []) 4 (codes "c")) ∷ Durable B (5 ∷ 10 ∷ [])
          ∷ Answered 49 A (call.Write (codes "b" ∷ []) 4 (codes "c")) (answer.Reply reply.Ok) (Some 7)
          ∷ Answered 50 C (call.Fsync []) (answer.Reply reply.Ok) None ∷ Waits 51 B (call.Chown [] 4)
          ∷ Answered 51 B (call.Chown [] 4) (answer.Reply reply.Ok) (Some 13) ∷ Waits 52 C (call.Write (codes "d" ∷ codes "b" ∷ []) 6 (codes "c"))
          ∷ Durable B (13 ∷ []) ∷ Answered 52 C (call.Write (codes "d" ∷ codes "b" ∷ []) 6 (codes "c")) (answer.Reply reply.Ok) (Some 8)
          ∷ Answered 53 B (call.Stat (codes "d" ∷ codes "e" ∷ [])) (answer.Reply (reply.Stat kind.Dir 493 2 0 0)) None ∷ Waits 54 A (call.Stat [])
          ∷ Answered 54 A (call.Stat []) (answer.Reply (reply.Stat kind.Dir 493 0 4 3)) None ∷ Waits 55 C (call.Rmdir (codes "d" ∷ codes "e" ∷ []))
          ∷ Durable B (12 ∷ []) ∷ Answered 55 C (call.Rmdir (codes "d" ∷ codes "e" ∷ [])) (answer.Reply reply.Ok) (Some 9)
          ∷ Waits 56 B (call.Touch (codes "b" ∷ []) 1) ∷ Durable A (7 ∷ [])
          ∷ Answered 56 B (call.Touch (codes "b" ∷ []) 1) (answer.Reply reply.Ok) (Some 14)
          ∷ Waits 57 B (call.Forder ((codes "d" ∷ codes "b" ∷ []) ∷ (codes "b" ∷ []) ∷ (codes "d" ∷ codes "b" ∷ []) ∷ [])) ∷ Durable C (9 ∷ [])
          ∷ Durable C (6 ∷ 8 ∷ [])
          ∷ Answered 57 B (call.Forder ((codes "d" ∷ codes "b" ∷ []) ∷ (codes "b" ∷ []) ∷ (codes "d" ∷ codes "b" ∷ []) ∷ [])) (answer.Reply reply.Ok) (Some 15)
          ∷ Waits 58 A (call.Mkdir (codes "d" ∷ codes "e" ∷ []))
          ∷ Answered 58 A (call.Mkdir (codes "d" ∷ codes "e" ∷ [])) (answer.Reply reply.Ok) (Some 8)
          ∷ Waits 59 B (call.Create (codes "d" ∷ codes "e" ∷ codes "a" ∷ [])) ∷ Durable A (8 ∷ [])
          ∷ Answered 59 B (call.Create (codes "d" ∷ codes "e" ∷ codes "a" ∷ [])) (answer.Reply reply.Ok) (Some 16)
          ∷ Answered 60 B (call.Touch (codes "d" ∷ codes "e" ∷ []) 2) (answer.Reply reply.Ok) (Some 17)
          ∷ Answered 67 A (call.List []) (answer.Reply (reply.Names (codes "a" ∷ codes "b" ∷ codes "d" ∷ []))) None
          ∷ Answered 68 B (call.List []) (answer.Reply (reply.Names (codes "a" ∷ codes "b" ∷ codes "d" ∷ []))) None
          ∷ Answered 69 C (call.List []) (answer.Reply (reply.Names (codes "a" ∷ codes "b" ∷ codes "d" ∷ []))) None
          ∷ Waits 70 C (call.Read (codes "a" ∷ []) 0 64) ∷ Durable B (8 ∷ 11 ∷ [])
          ∷ Answered 70 C (call.Read (codes "a" ∷ []) 0 64) (answer.Reply (reply.Data (codes "z"))) None
          ∷ Waits 71 C (call.Read (codes "b" ∷ []) 0 64) ∷ Durable B (14 ∷ 15 ∷ [])
          ∷ Answered 71 C (call.Read (codes "b" ∷ []) 0 64) (answer.Reply (reply.Data (0 ∷ 0 ∷ 0 ∷ 0 ∷ 99 ∷ []))) None
          ∷ Waits 72 A (call.Read (codes "d" ∷ codes "a" ∷ []) 0 64) ∷ Durable C (7 ∷ [])
          ∷ Answered 72 A (call.Read (codes "d" ∷ codes "a" ∷ []) 0 64) (answer.Reply (reply.Data (codes "ac"))) None
          ∷ Answered 73 A call.Sync (answer.Reply reply.Ok) None ∷ Waits 74 B call.Sync ∷ Durable B (16 ∷ 17 ∷ [])
          ∷ Answered 74 B call.Sync (answer.Reply reply.Ok) None ∷ Answered 75 C call.Sync (answer.Reply reply.Ok) None ∷ [];
      status = 0;
    }

abbrev pub net_21 : Run
net_21 =
    record {
      lines =
          reads (line.Call B (call.Mkdir (codes "d" ∷ []))) 9 ∷ reads (line.Call A (call.Create (codes "a" ∷ []))) 10
          ∷ reads (line.Call A (call.Write (codes "a" ∷ []) 0 (codes "abcdefgh"))) 14 ∷ reads (line.Call A call.Sync) 3
          ∷ reads (line.Call B call.Sync) 3 ∷ reads (line.Call B (call.Write (codes "a" ∷ []) 4 (codes "x"))) 14
          ∷ reads (line.Call B (call.Write (codes "a" ∷ []) 4 (codes "a"))) 14 ∷ reads (line.Push B 2) 8
          ∷ reads (line.Call B (call.Create (codes "b" ∷ []))) 10 ∷ reads (line.Call B (call.Rename (codes "a" ∷ []) (codes "d" ∷ codes "a" ∷ []))) 13
          ∷ reads (line.Call A (call.Stat (codes "d" ∷ codes "a" ∷ []))) 8 ∷ reads (line.Call A (call.Stat (codes "d" ∷ []))) 8
          ∷ reads (line.Call A (call.Rename (codes "d" ∷ codes "a" ∷ []) (codes "d" ∷ codes "b" ∷ []))) 15
          ∷ reads (line.Call B (call.Rename (codes "b" ∷ []) (codes "d" ∷ codes "e" ∷ codes "a" ∷ []))) 13
          ∷ reads (line.Call B (call.Write (codes "b" ∷ []) 1 (codes "c"))) 14 ∷ reads (line.Call B (call.Write (codes "b" ∷ []) 1 (codes "b"))) 14
          ∷ reads (line.Push B 6) 8 ∷ reads (line.Call B (call.Mkdir (codes "e" ∷ []))) 9 ∷ reads (line.Call A call.Sync) 3
          ∷ reads (line.Call A (call.SetLen (codes "d" ∷ codes "b" ∷ []) 4)) 15 ∷ reads (line.Call A (call.Create (codes "d" ∷ codes "a" ∷ []))) 10
          ∷ reads (line.Call B (call.Write (codes "d" ∷ codes "a" ∷ []) 0 (codes "ca"))) 16
          ∷ reads (line.Call B (call.Write (codes "d" ∷ codes "a" ∷ []) 0 (codes "b"))) 16 ∷ reads (line.Call B (call.Create (codes "a" ∷ []))) 10
          ∷ reads (line.Cut B) 5 ∷ reads (line.Call B (call.Create (codes "e" ∷ codes "a" ∷ []))) 10
          ∷ reads (line.Call B (call.Mkdir (codes "d" ∷ codes "k" ∷ []))) 9
          ∷ reads (line.Call A (call.Write (codes "d" ∷ codes "b" ∷ []) 1 (codes "by"))) 16 ∷ reads (line.Call B (call.List [])) 8
          ∷ reads (line.Push B 9) 8 ∷ reads (line.Call A (call.Write (codes "d" ∷ codes "a" ∷ []) 0 (codes "zz"))) 16
          ∷ reads (line.Call B (call.Write (codes "a" ∷ []) 3 (codes "ya"))) 14 ∷ reads (line.Call B (call.Write (codes "a" ∷ []) 2 (codes "b"))) 14
          ∷ reads (line.Call B (call.Stat (codes "d" ∷ codes "a" ∷ []))) 8 ∷ reads (line.Deliver B msg.Flush 6) 17
          ∷ reads (line.Call B (call.Write (codes "d" ∷ codes "b" ∷ []) 4 (codes "cy"))) 16
          ∷ reads (line.Call B (call.Write (codes "d" ∷ codes "b" ∷ []) 4 (codes "x"))) 16 ∷ reads (line.Call B (call.Fsync [])) 9
          ∷ reads (line.Call A (call.Mkdir (codes "d" ∷ codes "k" ∷ []))) 9
          ∷ reads (line.Call B (call.Write (codes "d" ∷ codes "a" ∷ []) 1 (codes "b"))) 16
          ∷ reads (line.Call B (call.Write (codes "d" ∷ codes "a" ∷ []) 0 (codes "zy"))) 16
          ∷ reads (line.Call B (call.Write (codes "d" ∷ codes "a" ∷ []) 1 (codes "yc"))) 16
          ∷ reads (line.Call B (call.Write (codes "d" ∷ codes "b" ∷ []) 4 (codes "x"))) 16
          ∷ reads (line.Call A (call.Mkdir (codes "d" ∷ codes "e" ∷ []))) 9 ∷ reads (line.Resend B) 8
          ∷ reads (line.Call A (call.Read (codes "d" ∷ codes "b" ∷ []) 0 0)) 15 ∷ reads (line.Call A (call.Stat [])) 8
          ∷ reads (line.Call B (call.Rename (codes "a" ∷ []) (codes "a2" ∷ []))) 13 ∷ reads (line.Call B (call.Mkdir (codes "d" ∷ codes "e" ∷ []))) 9
          ∷ reads (line.Call A (call.List [])) 8 ∷ reads (line.Call A (call.Write (codes "a2" ∷ []) 2 (codes "c"))) 15
          ∷ reads (line.Call B (call.Write (codes "e" ∷ codes "a" ∷ []) 0 (codes "ccy"))) 16 ∷ reads (line.Call A (call.Remove [])) 10
          ∷ reads (line.Uncut B) 7 ∷ reads (line.Call B (call.Write (codes "a2" ∷ []) 5 (codes "x"))) 15
          ∷ reads (line.Call B (call.Write (codes "a2" ∷ []) 4 (codes "cx"))) 15 ∷ reads (line.Push B 26) 8
          ∷ reads (line.Call A (call.Mkdir (codes "d" ∷ codes "k" ∷ []))) 9
          ∷ reads (line.Call B (call.Write (codes "d" ∷ codes "b" ∷ []) 0 (codes "ay"))) 16
          ∷ reads (line.Call B (call.Write (codes "d" ∷ codes "b" ∷ []) 4 (codes "xx"))) 16 ∷ reads (line.Push B 28) 8 ∷ reads (line.Resend A) 8
          ∷ reads (line.Resend B) 8 ∷ reads (line.Resend A) 8 ∷ reads (line.Resend B) 8 ∷ reads (line.Call A (call.List [])) 8
          ∷ reads (line.Call B (call.List [])) 8 ∷ reads (line.Call B (call.Read (codes "a" ∷ []) 0 64)) 13
          ∷ reads (line.Call A (call.Read (codes "b" ∷ []) 0 64)) 13 ∷ reads (line.Call A (call.Read (codes "d" ∷ codes "a" ∷ []) 0 64)) 15
          ∷ reads (line.Call A call.Sync) 3 ∷ reads (line.Call B call.Sync) 3 ∷ [];
      fates = [];
      max_objects = 1024;
      shown =
          Waits 1 B (call.Mkdir (codes "d" ∷ [])) ∷ Answered 1 B (call.Mkdir (codes "d" ∷ [])) (answer.Reply reply.Ok) (Some 1)
          ∷ Waits 2 A (call.Create (codes "a" ∷ [])) ∷ Durable B (1 ∷ [])
          ∷ Answered 2 A (call.Create (codes "a" ∷ [])) (answer.Reply reply.Ok) (Some 1)
          ∷ Answered 3 A (call.Write (codes "a" ∷ []) 0 (codes "abcdefgh")) (answer.Reply reply.Ok) (Some 2) ∷ Waits 4 A call.Sync
          ∷ Durable A (1 ∷ 2 ∷ []) ∷ Answered 4 A call.Sync (answer.Reply reply.Ok) None ∷ Answered 5 B call.Sync (answer.Reply reply.Ok) None
          ∷ Waits 6 B (call.Write (codes "a" ∷ []) 4 (codes "x"))
          ∷ Answered 6 B (call.Write (codes "a" ∷ []) 4 (codes "x")) (answer.Reply reply.Ok) (Some 2)
          ∷ Answered 7 B (call.Write (codes "a" ∷ []) 4 (codes "a")) (answer.Reply reply.Ok) (Some 3) ∷ Durable B (2 ∷ [])
          ∷ Waits 9 B (call.Create (codes "b" ∷ [])) ∷ Answered 9 B (call.Create (codes "b" ∷ [])) (answer.Reply reply.Ok) (Some 4)
          ∷ Answered 10 B (call.Rename (codes "a" ∷ []) (codes "d" ∷ codes "a" ∷ [])) (answer.Reply reply.Ok) (Some 5)
          ∷ Waits 11 A (call.Stat (codes "d" ∷ codes "a" ∷ [])) ∷ Durable B (3 ∷ 4 ∷ 5 ∷ [])
          ∷ Answered 11 A (call.Stat (codes "d" ∷ codes "a" ∷ [])) (answer.Reply (reply.Stat kind.File 420 0 0 8)) None
          ∷ Answered 12 A (call.Stat (codes "d" ∷ [])) (answer.Reply (reply.Stat kind.Dir 493 0 0 1)) None
          ∷ Waits 13 A (call.Rename (codes "d" ∷ codes "a" ∷ []) (codes "d" ∷ codes "b" ∷ []))
          ∷ Answered 13 A (call.Rename (codes "d" ∷ codes "a" ∷ []) (codes "d" ∷ codes "b" ∷ [])) (answer.Reply reply.Ok) (Some 3)
          ∷ Waits 14 B (call.Rename (codes "b" ∷ []) (codes "d" ∷ codes "e" ∷ codes "a" ∷ [])) ∷ Durable A (3 ∷ [])
          ∷ Answered 14 B (call.Rename (codes "b" ∷ []) (codes "d" ∷ codes "e" ∷ codes "a" ∷ [])) (answer.Reply (reply.Refused (no.NotFound 2))) None
          ∷ Answered 15 B (call.Write (codes "b" ∷ []) 1 (codes "c")) (answer.Reply reply.Ok) (Some 6)
          ∷ Answered 16 B (call.Write (codes "b" ∷ []) 1 (codes "b")) (answer.Reply reply.Ok) (Some 7) ∷ Durable B (6 ∷ [])
          ∷ Waits 18 B (call.Mkdir (codes "e" ∷ [])) ∷ Answered 18 B (call.Mkdir (codes "e" ∷ [])) (answer.Reply reply.Ok) (Some 8)
          ∷ Answered 19 A call.Sync (answer.Reply reply.Ok) None ∷ Waits 20 A (call.SetLen (codes "d" ∷ codes "b" ∷ []) 4) ∷ Durable B (8 ∷ [])
          ∷ Answered 20 A (call.SetLen (codes "d" ∷ codes "b" ∷ []) 4) (answer.Reply reply.Ok) (Some 4)
          ∷ Waits 21 A (call.Create (codes "d" ∷ codes "a" ∷ []))
          ∷ Answered 21 A (call.Create (codes "d" ∷ codes "a" ∷ [])) (answer.Reply reply.Ok) (Some 5)
          ∷ Waits 22 B (call.Write (codes "d" ∷ codes "a" ∷ []) 0 (codes "ca")) ∷ Durable A (5 ∷ [])
          ∷ Answered 22 B (call.Write (codes "d" ∷ codes "a" ∷ []) 0 (codes "ca")) (answer.Reply reply.Ok) (Some 9)
          ∷ Answered 23 B (call.Write (codes "d" ∷ codes "a" ∷ []) 0 (codes "b")) (answer.Reply reply.Ok) (Some 10)
          ∷ Waits 24 B (call.Create (codes "a" ∷ [])) ∷ Answered 24 B (call.Create (codes "a" ∷ [])) (answer.Reply reply.Ok) (Some 11)
          ∷ Answered 26 B (call.Create (codes "e" ∷ codes "a" ∷ [])) (answer.Reply reply.Ok) (Some 12)
          ∷ Waits 27 B (call.Mkdir (codes "d" ∷ codes "k" ∷ [])) ∷ Waits 28 A (call.Write (codes "d" ∷ codes "b" ∷ []) 1 (codes "by"))
          ∷ Answered 29 B (call.List []) (answer.Reply (reply.Names (codes "a" ∷ codes "b" ∷ codes "d" ∷ codes "e" ∷ []))) None
          ∷ Waits 31 A (call.Write (codes "d" ∷ codes "a" ∷ []) 0 (codes "zz"))
          ∷ Answered 32 B (call.Write (codes "a" ∷ []) 3 (codes "ya")) (answer.Reply reply.Ok) (Some 13)
          ∷ Answered 33 B (call.Write (codes "a" ∷ []) 2 (codes "b")) (answer.Reply reply.Ok) (Some 14)
          ∷ Answered 34 B (call.Stat (codes "d" ∷ codes "a" ∷ [])) (answer.Reply (reply.Stat kind.File 420 0 0 2)) None ∷ Durable B (9 ∷ [])
          ∷ Waits 36 B (call.Write (codes "d" ∷ codes "b" ∷ []) 4 (codes "cy")) ∷ Waits 37 B (call.Write (codes "d" ∷ codes "b" ∷ []) 4 (codes "x"))
          ∷ Waits 38 B (call.Fsync []) ∷ Waits 39 A (call.Mkdir (codes "d" ∷ codes "k" ∷ []))
          ∷ Answered 40 B (call.Write (codes "d" ∷ codes "a" ∷ []) 1 (codes "b")) (answer.Reply reply.Ok) (Some 15)
          ∷ Answered 41 B (call.Write (codes "d" ∷ codes "a" ∷ []) 0 (codes "zy")) (answer.Reply reply.Ok) (Some 16)
          ∷ Answered 42 B (call.Write (codes "d" ∷ codes "a" ∷ []) 1 (codes "yc")) (answer.Reply reply.Ok) (Some 17)
          ∷ Waits 43 B (call.Write (codes "d" ∷ codes "b" ∷ []) 4 (codes "x")) ∷ Waits 44 A (call.Mkdir (codes "d" ∷ codes "e" ∷ []))
          ∷ Waits 46 A (call.Read (codes "d" ∷ codes "b" ∷ []) 0 0) ∷ Waits 47 A (call.Stat [])
          ∷ Answered 48 B (call.Rename (codes "a" ∷ []) (codes "a2" ∷ [])) (answer.Reply reply.Ok) (Some 18)
          ∷ Waits 49 B (call.Mkdir (codes "d" ∷ codes "e" ∷ [])) ∷ Waits 50 A (call.List []) ∷ Waits 51 A (call.Write (codes "a2" ∷ []) 2 (codes "c"))
          ∷ Answered 52 B (call.Write (codes "e" ∷ codes "a" ∷ []) 0 (codes "ccy")) (answer.Reply reply.Ok) (Some 19)
          ∷ Answered 53 A (call.Remove []) (answer.Reply (reply.Refused no.Root)) None ∷ Durable B (11 ∷ [])
          ∷ Answered 38 B (call.Fsync []) (answer.Reply reply.Ok) None ∷ Durable A (4 ∷ []) ∷ Durable B (13 ∷ 14 ∷ 18 ∷ [])
          ∷ Answered 27 B (call.Mkdir (codes "d" ∷ codes "k" ∷ [])) (answer.Reply reply.Ok) (Some 20)
          ∷ Answered 49 B (call.Mkdir (codes "d" ∷ codes "e" ∷ [])) (answer.Reply reply.Ok) (Some 21)
          ∷ Answered 47 A (call.Stat []) (answer.Reply (reply.Stat kind.Dir 493 0 0 4)) None
          ∷ Answered 50 A (call.List []) (answer.Reply (reply.Names (codes "a2" ∷ codes "b" ∷ codes "d" ∷ codes "e" ∷ []))) None
          ∷ Durable B (20 ∷ 21 ∷ []) ∷ Answered 36 B (call.Write (codes "d" ∷ codes "b" ∷ []) 4 (codes "cy")) (answer.Reply reply.Ok) (Some 22)
          ∷ Answered 37 B (call.Write (codes "d" ∷ codes "b" ∷ []) 4 (codes "x")) (answer.Reply reply.Ok) (Some 23)
          ∷ Answered 43 B (call.Write (codes "d" ∷ codes "b" ∷ []) 4 (codes "x")) (answer.Reply reply.Ok) (Some 24)
          ∷ Answered 39 A (call.Mkdir (codes "d" ∷ codes "k" ∷ [])) (answer.Reply (reply.Refused no.Exists)) None
          ∷ Answered 44 A (call.Mkdir (codes "d" ∷ codes "e" ∷ [])) (answer.Reply (reply.Refused no.Exists)) None
          ∷ Answered 51 A (call.Write (codes "a2" ∷ []) 2 (codes "c")) (answer.Reply reply.Ok) (Some 6) ∷ Durable B (22 ∷ 23 ∷ 24 ∷ [])
          ∷ Durable B (10 ∷ 15 ∷ 16 ∷ 17 ∷ []) ∷ Answered 46 A (call.Read (codes "d" ∷ codes "b" ∷ []) 0 0) (answer.Reply (reply.Data [])) None
          ∷ Answered 28 A (call.Write (codes "d" ∷ codes "b" ∷ []) 1 (codes "by")) (answer.Reply reply.Ok) (Some 7)
          ∷ Answered 31 A (call.Write (codes "d" ∷ codes "a" ∷ []) 0 (codes "zz")) (answer.Reply reply.Ok) (Some 8)
          ∷ Waits 55 B (call.Write (codes "a2" ∷ []) 5 (codes "x")) ∷ Durable A (6 ∷ [])
          ∷ Answered 55 B (call.Write (codes "a2" ∷ []) 5 (codes "x")) (answer.Reply reply.Ok) (Some 25)
          ∷ Answered 56 B (call.Write (codes "a2" ∷ []) 4 (codes "cx")) (answer.Reply reply.Ok) (Some 26) ∷ Durable B (25 ∷ 26 ∷ [])
          ∷ Answered 58 A (call.Mkdir (codes "d" ∷ codes "k" ∷ [])) (answer.Reply (reply.Refused no.Exists)) None
          ∷ Waits 59 B (call.Write (codes "d" ∷ codes "b" ∷ []) 0 (codes "ay")) ∷ Durable A (7 ∷ [])
          ∷ Answered 59 B (call.Write (codes "d" ∷ codes "b" ∷ []) 0 (codes "ay")) (answer.Reply reply.Ok) (Some 27)
          ∷ Answered 60 B (call.Write (codes "d" ∷ codes "b" ∷ []) 4 (codes "xx")) (answer.Reply reply.Ok) (Some 28) ∷ Durable B (28 ∷ [])
          ∷ Answered 66 A (call.List []) (answer.Reply (reply.Names (codes "a2" ∷ codes "b" ∷ codes "d" ∷ codes "e" ∷ []))) None
          ∷ Answered 67 B (call.List []) (answer.Reply (reply.Names (codes "a2" ∷ codes "b" ∷ codes "d" ∷ codes "e" ∷ []))) None
          ∷ Answered 68 B (call.Read (codes "a" ∷ []) 0 64) (answer.Reply (reply.Refused (no.NotFound 1))) None
          ∷ Waits 69 A (call.Read (codes "b" ∷ []) 0 64) ∷ Durable B (7 ∷ [])
          ∷ Answered 69 A (call.Read (codes "b" ∷ []) 0 64) (answer.Reply (reply.Data (0 ∷ 98 ∷ []))) None
          ∷ Answered 70 A (call.Read (codes "d" ∷ codes "a" ∷ []) 0 64) (answer.Reply (reply.Data (codes "zzc"))) None ∷ Waits 71 A call.Sync
          ∷ Durable A (8 ∷ []) ∷ Answered 71 A call.Sync (answer.Reply reply.Ok) None ∷ Waits 72 B call.Sync ∷ Durable B (12 ∷ 19 ∷ 27 ∷ [])
          ∷ Answered 72 B call.Sync (answer.Reply reply.Ok) None ∷ [];
      status = 0;
    }
