-- Random scripts with no fault.
use Rattle.std.specs.Prelude.{[], ◌∷◌, None, Some, codes}
use Rattle.ec_volume.specs.declared.image.Kind.TheVariants as kind
use Rattle.ec_plain.specs.declared.call.Call.TheVariants as call
use Rattle.ec_plain.specs.declared.call.Reply.TheVariants as reply
use Rattle.ec_plain.specs.declared.call.Refusal.TheVariants as no
use Rattle.ec_history.specs.declared.entry.Answer.TheVariants as answer
use Rattle.ec_history.specs.declared.shown.Shown.TheVariants.{Waits, Answered, Durable, Nothing}
use Rattle.ec_protocol.specs.declared.script.Line.TheVariants as line
use Rattle.ec_protocol.specs.Drill.{reads}
use Rattle.ec_protocol.specs.Runs.{Run, A, B, C, D}

abbrev pub plain_0 : Run
plain_0 =
    record {
      lines =
          reads (line.Call A (call.Mkdir (codes "d" ∷ []))) 9 ∷ reads (line.Call B (call.Create (codes "a" ∷ []))) 10
          ∷ reads (line.Call B (call.Write (codes "a" ∷ []) 0 (codes "abcdefgh"))) 14 ∷ reads (line.Call B (call.Create (codes "b" ∷ []))) 10
          ∷ reads (line.Call B (call.Write (codes "b" ∷ []) 0 (codes "abcdefgh"))) 14
          ∷ reads (line.Call A (call.Create (codes "d" ∷ codes "a" ∷ []))) 10
          ∷ reads (line.Call A (call.Write (codes "d" ∷ codes "a" ∷ []) 0 (codes "abcdefgh"))) 16 ∷ reads (line.Call A call.Sync) 3
          ∷ reads (line.Call B call.Sync) 3 ∷ reads (line.Call B (call.Rename (codes "d" ∷ codes "a" ∷ []) (codes "d" ∷ codes "b" ∷ []))) 15
          ∷ reads (line.Call B (call.Create (codes "d" ∷ codes "a" ∷ []))) 10 ∷ reads (line.Call B (call.Remove (codes "a" ∷ []))) 10
          ∷ reads (line.Call A (call.Rename (codes "d" ∷ codes "a" ∷ []) (codes "d" ∷ codes "e" ∷ codes "a" ∷ []))) 15
          ∷ reads (line.Call B (call.Chmod [] 493)) 11 ∷ reads (line.Call B (call.Create (codes "a" ∷ []))) 10
          ∷ reads (line.Call A (call.Read (codes "b" ∷ []) 0 64)) 13 ∷ reads (line.Call A (call.Touch (codes "d" ∷ codes "b" ∷ []) 5)) 14
          ∷ reads (line.Call B (call.Write (codes "b" ∷ []) 0 (codes "ca"))) 14 ∷ reads (line.Call B (call.List (codes "d" ∷ []))) 8
          ∷ reads (line.Call B (call.Mkdir (codes "e" ∷ []))) 9 ∷ reads (line.Call A (call.Chmod (codes "b" ∷ []) 384)) 12 ∷ reads (line.Push A 5) 8
          ∷ reads (line.Call A (call.Fsync (codes "d" ∷ []))) 9 ∷ reads (line.Call B (call.SetLen (codes "a" ∷ []) 0)) 13
          ∷ reads (line.Call A (call.Read (codes "a" ∷ []) 0 64)) 13
          ∷ reads (line.Call B (call.Rename (codes "d" ∷ codes "a" ∷ []) (codes "d" ∷ codes "a" ∷ []))) 15 ∷ reads (line.Call B (call.Stat [])) 8
          ∷ reads (line.Call A (call.Read (codes "d" ∷ codes "b" ∷ []) 1 0)) 15 ∷ reads (line.Call B (call.Stat (codes "a" ∷ []))) 8
          ∷ reads (line.Call A (call.List (codes "e" ∷ []))) 8 ∷ reads (line.Call B (call.Write (codes "d" ∷ codes "a" ∷ []) 2 (codes "x"))) 16
          ∷ reads (line.Call A (call.Write (codes "b" ∷ []) 4 (codes "x"))) 14 ∷ reads (line.Call B (call.Touch (codes "a" ∷ []) 0)) 12
          ∷ reads (line.Call A (call.Remove (codes "a" ∷ []))) 10 ∷ reads (line.Call A (call.Write (codes "d" ∷ codes "a" ∷ []) 2 (codes "x"))) 16
          ∷ reads (line.Call B (call.Remove (codes "d" ∷ codes "a" ∷ []))) 10 ∷ reads (line.Call A (call.Write (codes "b" ∷ []) 2 (codes "z"))) 14
          ∷ reads (line.Call A (call.Write (codes "b" ∷ []) 3 (codes "a"))) 14 ∷ reads (line.Push A 10) 8
          ∷ reads (line.Call B (call.Read (codes "b" ∷ []) 0 9)) 13 ∷ [];
      fates = [];
      max_objects = 1024;
      shown =
          Waits 1 A (call.Mkdir (codes "d" ∷ [])) ∷ Answered 1 A (call.Mkdir (codes "d" ∷ [])) (answer.Reply reply.Ok) (Some 1)
          ∷ Waits 2 B (call.Create (codes "a" ∷ [])) ∷ Durable A (1 ∷ [])
          ∷ Answered 2 B (call.Create (codes "a" ∷ [])) (answer.Reply reply.Ok) (Some 1)
          ∷ Answered 3 B (call.Write (codes "a" ∷ []) 0 (codes "abcdefgh")) (answer.Reply reply.Ok) (Some 2)
          ∷ Answered 4 B (call.Create (codes "b" ∷ [])) (answer.Reply reply.Ok) (Some 3)
          ∷ Answered 5 B (call.Write (codes "b" ∷ []) 0 (codes "abcdefgh")) (answer.Reply reply.Ok) (Some 4)
          ∷ Waits 6 A (call.Create (codes "d" ∷ codes "a" ∷ [])) ∷ Durable B (1 ∷ 3 ∷ [])
          ∷ Answered 6 A (call.Create (codes "d" ∷ codes "a" ∷ [])) (answer.Reply reply.Ok) (Some 2)
          ∷ Answered 7 A (call.Write (codes "d" ∷ codes "a" ∷ []) 0 (codes "abcdefgh")) (answer.Reply reply.Ok) (Some 3) ∷ Waits 8 A call.Sync
          ∷ Durable A (2 ∷ 3 ∷ []) ∷ Answered 8 A call.Sync (answer.Reply reply.Ok) None ∷ Waits 9 B call.Sync ∷ Durable B (2 ∷ 4 ∷ [])
          ∷ Answered 9 B call.Sync (answer.Reply reply.Ok) None ∷ Waits 10 B (call.Rename (codes "d" ∷ codes "a" ∷ []) (codes "d" ∷ codes "b" ∷ []))
          ∷ Answered 10 B (call.Rename (codes "d" ∷ codes "a" ∷ []) (codes "d" ∷ codes "b" ∷ [])) (answer.Reply reply.Ok) (Some 5)
          ∷ Answered 11 B (call.Create (codes "d" ∷ codes "a" ∷ [])) (answer.Reply reply.Ok) (Some 6) ∷ Waits 12 B (call.Remove (codes "a" ∷ []))
          ∷ Answered 12 B (call.Remove (codes "a" ∷ [])) (answer.Reply reply.Ok) (Some 7)
          ∷ Waits 13 A (call.Rename (codes "d" ∷ codes "a" ∷ []) (codes "d" ∷ codes "e" ∷ codes "a" ∷ [])) ∷ Durable B (7 ∷ [])
          ∷ Durable B (5 ∷ 6 ∷ [])
          ∷ Answered 13 A (call.Rename (codes "d" ∷ codes "a" ∷ []) (codes "d" ∷ codes "e" ∷ codes "a" ∷ [])) (answer.Reply (reply.Refused (no.NotFound 2))) None
          ∷ Waits 14 B (call.Chmod [] 493) ∷ Answered 14 B (call.Chmod [] 493) (answer.Reply reply.Ok) (Some 8)
          ∷ Answered 15 B (call.Create (codes "a" ∷ [])) (answer.Reply reply.Ok) (Some 9) ∷ Waits 16 A (call.Read (codes "b" ∷ []) 0 64)
          ∷ Durable B (8 ∷ 9 ∷ []) ∷ Answered 16 A (call.Read (codes "b" ∷ []) 0 64) (answer.Reply (reply.Data (codes "abcdefgh"))) None
          ∷ Waits 17 A (call.Touch (codes "d" ∷ codes "b" ∷ []) 5)
          ∷ Answered 17 A (call.Touch (codes "d" ∷ codes "b" ∷ []) 5) (answer.Reply reply.Ok) (Some 4)
          ∷ Waits 18 B (call.Write (codes "b" ∷ []) 0 (codes "ca"))
          ∷ Answered 18 B (call.Write (codes "b" ∷ []) 0 (codes "ca")) (answer.Reply reply.Ok) (Some 10)
          ∷ Answered 19 B (call.List (codes "d" ∷ [])) (answer.Reply (reply.Names (codes "a" ∷ codes "b" ∷ []))) None
          ∷ Waits 20 B (call.Mkdir (codes "e" ∷ [])) ∷ Answered 20 B (call.Mkdir (codes "e" ∷ [])) (answer.Reply reply.Ok) (Some 11)
          ∷ Waits 21 A (call.Chmod (codes "b" ∷ []) 384) ∷ Durable B (11 ∷ []) ∷ Durable B (10 ∷ [])
          ∷ Answered 21 A (call.Chmod (codes "b" ∷ []) 384) (answer.Reply reply.Ok) (Some 5) ∷ Durable A (5 ∷ [])
          ∷ Answered 23 A (call.Fsync (codes "d" ∷ [])) (answer.Reply reply.Ok) None
          ∷ Answered 24 B (call.SetLen (codes "a" ∷ []) 0) (answer.Reply reply.Ok) (Some 12) ∷ Waits 25 A (call.Read (codes "a" ∷ []) 0 64)
          ∷ Durable B (12 ∷ []) ∷ Answered 25 A (call.Read (codes "a" ∷ []) 0 64) (answer.Reply (reply.Data [])) None
          ∷ Answered 26 B (call.Rename (codes "d" ∷ codes "a" ∷ []) (codes "d" ∷ codes "a" ∷ [])) (answer.Reply reply.Ok) None
          ∷ Answered 27 B (call.Stat []) (answer.Reply (reply.Stat kind.Dir 493 0 0 4)) None
          ∷ Answered 28 A (call.Read (codes "d" ∷ codes "b" ∷ []) 1 0) (answer.Reply (reply.Data [])) None
          ∷ Answered 29 B (call.Stat (codes "a" ∷ [])) (answer.Reply (reply.Stat kind.File 420 0 0 0)) None ∷ Waits 30 A (call.List (codes "e" ∷ []))
          ∷ Answered 30 A (call.List (codes "e" ∷ [])) (answer.Reply (reply.Names [])) None
          ∷ Waits 31 B (call.Write (codes "d" ∷ codes "a" ∷ []) 2 (codes "x"))
          ∷ Answered 31 B (call.Write (codes "d" ∷ codes "a" ∷ []) 2 (codes "x")) (answer.Reply reply.Ok) (Some 13)
          ∷ Answered 32 A (call.Write (codes "b" ∷ []) 4 (codes "x")) (answer.Reply reply.Ok) (Some 6) ∷ Waits 33 B (call.Touch (codes "a" ∷ []) 0)
          ∷ Answered 33 B (call.Touch (codes "a" ∷ []) 0) (answer.Reply reply.Ok) (Some 14) ∷ Waits 34 A (call.Remove (codes "a" ∷ []))
          ∷ Durable B (14 ∷ []) ∷ Answered 34 A (call.Remove (codes "a" ∷ [])) (answer.Reply reply.Ok) (Some 7)
          ∷ Waits 35 A (call.Write (codes "d" ∷ codes "a" ∷ []) 2 (codes "x")) ∷ Durable B (13 ∷ [])
          ∷ Answered 35 A (call.Write (codes "d" ∷ codes "a" ∷ []) 2 (codes "x")) (answer.Reply reply.Ok) (Some 8)
          ∷ Waits 36 B (call.Remove (codes "d" ∷ codes "a" ∷ [])) ∷ Durable A (7 ∷ []) ∷ Durable A (8 ∷ [])
          ∷ Answered 36 B (call.Remove (codes "d" ∷ codes "a" ∷ [])) (answer.Reply reply.Ok) (Some 15)
          ∷ Answered 37 A (call.Write (codes "b" ∷ []) 2 (codes "z")) (answer.Reply reply.Ok) (Some 9)
          ∷ Answered 38 A (call.Write (codes "b" ∷ []) 3 (codes "a")) (answer.Reply reply.Ok) (Some 10) ∷ Durable A (10 ∷ [])
          ∷ Waits 40 B (call.Read (codes "b" ∷ []) 0 9) ∷ Durable A (6 ∷ 9 ∷ [])
          ∷ Answered 40 B (call.Read (codes "b" ∷ []) 0 9) (answer.Reply (reply.Data (codes "cazaxfgh"))) None ∷ [];
      status = 0;
    }

abbrev pub plain_1 : Run
plain_1 =
    record {
      lines =
          reads (line.Call A (call.Mkdir (codes "d" ∷ []))) 9 ∷ reads (line.Call B (call.Create (codes "a" ∷ []))) 10
          ∷ reads (line.Call B (call.Create (codes "b" ∷ []))) 10 ∷ reads (line.Call B (call.Write (codes "b" ∷ []) 3 (codes "ycxab"))) 14
          ∷ reads (line.Call A (call.Write (codes "b" ∷ []) 0 (codes "x"))) 14 ∷ reads (line.Call A (call.Chmod (codes "d" ∷ []) 493)) 12
          ∷ reads (line.Call A (call.Write (codes "b" ∷ []) 0 (codes "y"))) 14 ∷ reads (line.Call A (call.List (codes "d" ∷ []))) 8
          ∷ reads (line.Call A (call.Stat (codes "b" ∷ []))) 8 ∷ reads (line.Call A (call.Stat (codes "b" ∷ []))) 8
          ∷ reads (line.Call B (call.Stat (codes "a" ∷ []))) 8 ∷ reads (line.Call A (call.Read (codes "a" ∷ []) 0 0)) 13
          ∷ reads (line.Call A (call.Read (codes "a" ∷ []) 0 2)) 13 ∷ reads (line.Call A (call.Mkdir (codes "d" ∷ codes "k" ∷ []))) 9
          ∷ reads (line.Call B (call.Forder ((codes "b" ∷ []) ∷ [] ∷ []))) 13 ∷ reads (line.Call B (call.Mkdir (codes "d" ∷ codes "e" ∷ []))) 9
          ∷ reads (line.Push B 4) 8 ∷ reads (line.Call A (call.Fsync [])) 9 ∷ reads (line.Call B (call.Write (codes "a" ∷ []) 6 (codes "xbcay"))) 14
          ∷ reads (line.Call A (call.Write (codes "b" ∷ []) 6 (codes "xc"))) 14 ∷ reads (line.Call B (call.Fsync (codes "b" ∷ []))) 9
          ∷ reads (line.Call B (call.Create (codes "d" ∷ codes "e" ∷ codes "a" ∷ []))) 10
          ∷ reads (line.Call A (call.List (codes "d" ∷ codes "e" ∷ []))) 8 ∷ reads (line.Call B (call.Write (codes "b" ∷ []) 0 (codes "zcy"))) 14
          ∷ reads (line.Call A (call.Mkdir (codes "e" ∷ []))) 9 ∷ reads (line.Call A (call.Remove (codes "b" ∷ []))) 10
          ∷ reads (line.Call A (call.List [])) 8 ∷ reads (line.Call B (call.Mkdir (codes "e" ∷ []))) 9
          ∷ reads (line.Call A (call.SetLen (codes "a" ∷ []) 1)) 13
          ∷ reads (line.Call B (call.Rename (codes "d" ∷ codes "e" ∷ codes "a" ∷ []) (codes "b" ∷ []))) 17
          ∷ reads (line.Call B (call.Mkdir (codes "e" ∷ []))) 9 ∷ reads (line.Call B (call.Mkdir (codes "d" ∷ []))) 9
          ∷ reads (line.Call A (call.Read (codes "a" ∷ []) 0 9)) 13 ∷ reads (line.Call B (call.Fsync [])) 9
          ∷ reads (line.Call B (call.Write (codes "b" ∷ []) 0 (codes "zyc"))) 14 ∷ reads (line.Call A (call.Fsync (codes "b" ∷ []))) 9
          ∷ reads (line.Call A (call.Write (codes "a" ∷ []) 3 (codes "ba"))) 14 ∷ reads (line.Call B call.Sync) 3
          ∷ reads (line.Call B (call.Rename (codes "a" ∷ []) (codes "b" ∷ []))) 13
          ∷ reads (line.Call A (call.Forder ((codes "d" ∷ codes "e" ∷ []) ∷ (codes "b" ∷ []) ∷ (codes "b" ∷ []) ∷ []))) 18 ∷ [];
      fates = [];
      max_objects = 1024;
      shown =
          Waits 1 A (call.Mkdir (codes "d" ∷ [])) ∷ Answered 1 A (call.Mkdir (codes "d" ∷ [])) (answer.Reply reply.Ok) (Some 1)
          ∷ Waits 2 B (call.Create (codes "a" ∷ [])) ∷ Durable A (1 ∷ [])
          ∷ Answered 2 B (call.Create (codes "a" ∷ [])) (answer.Reply reply.Ok) (Some 1)
          ∷ Answered 3 B (call.Create (codes "b" ∷ [])) (answer.Reply reply.Ok) (Some 2)
          ∷ Answered 4 B (call.Write (codes "b" ∷ []) 3 (codes "ycxab")) (answer.Reply reply.Ok) (Some 3)
          ∷ Waits 5 A (call.Write (codes "b" ∷ []) 0 (codes "x")) ∷ Durable B (1 ∷ 2 ∷ []) ∷ Durable B (3 ∷ [])
          ∷ Answered 5 A (call.Write (codes "b" ∷ []) 0 (codes "x")) (answer.Reply reply.Ok) (Some 2)
          ∷ Answered 6 A (call.Chmod (codes "d" ∷ []) 493) (answer.Reply reply.Ok) (Some 3)
          ∷ Answered 7 A (call.Write (codes "b" ∷ []) 0 (codes "y")) (answer.Reply reply.Ok) (Some 4)
          ∷ Answered 8 A (call.List (codes "d" ∷ [])) (answer.Reply (reply.Names [])) None
          ∷ Answered 9 A (call.Stat (codes "b" ∷ [])) (answer.Reply (reply.Stat kind.File 420 0 0 8)) None
          ∷ Answered 10 A (call.Stat (codes "b" ∷ [])) (answer.Reply (reply.Stat kind.File 420 0 0 8)) None
          ∷ Answered 11 B (call.Stat (codes "a" ∷ [])) (answer.Reply (reply.Stat kind.File 420 0 0 0)) None
          ∷ Waits 12 A (call.Read (codes "a" ∷ []) 0 0) ∷ Answered 12 A (call.Read (codes "a" ∷ []) 0 0) (answer.Reply (reply.Data [])) None
          ∷ Answered 13 A (call.Read (codes "a" ∷ []) 0 2) (answer.Reply (reply.Data [])) None
          ∷ Answered 14 A (call.Mkdir (codes "d" ∷ codes "k" ∷ [])) (answer.Reply reply.Ok) (Some 5)
          ∷ Waits 15 B (call.Forder ((codes "b" ∷ []) ∷ [] ∷ [])) ∷ Durable A (2 ∷ 4 ∷ [])
          ∷ Answered 15 B (call.Forder ((codes "b" ∷ []) ∷ [] ∷ [])) (answer.Reply reply.Ok) (Some 4)
          ∷ Waits 16 B (call.Mkdir (codes "d" ∷ codes "e" ∷ [])) ∷ Durable A (3 ∷ 5 ∷ [])
          ∷ Answered 16 B (call.Mkdir (codes "d" ∷ codes "e" ∷ [])) (answer.Reply reply.Ok) (Some 5) ∷ Durable B (4 ∷ []) ∷ Waits 18 A (call.Fsync [])
          ∷ Answered 18 A (call.Fsync []) (answer.Reply reply.Ok) None ∷ Waits 19 B (call.Write (codes "a" ∷ []) 6 (codes "xbcay"))
          ∷ Answered 19 B (call.Write (codes "a" ∷ []) 6 (codes "xbcay")) (answer.Reply reply.Ok) (Some 6)
          ∷ Waits 20 A (call.Write (codes "b" ∷ []) 6 (codes "xc"))
          ∷ Answered 20 A (call.Write (codes "b" ∷ []) 6 (codes "xc")) (answer.Reply reply.Ok) (Some 6) ∷ Waits 21 B (call.Fsync (codes "b" ∷ []))
          ∷ Durable A (6 ∷ []) ∷ Answered 21 B (call.Fsync (codes "b" ∷ [])) (answer.Reply reply.Ok) None
          ∷ Answered 22 B (call.Create (codes "d" ∷ codes "e" ∷ codes "a" ∷ [])) (answer.Reply reply.Ok) (Some 7)
          ∷ Waits 23 A (call.List (codes "d" ∷ codes "e" ∷ [])) ∷ Durable B (5 ∷ []) ∷ Durable B (7 ∷ [])
          ∷ Answered 23 A (call.List (codes "d" ∷ codes "e" ∷ [])) (answer.Reply (reply.Names (codes "a" ∷ []))) None
          ∷ Waits 24 B (call.Write (codes "b" ∷ []) 0 (codes "zcy"))
          ∷ Answered 24 B (call.Write (codes "b" ∷ []) 0 (codes "zcy")) (answer.Reply reply.Ok) (Some 8) ∷ Waits 25 A (call.Mkdir (codes "e" ∷ []))
          ∷ Answered 25 A (call.Mkdir (codes "e" ∷ [])) (answer.Reply reply.Ok) (Some 7) ∷ Waits 26 A (call.Remove (codes "b" ∷ []))
          ∷ Durable B (8 ∷ []) ∷ Answered 26 A (call.Remove (codes "b" ∷ [])) (answer.Reply reply.Ok) (Some 8)
          ∷ Answered 27 A (call.List []) (answer.Reply (reply.Names (codes "a" ∷ codes "d" ∷ codes "e" ∷ []))) None
          ∷ Waits 28 B (call.Mkdir (codes "e" ∷ [])) ∷ Durable A (7 ∷ 8 ∷ [])
          ∷ Answered 28 B (call.Mkdir (codes "e" ∷ [])) (answer.Reply (reply.Refused no.Exists)) None ∷ Waits 29 A (call.SetLen (codes "a" ∷ []) 1)
          ∷ Durable B (6 ∷ []) ∷ Answered 29 A (call.SetLen (codes "a" ∷ []) 1) (answer.Reply reply.Ok) (Some 9)
          ∷ Waits 30 B (call.Rename (codes "d" ∷ codes "e" ∷ codes "a" ∷ []) (codes "b" ∷ []))
          ∷ Answered 30 B (call.Rename (codes "d" ∷ codes "e" ∷ codes "a" ∷ []) (codes "b" ∷ [])) (answer.Reply reply.Ok) (Some 9)
          ∷ Answered 31 B (call.Mkdir (codes "e" ∷ [])) (answer.Reply (reply.Refused no.Exists)) None
          ∷ Answered 32 B (call.Mkdir (codes "d" ∷ [])) (answer.Reply (reply.Refused no.Exists)) None ∷ Waits 33 A (call.Read (codes "a" ∷ []) 0 9)
          ∷ Durable B (9 ∷ []) ∷ Answered 33 A (call.Read (codes "a" ∷ []) 0 9) (answer.Reply (reply.Data (0 ∷ []))) None
          ∷ Answered 34 B (call.Fsync []) (answer.Reply reply.Ok) None
          ∷ Answered 35 B (call.Write (codes "b" ∷ []) 0 (codes "zyc")) (answer.Reply reply.Ok) (Some 10) ∷ Waits 36 A (call.Fsync (codes "b" ∷ []))
          ∷ Durable B (10 ∷ []) ∷ Answered 36 A (call.Fsync (codes "b" ∷ [])) (answer.Reply reply.Ok) None
          ∷ Answered 37 A (call.Write (codes "a" ∷ []) 3 (codes "ba")) (answer.Reply reply.Ok) (Some 10)
          ∷ Answered 38 B call.Sync (answer.Reply reply.Ok) None ∷ Waits 39 B (call.Rename (codes "a" ∷ []) (codes "b" ∷ []))
          ∷ Durable A (9 ∷ 10 ∷ []) ∷ Answered 39 B (call.Rename (codes "a" ∷ []) (codes "b" ∷ [])) (answer.Reply reply.Ok) (Some 11)
          ∷ Waits 40 A (call.Forder ((codes "d" ∷ codes "e" ∷ []) ∷ (codes "b" ∷ []) ∷ (codes "b" ∷ []) ∷ [])) ∷ Durable B (11 ∷ [])
          ∷ Answered 40 A (call.Forder ((codes "d" ∷ codes "e" ∷ []) ∷ (codes "b" ∷ []) ∷ (codes "b" ∷ []) ∷ [])) (answer.Reply reply.Ok) (Some 11)
          ∷ [];
      status = 0;
    }

abbrev pub plain_2 : Run
plain_2 =
    record {
      lines =
          reads (line.Call D (call.Mkdir (codes "d" ∷ []))) 9 ∷ reads (line.Call B (call.Create (codes "a" ∷ []))) 10
          ∷ reads (line.Call B (call.Write (codes "a" ∷ []) 0 (codes "abcdefgh"))) 14 ∷ reads (line.Push D 1) 8
          ∷ reads (line.Call C (call.Read (codes "a" ∷ []) 0 9)) 13 ∷ reads (line.Call D (call.Write (codes "a" ∷ []) 0 (codes "c"))) 14
          ∷ reads (line.Call A (call.Create (codes "d" ∷ codes "a" ∷ []))) 10 ∷ reads (line.Call A (call.Fsync (codes "d" ∷ codes "a" ∷ []))) 9
          ∷ reads (line.Call B (call.Stat (codes "d" ∷ []))) 8 ∷ reads (line.Call C (call.Rename (codes "a" ∷ []) (codes "e" ∷ codes "a" ∷ []))) 13
          ∷ reads (line.Call C (call.Read (codes "d" ∷ codes "a" ∷ []) 0 0)) 15 ∷ reads (line.Call A (call.Stat (codes "a" ∷ []))) 8
          ∷ reads (line.Call A (call.Rmdir (codes "d" ∷ []))) 9 ∷ reads (line.Call D (call.Write (codes "d" ∷ codes "a" ∷ []) 2 (codes "xc"))) 16
          ∷ reads (line.Call D (call.Write (codes "d" ∷ codes "a" ∷ []) 3 (codes "x"))) 16
          ∷ reads (line.Call D (call.Write (codes "d" ∷ codes "a" ∷ []) 1 (codes "x"))) 16 ∷ reads (line.Push D 5) 8 ∷ reads (line.Call D call.Sync) 3
          ∷ reads (line.Call C (call.Touch (codes "d" ∷ codes "a" ∷ []) 4)) 14 ∷ reads (line.Call B (call.Read (codes "d" ∷ codes "a" ∷ []) 0 2)) 15
          ∷ reads (line.Call B (call.Read (codes "a" ∷ []) 0 0)) 13 ∷ reads (line.Call C (call.Mkdir (codes "d" ∷ []))) 9
          ∷ reads (line.Call D (call.Read (codes "a" ∷ []) 1 9)) 13 ∷ reads (line.Call D (call.Create (codes "d" ∷ codes "a" ∷ []))) 10
          ∷ reads (line.Call D (call.Stat [])) 8 ∷ reads (line.Push C 1) 8 ∷ reads (line.Call D (call.Create (codes "a" ∷ []))) 10
          ∷ reads (line.Push B 2) 8 ∷ reads (line.Call D (call.Rename [] (codes "d" ∷ codes "a" ∷ []))) 12 ∷ reads (line.Call A (call.Stat [])) 8
          ∷ reads (line.Call C (call.Chmod (codes "d" ∷ []) 493)) 12 ∷ reads (line.Call B (call.Rename (codes "a" ∷ []) (codes "a2" ∷ []))) 13
          ∷ reads (line.Call B (call.Create (codes "a" ∷ []))) 10 ∷ reads (line.Call A (call.Create (codes "d" ∷ codes "a" ∷ []))) 10
          ∷ reads (line.Call D (call.Chmod (codes "a" ∷ []) 384)) 12 ∷ reads (line.Call A (call.Create (codes "e" ∷ codes "a" ∷ []))) 10
          ∷ reads (line.Call C (call.Write (codes "a" ∷ []) 0 (codes "a"))) 14 ∷ reads (line.Call C (call.Write (codes "a" ∷ []) 1 (codes "yy"))) 14
          ∷ reads (line.Call C (call.Write (codes "a" ∷ []) 0 (codes "a"))) 14 ∷ reads (line.Push B 1) 8 ∷ [];
      fates = [];
      max_objects = 1024;
      shown =
          Waits 1 D (call.Mkdir (codes "d" ∷ [])) ∷ Answered 1 D (call.Mkdir (codes "d" ∷ [])) (answer.Reply reply.Ok) (Some 1)
          ∷ Waits 2 B (call.Create (codes "a" ∷ [])) ∷ Durable D (1 ∷ [])
          ∷ Answered 2 B (call.Create (codes "a" ∷ [])) (answer.Reply reply.Ok) (Some 1)
          ∷ Answered 3 B (call.Write (codes "a" ∷ []) 0 (codes "abcdefgh")) (answer.Reply reply.Ok) (Some 2) ∷ Nothing
          ∷ Waits 5 C (call.Read (codes "a" ∷ []) 0 9) ∷ Durable B (1 ∷ []) ∷ Durable B (2 ∷ [])
          ∷ Answered 5 C (call.Read (codes "a" ∷ []) 0 9) (answer.Reply (reply.Data (codes "abcdefgh"))) None
          ∷ Waits 6 D (call.Write (codes "a" ∷ []) 0 (codes "c"))
          ∷ Answered 6 D (call.Write (codes "a" ∷ []) 0 (codes "c")) (answer.Reply reply.Ok) (Some 2)
          ∷ Waits 7 A (call.Create (codes "d" ∷ codes "a" ∷ []))
          ∷ Answered 7 A (call.Create (codes "d" ∷ codes "a" ∷ [])) (answer.Reply reply.Ok) (Some 1)
          ∷ Waits 8 A (call.Fsync (codes "d" ∷ codes "a" ∷ [])) ∷ Durable A (1 ∷ [])
          ∷ Answered 8 A (call.Fsync (codes "d" ∷ codes "a" ∷ [])) (answer.Reply reply.Ok) None ∷ Waits 9 B (call.Stat (codes "d" ∷ []))
          ∷ Answered 9 B (call.Stat (codes "d" ∷ [])) (answer.Reply (reply.Stat kind.Dir 493 0 0 1)) None
          ∷ Waits 10 C (call.Rename (codes "a" ∷ []) (codes "e" ∷ codes "a" ∷ [])) ∷ Durable D (2 ∷ [])
          ∷ Answered 10 C (call.Rename (codes "a" ∷ []) (codes "e" ∷ codes "a" ∷ [])) (answer.Reply (reply.Refused (no.NotFound 1))) None
          ∷ Waits 11 C (call.Read (codes "d" ∷ codes "a" ∷ []) 0 0)
          ∷ Answered 11 C (call.Read (codes "d" ∷ codes "a" ∷ []) 0 0) (answer.Reply (reply.Data [])) None ∷ Waits 12 A (call.Stat (codes "a" ∷ []))
          ∷ Answered 12 A (call.Stat (codes "a" ∷ [])) (answer.Reply (reply.Stat kind.File 420 0 0 8)) None
          ∷ Answered 13 A (call.Rmdir (codes "d" ∷ [])) (answer.Reply (reply.Refused no.NotEmpty)) None
          ∷ Waits 14 D (call.Write (codes "d" ∷ codes "a" ∷ []) 2 (codes "xc"))
          ∷ Answered 14 D (call.Write (codes "d" ∷ codes "a" ∷ []) 2 (codes "xc")) (answer.Reply reply.Ok) (Some 3)
          ∷ Answered 15 D (call.Write (codes "d" ∷ codes "a" ∷ []) 3 (codes "x")) (answer.Reply reply.Ok) (Some 4)
          ∷ Answered 16 D (call.Write (codes "d" ∷ codes "a" ∷ []) 1 (codes "x")) (answer.Reply reply.Ok) (Some 5) ∷ Durable D (3 ∷ 5 ∷ [])
          ∷ Waits 18 D call.Sync ∷ Durable D (4 ∷ []) ∷ Answered 18 D call.Sync (answer.Reply reply.Ok) None
          ∷ Waits 19 C (call.Touch (codes "d" ∷ codes "a" ∷ []) 4)
          ∷ Answered 19 C (call.Touch (codes "d" ∷ codes "a" ∷ []) 4) (answer.Reply reply.Ok) (Some 1)
          ∷ Waits 20 B (call.Read (codes "d" ∷ codes "a" ∷ []) 0 2) ∷ Durable C (1 ∷ [])
          ∷ Answered 20 B (call.Read (codes "d" ∷ codes "a" ∷ []) 0 2) (answer.Reply (reply.Data (0 ∷ 120 ∷ []))) None
          ∷ Waits 21 B (call.Read (codes "a" ∷ []) 0 0) ∷ Answered 21 B (call.Read (codes "a" ∷ []) 0 0) (answer.Reply (reply.Data [])) None
          ∷ Answered 22 C (call.Mkdir (codes "d" ∷ [])) (answer.Reply (reply.Refused no.Exists)) None
          ∷ Answered 23 D (call.Read (codes "a" ∷ []) 1 9) (answer.Reply (reply.Data (codes "bcdefgh"))) None
          ∷ Answered 24 D (call.Create (codes "d" ∷ codes "a" ∷ [])) (answer.Reply (reply.Refused no.Exists)) None
          ∷ Answered 25 D (call.Stat []) (answer.Reply (reply.Stat kind.Dir 493 0 0 2)) None ∷ Nothing
          ∷ Answered 27 D (call.Create (codes "a" ∷ [])) (answer.Reply (reply.Refused no.Exists)) None ∷ Nothing
          ∷ Answered 29 D (call.Rename [] (codes "d" ∷ codes "a" ∷ [])) (answer.Reply (reply.Refused no.Root)) None
          ∷ Answered 30 A (call.Stat []) (answer.Reply (reply.Stat kind.Dir 493 0 0 2)) None ∷ Waits 31 C (call.Chmod (codes "d" ∷ []) 493)
          ∷ Answered 31 C (call.Chmod (codes "d" ∷ []) 493) (answer.Reply reply.Ok) (Some 2)
          ∷ Waits 32 B (call.Rename (codes "a" ∷ []) (codes "a2" ∷ []))
          ∷ Answered 32 B (call.Rename (codes "a" ∷ []) (codes "a2" ∷ [])) (answer.Reply reply.Ok) (Some 3)
          ∷ Answered 33 B (call.Create (codes "a" ∷ [])) (answer.Reply reply.Ok) (Some 4) ∷ Waits 34 A (call.Create (codes "d" ∷ codes "a" ∷ []))
          ∷ Durable B (3 ∷ 4 ∷ []) ∷ Durable C (2 ∷ [])
          ∷ Answered 34 A (call.Create (codes "d" ∷ codes "a" ∷ [])) (answer.Reply (reply.Refused no.Exists)) None
          ∷ Waits 35 D (call.Chmod (codes "a" ∷ []) 384) ∷ Answered 35 D (call.Chmod (codes "a" ∷ []) 384) (answer.Reply reply.Ok) (Some 6)
          ∷ Answered 36 A (call.Create (codes "e" ∷ codes "a" ∷ [])) (answer.Reply (reply.Refused (no.NotFound 1))) None
          ∷ Waits 37 C (call.Write (codes "a" ∷ []) 0 (codes "a")) ∷ Durable D (6 ∷ [])
          ∷ Answered 37 C (call.Write (codes "a" ∷ []) 0 (codes "a")) (answer.Reply reply.Ok) (Some 3)
          ∷ Answered 38 C (call.Write (codes "a" ∷ []) 1 (codes "yy")) (answer.Reply reply.Ok) (Some 4)
          ∷ Answered 39 C (call.Write (codes "a" ∷ []) 0 (codes "a")) (answer.Reply reply.Ok) (Some 5) ∷ Nothing ∷ [];
      status = 0;
    }

abbrev pub plain_3 : Run
plain_3 =
    record {
      lines =
          reads (line.Call D (call.Mkdir (codes "d" ∷ []))) 9 ∷ reads (line.Call D (call.Create (codes "a" ∷ []))) 10
          ∷ reads (line.Call D (call.Write (codes "a" ∷ []) 0 (codes "abcdefgh"))) 14
          ∷ reads (line.Call A (call.Create (codes "d" ∷ codes "a" ∷ []))) 10
          ∷ reads (line.Call A (call.Write (codes "d" ∷ codes "a" ∷ []) 0 (codes "abcdefgh"))) 16 ∷ reads (line.Push A 2) 8
          ∷ reads (line.Call C (call.Write (codes "d" ∷ codes "a" ∷ []) 4 (codes "c"))) 16
          ∷ reads (line.Call C (call.Write (codes "d" ∷ codes "a" ∷ []) 4 (codes "y"))) 16
          ∷ reads (line.Call D (call.Rename (codes "d" ∷ []) (codes "d" ∷ codes "z" ∷ []))) 13 ∷ reads (line.Call A (call.Fsync [])) 9
          ∷ reads (line.Call B (call.Rename (codes "a" ∷ []) (codes "e" ∷ codes "a" ∷ []))) 13
          ∷ reads (line.Call D (call.SetLen (codes "a" ∷ []) 4)) 13 ∷ reads (line.Call A (call.Stat [])) 8
          ∷ reads (line.Call B (call.Write (codes "d" ∷ codes "a" ∷ []) 2 (codes "zzycz"))) 16
          ∷ reads (line.Call D (call.Write (codes "a" ∷ []) 6 (codes "a"))) 14 ∷ reads (line.Call D (call.Remove (codes "a" ∷ []))) 10
          ∷ reads (line.Call C (call.Write (codes "d" ∷ codes "a" ∷ []) 5 (codes "y"))) 16
          ∷ reads (line.Call C (call.Write (codes "d" ∷ codes "a" ∷ []) 4 (codes "ac"))) 16 ∷ reads (line.Call D (call.Mkdir (codes "e" ∷ []))) 9
          ∷ reads (line.Call C (call.List [])) 8 ∷ reads (line.Call B (call.Remove (codes "d" ∷ codes "a" ∷ []))) 10
          ∷ reads (line.Call C (call.Write (codes "a" ∷ []) 2 (codes "yz"))) 14 ∷ reads (line.Call C (call.Write (codes "a" ∷ []) 5 (codes "bc"))) 14
          ∷ reads (line.Push C 4) 8 ∷ reads (line.Push C 2) 8 ∷ reads (line.Call A (call.Write (codes "d" ∷ codes "a" ∷ []) 4 (codes "cyyab"))) 16
          ∷ reads (line.Call D (call.Write (codes "e" ∷ codes "a" ∷ []) 1 (codes "bx"))) 16
          ∷ reads (line.Call D (call.Write (codes "e" ∷ codes "a" ∷ []) 0 (codes "y"))) 16 ∷ reads (line.Push D 6) 8
          ∷ reads (line.Call A (call.Write (codes "d" ∷ codes "a" ∷ []) 5 (codes "cx"))) 16
          ∷ reads (line.Call A (call.Write (codes "d" ∷ codes "a" ∷ []) 3 (codes "cy"))) 16 ∷ reads (line.Push A 2) 8
          ∷ reads (line.Call C (call.Create (codes "e" ∷ codes "a" ∷ []))) 10
          ∷ reads (line.Call A (call.Write (codes "e" ∷ codes "a" ∷ []) 2 (codes "b"))) 16
          ∷ reads (line.Call A (call.Write (codes "e" ∷ codes "a" ∷ []) 5 (codes "x"))) 16 ∷ reads (line.Push A 4) 8
          ∷ reads (line.Call A (call.Remove (codes "e" ∷ codes "a" ∷ []))) 10 ∷ reads (line.Push B 2) 8
          ∷ reads (line.Call D (call.Fsync (codes "a" ∷ []))) 9 ∷ reads (line.Call A (call.Stat [])) 8 ∷ [];
      fates = [];
      max_objects = 1024;
      shown =
          Waits 1 D (call.Mkdir (codes "d" ∷ [])) ∷ Answered 1 D (call.Mkdir (codes "d" ∷ [])) (answer.Reply reply.Ok) (Some 1)
          ∷ Answered 2 D (call.Create (codes "a" ∷ [])) (answer.Reply reply.Ok) (Some 2)
          ∷ Answered 3 D (call.Write (codes "a" ∷ []) 0 (codes "abcdefgh")) (answer.Reply reply.Ok) (Some 3)
          ∷ Waits 4 A (call.Create (codes "d" ∷ codes "a" ∷ [])) ∷ Durable D (1 ∷ 2 ∷ [])
          ∷ Answered 4 A (call.Create (codes "d" ∷ codes "a" ∷ [])) (answer.Reply reply.Ok) (Some 1)
          ∷ Answered 5 A (call.Write (codes "d" ∷ codes "a" ∷ []) 0 (codes "abcdefgh")) (answer.Reply reply.Ok) (Some 2) ∷ Durable A (1 ∷ 2 ∷ [])
          ∷ Waits 7 C (call.Write (codes "d" ∷ codes "a" ∷ []) 4 (codes "c"))
          ∷ Answered 7 C (call.Write (codes "d" ∷ codes "a" ∷ []) 4 (codes "c")) (answer.Reply reply.Ok) (Some 1)
          ∷ Answered 8 C (call.Write (codes "d" ∷ codes "a" ∷ []) 4 (codes "y")) (answer.Reply reply.Ok) (Some 2)
          ∷ Waits 9 D (call.Rename (codes "d" ∷ []) (codes "d" ∷ codes "z" ∷ []))
          ∷ Answered 9 D (call.Rename (codes "d" ∷ []) (codes "d" ∷ codes "z" ∷ [])) (answer.Reply (reply.Refused no.Loop)) None
          ∷ Answered 10 A (call.Fsync []) (answer.Reply reply.Ok) None ∷ Waits 11 B (call.Rename (codes "a" ∷ []) (codes "e" ∷ codes "a" ∷ []))
          ∷ Durable D (3 ∷ [])
          ∷ Answered 11 B (call.Rename (codes "a" ∷ []) (codes "e" ∷ codes "a" ∷ [])) (answer.Reply (reply.Refused (no.NotFound 1))) None
          ∷ Waits 12 D (call.SetLen (codes "a" ∷ []) 4) ∷ Answered 12 D (call.SetLen (codes "a" ∷ []) 4) (answer.Reply reply.Ok) (Some 4)
          ∷ Answered 13 A (call.Stat []) (answer.Reply (reply.Stat kind.Dir 493 0 0 2)) None
          ∷ Waits 14 B (call.Write (codes "d" ∷ codes "a" ∷ []) 2 (codes "zzycz")) ∷ Durable C (1 ∷ 2 ∷ [])
          ∷ Answered 14 B (call.Write (codes "d" ∷ codes "a" ∷ []) 2 (codes "zzycz")) (answer.Reply reply.Ok) (Some 1)
          ∷ Answered 15 D (call.Write (codes "a" ∷ []) 6 (codes "a")) (answer.Reply reply.Ok) (Some 5) ∷ Waits 16 D (call.Remove (codes "a" ∷ []))
          ∷ Answered 16 D (call.Remove (codes "a" ∷ [])) (answer.Reply reply.Ok) (Some 6)
          ∷ Waits 17 C (call.Write (codes "d" ∷ codes "a" ∷ []) 5 (codes "y")) ∷ Durable D (4 ∷ 5 ∷ 6 ∷ []) ∷ Durable B (1 ∷ [])
          ∷ Answered 17 C (call.Write (codes "d" ∷ codes "a" ∷ []) 5 (codes "y")) (answer.Reply reply.Ok) (Some 3)
          ∷ Answered 18 C (call.Write (codes "d" ∷ codes "a" ∷ []) 4 (codes "ac")) (answer.Reply reply.Ok) (Some 4)
          ∷ Waits 19 D (call.Mkdir (codes "e" ∷ [])) ∷ Answered 19 D (call.Mkdir (codes "e" ∷ [])) (answer.Reply reply.Ok) (Some 7)
          ∷ Waits 20 C (call.List []) ∷ Durable D (7 ∷ [])
          ∷ Answered 20 C (call.List []) (answer.Reply (reply.Names (codes "d" ∷ codes "e" ∷ []))) None
          ∷ Waits 21 B (call.Remove (codes "d" ∷ codes "a" ∷ [])) ∷ Durable C (3 ∷ 4 ∷ [])
          ∷ Answered 21 B (call.Remove (codes "d" ∷ codes "a" ∷ [])) (answer.Reply reply.Ok) (Some 2)
          ∷ Answered 22 C (call.Write (codes "a" ∷ []) 2 (codes "yz")) (answer.Reply (reply.Refused (no.NotFound 1))) None
          ∷ Answered 23 C (call.Write (codes "a" ∷ []) 5 (codes "bc")) (answer.Reply (reply.Refused (no.NotFound 1))) None ∷ Nothing ∷ Nothing
          ∷ Waits 26 A (call.Write (codes "d" ∷ codes "a" ∷ []) 4 (codes "cyyab")) ∷ Durable B (2 ∷ [])
          ∷ Answered 26 A (call.Write (codes "d" ∷ codes "a" ∷ []) 4 (codes "cyyab")) (answer.Reply (reply.Refused (no.NotFound 2))) None
          ∷ Answered 27 D (call.Write (codes "e" ∷ codes "a" ∷ []) 1 (codes "bx")) (answer.Reply (reply.Refused (no.NotFound 2))) None
          ∷ Answered 28 D (call.Write (codes "e" ∷ codes "a" ∷ []) 0 (codes "y")) (answer.Reply (reply.Refused (no.NotFound 2))) None ∷ Nothing
          ∷ Answered 30 A (call.Write (codes "d" ∷ codes "a" ∷ []) 5 (codes "cx")) (answer.Reply (reply.Refused (no.NotFound 2))) None
          ∷ Answered 31 A (call.Write (codes "d" ∷ codes "a" ∷ []) 3 (codes "cy")) (answer.Reply (reply.Refused (no.NotFound 2))) None ∷ Nothing
          ∷ Waits 33 C (call.Create (codes "e" ∷ codes "a" ∷ []))
          ∷ Answered 33 C (call.Create (codes "e" ∷ codes "a" ∷ [])) (answer.Reply reply.Ok) (Some 5)
          ∷ Waits 34 A (call.Write (codes "e" ∷ codes "a" ∷ []) 2 (codes "b")) ∷ Durable C (5 ∷ [])
          ∷ Answered 34 A (call.Write (codes "e" ∷ codes "a" ∷ []) 2 (codes "b")) (answer.Reply reply.Ok) (Some 3)
          ∷ Answered 35 A (call.Write (codes "e" ∷ codes "a" ∷ []) 5 (codes "x")) (answer.Reply reply.Ok) (Some 4) ∷ Durable A (3 ∷ 4 ∷ [])
          ∷ Waits 37 A (call.Remove (codes "e" ∷ codes "a" ∷ []))
          ∷ Answered 37 A (call.Remove (codes "e" ∷ codes "a" ∷ [])) (answer.Reply reply.Ok) (Some 5) ∷ Nothing
          ∷ Answered 39 D (call.Fsync (codes "a" ∷ [])) (answer.Reply (reply.Refused (no.NotFound 1))) None
          ∷ Answered 40 A (call.Stat []) (answer.Reply (reply.Stat kind.Dir 493 0 0 2)) None ∷ [];
      status = 0;
    }

abbrev pub plain_4 : Run
plain_4 =
    record {
      lines =
          reads (line.Call B (call.Mkdir (codes "d" ∷ []))) 9 ∷ reads (line.Call A (call.Create (codes "a" ∷ []))) 10
          ∷ reads (line.Call A (call.Write (codes "a" ∷ []) 0 (codes "abcdefgh"))) 14
          ∷ reads (line.Call A (call.Create (codes "d" ∷ codes "a" ∷ []))) 10
          ∷ reads (line.Call A (call.Write (codes "d" ∷ codes "a" ∷ []) 0 (codes "abcdefgh"))) 16
          ∷ reads (line.Call B (call.Create (codes "e" ∷ codes "a" ∷ []))) 10
          ∷ reads (line.Call B (call.Write (codes "e" ∷ codes "a" ∷ []) 0 (codes "abcdefgh"))) 16 ∷ reads (line.Call A call.Sync) 3
          ∷ reads (line.Call B call.Sync) 3 ∷ reads (line.Call B (call.Rename (codes "a" ∷ []) (codes "a" ∷ []))) 13
          ∷ reads (line.Call B (call.Fsync (codes "d" ∷ []))) 9 ∷ reads (line.Call B (call.Read (codes "a" ∷ []) 0 9)) 13
          ∷ reads (line.Call B (call.Write (codes "a" ∷ []) 0 (codes "cy"))) 14 ∷ reads (line.Call B (call.Write (codes "a" ∷ []) 2 (codes "by"))) 14
          ∷ reads (line.Call B (call.Write (codes "a" ∷ []) 4 (codes "ca"))) 14 ∷ reads (line.Call B (call.Write (codes "a" ∷ []) 4 (codes "y"))) 14
          ∷ reads (line.Call A (call.Write (codes "a" ∷ []) 3 (codes "c"))) 14
          ∷ reads (line.Call A (call.Rename (codes "e" ∷ codes "a" ∷ []) (codes "a" ∷ []))) 15
          ∷ reads (line.Call B (call.Rename (codes "a" ∷ []) (codes "a" ∷ []))) 13 ∷ reads (line.Push A 5) 8
          ∷ reads (line.Call A (call.Create (codes "d" ∷ codes "a" ∷ []))) 10 ∷ reads (line.Call B (call.Create (codes "e" ∷ codes "a" ∷ []))) 10
          ∷ reads (line.Call A (call.Read (codes "d" ∷ codes "a" ∷ []) 0 0)) 15 ∷ reads (line.Call B (call.Rmdir (codes "d" ∷ []))) 9
          ∷ reads (line.Call A (call.Rmdir (codes "d" ∷ []))) 9 ∷ reads (line.Call B (call.Create (codes "e" ∷ codes "a" ∷ []))) 10
          ∷ reads (line.Call B (call.Read (codes "e" ∷ codes "a" ∷ []) 1 64)) 15 ∷ reads (line.Call B (call.Mkdir (codes "e" ∷ []))) 9
          ∷ reads (line.Call B (call.Write (codes "d" ∷ codes "a" ∷ []) 2 (codes "bxx"))) 16
          ∷ reads (line.Call A (call.Rename (codes "a" ∷ []) (codes "a" ∷ []))) 13
          ∷ reads (line.Call B (call.Write (codes "a" ∷ []) 6 (codes "x"))) 14
          ∷ reads (line.Call B (call.Rename (codes "a" ∷ []) (codes "a2" ∷ []))) 13 ∷ reads (line.Push A 5) 8
          ∷ reads (line.Call B (call.Create (codes "a" ∷ []))) 10 ∷ reads (line.Call B (call.Create (codes "e" ∷ codes "a" ∷ []))) 10
          ∷ reads (line.Call B (call.Write (codes "e" ∷ codes "a" ∷ []) 1 (codes "zbxxz"))) 16
          ∷ reads (line.Call A (call.Create (codes "e" ∷ codes "a" ∷ []))) 10
          ∷ reads (line.Call A (call.Write (codes "d" ∷ codes "a" ∷ []) 2 (codes "az"))) 16
          ∷ reads (line.Call A (call.Write (codes "d" ∷ codes "a" ∷ []) 5 (codes "yz"))) 16
          ∷ reads (line.Call A (call.Write (codes "d" ∷ codes "a" ∷ []) 1 (codes "cc"))) 16 ∷ reads (line.Push A 8) 8 ∷ [];
      fates = [];
      max_objects = 1024;
      shown =
          Waits 1 B (call.Mkdir (codes "d" ∷ [])) ∷ Answered 1 B (call.Mkdir (codes "d" ∷ [])) (answer.Reply reply.Ok) (Some 1)
          ∷ Waits 2 A (call.Create (codes "a" ∷ [])) ∷ Durable B (1 ∷ [])
          ∷ Answered 2 A (call.Create (codes "a" ∷ [])) (answer.Reply reply.Ok) (Some 1)
          ∷ Answered 3 A (call.Write (codes "a" ∷ []) 0 (codes "abcdefgh")) (answer.Reply reply.Ok) (Some 2)
          ∷ Waits 4 A (call.Create (codes "d" ∷ codes "a" ∷ []))
          ∷ Answered 4 A (call.Create (codes "d" ∷ codes "a" ∷ [])) (answer.Reply reply.Ok) (Some 3)
          ∷ Answered 5 A (call.Write (codes "d" ∷ codes "a" ∷ []) 0 (codes "abcdefgh")) (answer.Reply reply.Ok) (Some 4)
          ∷ Waits 6 B (call.Create (codes "e" ∷ codes "a" ∷ [])) ∷ Durable A (1 ∷ [])
          ∷ Answered 6 B (call.Create (codes "e" ∷ codes "a" ∷ [])) (answer.Reply (reply.Refused (no.NotFound 1))) None
          ∷ Answered 7 B (call.Write (codes "e" ∷ codes "a" ∷ []) 0 (codes "abcdefgh")) (answer.Reply (reply.Refused (no.NotFound 1))) None
          ∷ Waits 8 A call.Sync ∷ Durable A (2 ∷ 3 ∷ 4 ∷ []) ∷ Answered 8 A call.Sync (answer.Reply reply.Ok) None
          ∷ Answered 9 B call.Sync (answer.Reply reply.Ok) None ∷ Waits 10 B (call.Rename (codes "a" ∷ []) (codes "a" ∷ []))
          ∷ Answered 10 B (call.Rename (codes "a" ∷ []) (codes "a" ∷ [])) (answer.Reply reply.Ok) None ∷ Waits 11 B (call.Fsync (codes "d" ∷ []))
          ∷ Answered 11 B (call.Fsync (codes "d" ∷ [])) (answer.Reply reply.Ok) None
          ∷ Answered 12 B (call.Read (codes "a" ∷ []) 0 9) (answer.Reply (reply.Data (codes "abcdefgh"))) None
          ∷ Waits 13 B (call.Write (codes "a" ∷ []) 0 (codes "cy"))
          ∷ Answered 13 B (call.Write (codes "a" ∷ []) 0 (codes "cy")) (answer.Reply reply.Ok) (Some 2)
          ∷ Answered 14 B (call.Write (codes "a" ∷ []) 2 (codes "by")) (answer.Reply reply.Ok) (Some 3)
          ∷ Answered 15 B (call.Write (codes "a" ∷ []) 4 (codes "ca")) (answer.Reply reply.Ok) (Some 4)
          ∷ Answered 16 B (call.Write (codes "a" ∷ []) 4 (codes "y")) (answer.Reply reply.Ok) (Some 5)
          ∷ Waits 17 A (call.Write (codes "a" ∷ []) 3 (codes "c")) ∷ Durable B (2 ∷ 3 ∷ 4 ∷ 5 ∷ [])
          ∷ Answered 17 A (call.Write (codes "a" ∷ []) 3 (codes "c")) (answer.Reply reply.Ok) (Some 5)
          ∷ Answered 18 A (call.Rename (codes "e" ∷ codes "a" ∷ []) (codes "a" ∷ [])) (answer.Reply (reply.Refused (no.NotFound 1))) None
          ∷ Waits 19 B (call.Rename (codes "a" ∷ []) (codes "a" ∷ [])) ∷ Durable A (5 ∷ [])
          ∷ Answered 19 B (call.Rename (codes "a" ∷ []) (codes "a" ∷ [])) (answer.Reply reply.Ok) None ∷ Nothing
          ∷ Answered 21 A (call.Create (codes "d" ∷ codes "a" ∷ [])) (answer.Reply (reply.Refused no.Exists)) None
          ∷ Answered 22 B (call.Create (codes "e" ∷ codes "a" ∷ [])) (answer.Reply (reply.Refused (no.NotFound 1))) None
          ∷ Answered 23 A (call.Read (codes "d" ∷ codes "a" ∷ []) 0 0) (answer.Reply (reply.Data [])) None
          ∷ Answered 24 B (call.Rmdir (codes "d" ∷ [])) (answer.Reply (reply.Refused no.NotEmpty)) None
          ∷ Answered 25 A (call.Rmdir (codes "d" ∷ [])) (answer.Reply (reply.Refused no.NotEmpty)) None
          ∷ Answered 26 B (call.Create (codes "e" ∷ codes "a" ∷ [])) (answer.Reply (reply.Refused (no.NotFound 1))) None
          ∷ Answered 27 B (call.Read (codes "e" ∷ codes "a" ∷ []) 1 64) (answer.Reply (reply.Refused (no.NotFound 1))) None
          ∷ Waits 28 B (call.Mkdir (codes "e" ∷ [])) ∷ Answered 28 B (call.Mkdir (codes "e" ∷ [])) (answer.Reply reply.Ok) (Some 6)
          ∷ Waits 29 B (call.Write (codes "d" ∷ codes "a" ∷ []) 2 (codes "bxx"))
          ∷ Answered 29 B (call.Write (codes "d" ∷ codes "a" ∷ []) 2 (codes "bxx")) (answer.Reply reply.Ok) (Some 7)
          ∷ Waits 30 A (call.Rename (codes "a" ∷ []) (codes "a" ∷ [])) ∷ Durable B (6 ∷ [])
          ∷ Answered 30 A (call.Rename (codes "a" ∷ []) (codes "a" ∷ [])) (answer.Reply reply.Ok) None
          ∷ Waits 31 B (call.Write (codes "a" ∷ []) 6 (codes "x"))
          ∷ Answered 31 B (call.Write (codes "a" ∷ []) 6 (codes "x")) (answer.Reply reply.Ok) (Some 8)
          ∷ Waits 32 B (call.Rename (codes "a" ∷ []) (codes "a2" ∷ []))
          ∷ Answered 32 B (call.Rename (codes "a" ∷ []) (codes "a2" ∷ [])) (answer.Reply reply.Ok) (Some 9) ∷ Nothing
          ∷ Answered 34 B (call.Create (codes "a" ∷ [])) (answer.Reply reply.Ok) (Some 10)
          ∷ Answered 35 B (call.Create (codes "e" ∷ codes "a" ∷ [])) (answer.Reply reply.Ok) (Some 11)
          ∷ Answered 36 B (call.Write (codes "e" ∷ codes "a" ∷ []) 1 (codes "zbxxz")) (answer.Reply reply.Ok) (Some 12)
          ∷ Waits 37 A (call.Create (codes "e" ∷ codes "a" ∷ [])) ∷ Durable B (8 ∷ 9 ∷ 10 ∷ []) ∷ Durable B (11 ∷ [])
          ∷ Answered 37 A (call.Create (codes "e" ∷ codes "a" ∷ [])) (answer.Reply (reply.Refused no.Exists)) None
          ∷ Waits 38 A (call.Write (codes "d" ∷ codes "a" ∷ []) 2 (codes "az")) ∷ Durable B (7 ∷ [])
          ∷ Answered 38 A (call.Write (codes "d" ∷ codes "a" ∷ []) 2 (codes "az")) (answer.Reply reply.Ok) (Some 6)
          ∷ Answered 39 A (call.Write (codes "d" ∷ codes "a" ∷ []) 5 (codes "yz")) (answer.Reply reply.Ok) (Some 7)
          ∷ Answered 40 A (call.Write (codes "d" ∷ codes "a" ∷ []) 1 (codes "cc")) (answer.Reply reply.Ok) (Some 8) ∷ Durable A (6 ∷ 8 ∷ []) ∷ [];
      status = 0;
    }

abbrev pub plain_5 : Run
plain_5 =
    record {
      lines =
          reads (line.Call A (call.Mkdir (codes "d" ∷ []))) 9 ∷ reads (line.Call B (call.Create (codes "a" ∷ []))) 10
          ∷ reads (line.Call B (call.Write (codes "a" ∷ []) 0 (codes "abcdefgh"))) 14 ∷ reads (line.Call B (call.Create (codes "b" ∷ []))) 10
          ∷ reads (line.Call B (call.Write (codes "b" ∷ []) 0 (codes "abcdefgh"))) 14
          ∷ reads (line.Call B (call.Write (codes "b" ∷ []) 6 (codes "b"))) 14 ∷ reads (line.Call A (call.Create (codes "d" ∷ codes "a" ∷ []))) 10
          ∷ reads (line.Call A (call.Fsync (codes "b" ∷ []))) 9 ∷ reads (line.Call B (call.Write (codes "d" ∷ codes "a" ∷ []) 3 (codes "b"))) 16
          ∷ reads (line.Call A (call.Chmod (codes "d" ∷ codes "k" ∷ []) 4095)) 14
          ∷ reads (line.Call A (call.Rename (codes "d" ∷ codes "a" ∷ []) (codes "d" ∷ codes "a2" ∷ []))) 15 ∷ reads (line.Push A 3) 8
          ∷ reads (line.Call B (call.Remove (codes "d" ∷ codes "a2" ∷ []))) 10 ∷ reads (line.Call A (call.Rmdir (codes "d" ∷ []))) 9
          ∷ reads (line.Call B (call.Fsync (codes "a" ∷ []))) 9 ∷ reads (line.Call A (call.Forder ([] ∷ [] ∷ [] ∷ []))) 14
          ∷ reads (line.Call B (call.Create (codes "a" ∷ []))) 10 ∷ reads (line.Call B (call.Write (codes "a" ∷ []) 0 (codes "bz"))) 14
          ∷ reads (line.Call A (call.SetLen (codes "a" ∷ []) 0)) 13 ∷ reads (line.Call A (call.Write (codes "b" ∷ []) 1 (codes "zx"))) 14
          ∷ reads (line.Call A (call.List [])) 8 ∷ reads (line.Call B (call.Create (codes "d" ∷ codes "a" ∷ []))) 10
          ∷ reads (line.Call B (call.List [])) 8 ∷ reads (line.Call B call.Sync) 3
          ∷ reads (line.Call B (call.Rename (codes "d" ∷ []) (codes "d2" ∷ []))) 13 ∷ reads (line.Call B (call.Mkdir (codes "d" ∷ []))) 9
          ∷ reads (line.Call A (call.List (codes "d" ∷ []))) 8 ∷ reads (line.Call B (call.Read (codes "b" ∷ []) 1 2)) 13
          ∷ reads (line.Call A (call.Write (codes "d" ∷ codes "a" ∷ []) 0 (codes "c"))) 16
          ∷ reads (line.Call A (call.Write (codes "d" ∷ codes "a" ∷ []) 3 (codes "ac"))) 16 ∷ reads (line.Call A (call.List [])) 8
          ∷ reads (line.Call A (call.Create (codes "d" ∷ codes "e" ∷ codes "a" ∷ []))) 10 ∷ reads (line.Call B (call.Remove (codes "b" ∷ []))) 10
          ∷ reads (line.Call A (call.Mkdir (codes "d" ∷ codes "e" ∷ []))) 9 ∷ reads (line.Call B (call.Write (codes "a" ∷ []) 1 (codes "a"))) 14
          ∷ reads (line.Call B (call.Write (codes "a" ∷ []) 2 (codes "z"))) 14 ∷ reads (line.Call B (call.Chown (codes "d" ∷ codes "e" ∷ []) 4)) 14
          ∷ reads (line.Call B (call.Create (codes "d" ∷ codes "a" ∷ []))) 10 ∷ reads (line.Push A 8) 8
          ∷ reads (line.Call A (call.Write (codes "d" ∷ codes "a" ∷ []) 0 (codes "cbc"))) 16 ∷ [];
      fates = [];
      max_objects = 1024;
      shown =
          Waits 1 A (call.Mkdir (codes "d" ∷ [])) ∷ Answered 1 A (call.Mkdir (codes "d" ∷ [])) (answer.Reply reply.Ok) (Some 1)
          ∷ Waits 2 B (call.Create (codes "a" ∷ [])) ∷ Durable A (1 ∷ [])
          ∷ Answered 2 B (call.Create (codes "a" ∷ [])) (answer.Reply reply.Ok) (Some 1)
          ∷ Answered 3 B (call.Write (codes "a" ∷ []) 0 (codes "abcdefgh")) (answer.Reply reply.Ok) (Some 2)
          ∷ Answered 4 B (call.Create (codes "b" ∷ [])) (answer.Reply reply.Ok) (Some 3)
          ∷ Answered 5 B (call.Write (codes "b" ∷ []) 0 (codes "abcdefgh")) (answer.Reply reply.Ok) (Some 4)
          ∷ Answered 6 B (call.Write (codes "b" ∷ []) 6 (codes "b")) (answer.Reply reply.Ok) (Some 5)
          ∷ Waits 7 A (call.Create (codes "d" ∷ codes "a" ∷ [])) ∷ Durable B (1 ∷ 3 ∷ [])
          ∷ Answered 7 A (call.Create (codes "d" ∷ codes "a" ∷ [])) (answer.Reply reply.Ok) (Some 2) ∷ Waits 8 A (call.Fsync (codes "b" ∷ []))
          ∷ Durable B (4 ∷ 5 ∷ []) ∷ Answered 8 A (call.Fsync (codes "b" ∷ [])) (answer.Reply reply.Ok) None
          ∷ Waits 9 B (call.Write (codes "d" ∷ codes "a" ∷ []) 3 (codes "b")) ∷ Durable A (2 ∷ [])
          ∷ Answered 9 B (call.Write (codes "d" ∷ codes "a" ∷ []) 3 (codes "b")) (answer.Reply reply.Ok) (Some 6)
          ∷ Answered 10 A (call.Chmod (codes "d" ∷ codes "k" ∷ []) 4095) (answer.Reply (reply.Refused (no.NotFound 2))) None
          ∷ Waits 11 A (call.Rename (codes "d" ∷ codes "a" ∷ []) (codes "d" ∷ codes "a2" ∷ [])) ∷ Durable B (6 ∷ [])
          ∷ Answered 11 A (call.Rename (codes "d" ∷ codes "a" ∷ []) (codes "d" ∷ codes "a2" ∷ [])) (answer.Reply reply.Ok) (Some 3)
          ∷ Durable A (3 ∷ []) ∷ Waits 13 B (call.Remove (codes "d" ∷ codes "a2" ∷ []))
          ∷ Answered 13 B (call.Remove (codes "d" ∷ codes "a2" ∷ [])) (answer.Reply reply.Ok) (Some 7) ∷ Waits 14 A (call.Rmdir (codes "d" ∷ []))
          ∷ Durable B (7 ∷ []) ∷ Answered 14 A (call.Rmdir (codes "d" ∷ [])) (answer.Reply reply.Ok) (Some 4)
          ∷ Waits 15 B (call.Fsync (codes "a" ∷ [])) ∷ Durable A (4 ∷ []) ∷ Durable B (2 ∷ [])
          ∷ Answered 15 B (call.Fsync (codes "a" ∷ [])) (answer.Reply reply.Ok) None ∷ Waits 16 A (call.Forder ([] ∷ [] ∷ [] ∷ []))
          ∷ Answered 16 A (call.Forder ([] ∷ [] ∷ [] ∷ [])) (answer.Reply reply.Ok) (Some 5) ∷ Waits 17 B (call.Create (codes "a" ∷ []))
          ∷ Durable A (5 ∷ []) ∷ Answered 17 B (call.Create (codes "a" ∷ [])) (answer.Reply (reply.Refused no.Exists)) None
          ∷ Answered 18 B (call.Write (codes "a" ∷ []) 0 (codes "bz")) (answer.Reply reply.Ok) (Some 8) ∷ Waits 19 A (call.SetLen (codes "a" ∷ []) 0)
          ∷ Durable B (8 ∷ []) ∷ Answered 19 A (call.SetLen (codes "a" ∷ []) 0) (answer.Reply reply.Ok) (Some 6)
          ∷ Waits 20 A (call.Write (codes "b" ∷ []) 1 (codes "zx"))
          ∷ Answered 20 A (call.Write (codes "b" ∷ []) 1 (codes "zx")) (answer.Reply reply.Ok) (Some 7)
          ∷ Answered 21 A (call.List []) (answer.Reply (reply.Names (codes "a" ∷ codes "b" ∷ []))) None
          ∷ Answered 22 B (call.Create (codes "d" ∷ codes "a" ∷ [])) (answer.Reply (reply.Refused (no.NotFound 1))) None
          ∷ Answered 23 B (call.List []) (answer.Reply (reply.Names (codes "a" ∷ codes "b" ∷ []))) None
          ∷ Answered 24 B call.Sync (answer.Reply reply.Ok) None
          ∷ Answered 25 B (call.Rename (codes "d" ∷ []) (codes "d2" ∷ [])) (answer.Reply (reply.Refused (no.NotFound 1))) None
          ∷ Waits 26 B (call.Mkdir (codes "d" ∷ [])) ∷ Answered 26 B (call.Mkdir (codes "d" ∷ [])) (answer.Reply reply.Ok) (Some 9)
          ∷ Waits 27 A (call.List (codes "d" ∷ [])) ∷ Durable B (9 ∷ [])
          ∷ Answered 27 A (call.List (codes "d" ∷ [])) (answer.Reply (reply.Names [])) None ∷ Waits 28 B (call.Read (codes "b" ∷ []) 1 2)
          ∷ Durable A (7 ∷ []) ∷ Answered 28 B (call.Read (codes "b" ∷ []) 1 2) (answer.Reply (reply.Data (codes "zx"))) None
          ∷ Answered 29 A (call.Write (codes "d" ∷ codes "a" ∷ []) 0 (codes "c")) (answer.Reply (reply.Refused (no.NotFound 2))) None
          ∷ Answered 30 A (call.Write (codes "d" ∷ codes "a" ∷ []) 3 (codes "ac")) (answer.Reply (reply.Refused (no.NotFound 2))) None
          ∷ Answered 31 A (call.List []) (answer.Reply (reply.Names (codes "a" ∷ codes "b" ∷ codes "d" ∷ []))) None
          ∷ Answered 32 A (call.Create (codes "d" ∷ codes "e" ∷ codes "a" ∷ [])) (answer.Reply (reply.Refused (no.NotFound 2))) None
          ∷ Waits 33 B (call.Remove (codes "b" ∷ [])) ∷ Answered 33 B (call.Remove (codes "b" ∷ [])) (answer.Reply reply.Ok) (Some 10)
          ∷ Waits 34 A (call.Mkdir (codes "d" ∷ codes "e" ∷ [])) ∷ Durable B (10 ∷ [])
          ∷ Answered 34 A (call.Mkdir (codes "d" ∷ codes "e" ∷ [])) (answer.Reply reply.Ok) (Some 8)
          ∷ Waits 35 B (call.Write (codes "a" ∷ []) 1 (codes "a")) ∷ Durable A (6 ∷ [])
          ∷ Answered 35 B (call.Write (codes "a" ∷ []) 1 (codes "a")) (answer.Reply reply.Ok) (Some 11)
          ∷ Answered 36 B (call.Write (codes "a" ∷ []) 2 (codes "z")) (answer.Reply reply.Ok) (Some 12)
          ∷ Waits 37 B (call.Chown (codes "d" ∷ codes "e" ∷ []) 4) ∷ Durable A (8 ∷ [])
          ∷ Answered 37 B (call.Chown (codes "d" ∷ codes "e" ∷ []) 4) (answer.Reply reply.Ok) (Some 13)
          ∷ Waits 38 B (call.Create (codes "d" ∷ codes "a" ∷ []))
          ∷ Answered 38 B (call.Create (codes "d" ∷ codes "a" ∷ [])) (answer.Reply reply.Ok) (Some 14) ∷ Nothing
          ∷ Waits 40 A (call.Write (codes "d" ∷ codes "a" ∷ []) 0 (codes "cbc")) ∷ Durable B (14 ∷ [])
          ∷ Answered 40 A (call.Write (codes "d" ∷ codes "a" ∷ []) 0 (codes "cbc")) (answer.Reply reply.Ok) (Some 9) ∷ [];
      status = 0;
    }

abbrev pub plain_6 : Run
plain_6 =
    record {
      lines =
          reads (line.Call A (call.Mkdir (codes "d" ∷ []))) 9 ∷ reads (line.Call A (call.Create (codes "a" ∷ []))) 10
          ∷ reads (line.Call A (call.Write (codes "a" ∷ []) 0 (codes "abcdefgh"))) 14 ∷ reads (line.Call A (call.Create (codes "b" ∷ []))) 10
          ∷ reads (line.Call A (call.Write (codes "b" ∷ []) 0 (codes "abcdefgh"))) 14 ∷ reads (line.Call A call.Sync) 3
          ∷ reads (line.Call A (call.List [])) 8 ∷ reads (line.Call A (call.Mkdir (codes "d" ∷ codes "k" ∷ []))) 9 ∷ reads (line.Push A 4) 8
          ∷ reads (line.Call A (call.Stat [])) 8 ∷ reads (line.Call A (call.Write (codes "a" ∷ []) 0 (codes "yx"))) 14
          ∷ reads (line.Call A (call.Write (codes "a" ∷ []) 4 (codes "c"))) 14 ∷ reads (line.Call A (call.Create (codes "d" ∷ codes "b" ∷ []))) 10
          ∷ reads (line.Call A (call.Mkdir (codes "e" ∷ []))) 9 ∷ reads (line.Call A (call.Write (codes "a" ∷ []) 1 (codes "cc"))) 14
          ∷ reads (line.Call A (call.Forder ([] ∷ (codes "d" ∷ codes "k" ∷ []) ∷ []))) 12 ∷ reads (line.Call A (call.Chown [] 0)) 11
          ∷ reads (line.Call A (call.Fsync (codes "b" ∷ []))) 9 ∷ reads (line.Call A (call.Stat (codes "a" ∷ []))) 8
          ∷ reads (line.Call A (call.Remove (codes "b" ∷ []))) 10 ∷ reads (line.Call A (call.Rename (codes "d" ∷ codes "k" ∷ []) (codes "d" ∷ []))) 15
          ∷ reads (line.Call A (call.Read (codes "a" ∷ []) 3 64)) 13 ∷ reads (line.Push A 13) 8
          ∷ reads (line.Call A (call.Chown (codes "d" ∷ []) 4)) 12 ∷ reads (line.Call A (call.Read (codes "a" ∷ []) 0 0)) 13
          ∷ reads (line.Call A (call.Mkdir (codes "d" ∷ codes "e" ∷ []))) 9 ∷ reads (line.Call A (call.Read (codes "a" ∷ []) 0 64)) 13
          ∷ reads (line.Call A (call.Rename (codes "d" ∷ codes "e" ∷ []) (codes "d" ∷ codes "k" ∷ []))) 15
          ∷ reads (line.Call A (call.Stat (codes "a" ∷ []))) 8 ∷ reads (line.Call A (call.Read (codes "a" ∷ []) 3 9)) 13
          ∷ reads (line.Call A (call.Forder ((codes "a" ∷ []) ∷ [] ∷ []))) 13
          ∷ reads (line.Call A (call.Rename (codes "a" ∷ []) (codes "d" ∷ codes "a" ∷ []))) 13
          ∷ reads (line.Call A (call.Stat (codes "d" ∷ codes "a" ∷ []))) 8 ∷ reads (line.Call A (call.Read (codes "d" ∷ codes "b" ∷ []) 3 9)) 15
          ∷ reads (line.Call A (call.List [])) 8 ∷ reads (line.Call A (call.Create (codes "e" ∷ codes "a" ∷ []))) 10
          ∷ reads (line.Call A (call.Remove (codes "d" ∷ codes "a" ∷ []))) 10 ∷ reads (line.Call A (call.Fsync (codes "e" ∷ codes "a" ∷ []))) 9
          ∷ reads (line.Call A (call.Touch (codes "d" ∷ codes "b" ∷ []) 2)) 14
          ∷ reads (line.Call A (call.Create (codes "d" ∷ codes "e" ∷ codes "a" ∷ []))) 10 ∷ [];
      fates = [];
      max_objects = 1024;
      shown =
          Waits 1 A (call.Mkdir (codes "d" ∷ [])) ∷ Answered 1 A (call.Mkdir (codes "d" ∷ [])) (answer.Reply reply.Ok) (Some 1)
          ∷ Answered 2 A (call.Create (codes "a" ∷ [])) (answer.Reply reply.Ok) (Some 2)
          ∷ Answered 3 A (call.Write (codes "a" ∷ []) 0 (codes "abcdefgh")) (answer.Reply reply.Ok) (Some 3)
          ∷ Answered 4 A (call.Create (codes "b" ∷ [])) (answer.Reply reply.Ok) (Some 4)
          ∷ Answered 5 A (call.Write (codes "b" ∷ []) 0 (codes "abcdefgh")) (answer.Reply reply.Ok) (Some 5) ∷ Waits 6 A call.Sync
          ∷ Durable A (1 ∷ 2 ∷ 3 ∷ 4 ∷ 5 ∷ []) ∷ Answered 6 A call.Sync (answer.Reply reply.Ok) None
          ∷ Answered 7 A (call.List []) (answer.Reply (reply.Names (codes "a" ∷ codes "b" ∷ codes "d" ∷ []))) None
          ∷ Answered 8 A (call.Mkdir (codes "d" ∷ codes "k" ∷ [])) (answer.Reply reply.Ok) (Some 6) ∷ Nothing
          ∷ Answered 10 A (call.Stat []) (answer.Reply (reply.Stat kind.Dir 493 0 0 3)) None
          ∷ Answered 11 A (call.Write (codes "a" ∷ []) 0 (codes "yx")) (answer.Reply reply.Ok) (Some 7)
          ∷ Answered 12 A (call.Write (codes "a" ∷ []) 4 (codes "c")) (answer.Reply reply.Ok) (Some 8)
          ∷ Answered 13 A (call.Create (codes "d" ∷ codes "b" ∷ [])) (answer.Reply reply.Ok) (Some 9)
          ∷ Answered 14 A (call.Mkdir (codes "e" ∷ [])) (answer.Reply reply.Ok) (Some 10)
          ∷ Answered 15 A (call.Write (codes "a" ∷ []) 1 (codes "cc")) (answer.Reply reply.Ok) (Some 11)
          ∷ Answered 16 A (call.Forder ([] ∷ (codes "d" ∷ codes "k" ∷ []) ∷ [])) (answer.Reply reply.Ok) (Some 12)
          ∷ Answered 17 A (call.Chown [] 0) (answer.Reply reply.Ok) (Some 13)
          ∷ Answered 18 A (call.Fsync (codes "b" ∷ [])) (answer.Reply reply.Ok) None
          ∷ Answered 19 A (call.Stat (codes "a" ∷ [])) (answer.Reply (reply.Stat kind.File 420 0 0 8)) None
          ∷ Answered 20 A (call.Remove (codes "b" ∷ [])) (answer.Reply reply.Ok) (Some 14)
          ∷ Answered 21 A (call.Rename (codes "d" ∷ codes "k" ∷ []) (codes "d" ∷ [])) (answer.Reply (reply.Refused no.NotEmpty)) None
          ∷ Answered 22 A (call.Read (codes "a" ∷ []) 3 64) (answer.Reply (reply.Data (codes "dcfgh"))) None ∷ Durable A (6 ∷ 10 ∷ 12 ∷ 13 ∷ [])
          ∷ Answered 24 A (call.Chown (codes "d" ∷ []) 4) (answer.Reply reply.Ok) (Some 15)
          ∷ Answered 25 A (call.Read (codes "a" ∷ []) 0 0) (answer.Reply (reply.Data [])) None
          ∷ Answered 26 A (call.Mkdir (codes "d" ∷ codes "e" ∷ [])) (answer.Reply reply.Ok) (Some 16)
          ∷ Answered 27 A (call.Read (codes "a" ∷ []) 0 64) (answer.Reply (reply.Data (codes "yccdcfgh"))) None
          ∷ Answered 28 A (call.Rename (codes "d" ∷ codes "e" ∷ []) (codes "d" ∷ codes "k" ∷ [])) (answer.Reply reply.Ok) (Some 17)
          ∷ Answered 29 A (call.Stat (codes "a" ∷ [])) (answer.Reply (reply.Stat kind.File 420 0 0 8)) None
          ∷ Answered 30 A (call.Read (codes "a" ∷ []) 3 9) (answer.Reply (reply.Data (codes "dcfgh"))) None
          ∷ Answered 31 A (call.Forder ((codes "a" ∷ []) ∷ [] ∷ [])) (answer.Reply reply.Ok) (Some 18)
          ∷ Answered 32 A (call.Rename (codes "a" ∷ []) (codes "d" ∷ codes "a" ∷ [])) (answer.Reply reply.Ok) (Some 19)
          ∷ Answered 33 A (call.Stat (codes "d" ∷ codes "a" ∷ [])) (answer.Reply (reply.Stat kind.File 420 0 0 8)) None
          ∷ Answered 34 A (call.Read (codes "d" ∷ codes "b" ∷ []) 3 9) (answer.Reply (reply.Data [])) None
          ∷ Answered 35 A (call.List []) (answer.Reply (reply.Names (codes "d" ∷ codes "e" ∷ []))) None
          ∷ Answered 36 A (call.Create (codes "e" ∷ codes "a" ∷ [])) (answer.Reply reply.Ok) (Some 20)
          ∷ Answered 37 A (call.Remove (codes "d" ∷ codes "a" ∷ [])) (answer.Reply reply.Ok) (Some 21)
          ∷ Waits 38 A (call.Fsync (codes "e" ∷ codes "a" ∷ [])) ∷ Durable A (20 ∷ [])
          ∷ Answered 38 A (call.Fsync (codes "e" ∷ codes "a" ∷ [])) (answer.Reply reply.Ok) None
          ∷ Answered 39 A (call.Touch (codes "d" ∷ codes "b" ∷ []) 2) (answer.Reply reply.Ok) (Some 22)
          ∷ Answered 40 A (call.Create (codes "d" ∷ codes "e" ∷ codes "a" ∷ [])) (answer.Reply (reply.Refused (no.NotFound 2))) None ∷ [];
      status = 0;
    }

abbrev pub plain_7 : Run
plain_7 =
    record {
      lines =
          reads (line.Call B (call.Mkdir (codes "d" ∷ []))) 9 ∷ reads (line.Call A (call.Create (codes "a" ∷ []))) 10
          ∷ reads (line.Call B (call.Create (codes "d" ∷ codes "a" ∷ []))) 10 ∷ reads (line.Call C (call.Create (codes "e" ∷ codes "a" ∷ []))) 10
          ∷ reads (line.Call A call.Sync) 3 ∷ reads (line.Call B call.Sync) 3 ∷ reads (line.Call C call.Sync) 3
          ∷ reads (line.Call B (call.Read (codes "a" ∷ []) 0 9)) 13 ∷ reads (line.Call A (call.List (codes "d" ∷ []))) 8
          ∷ reads (line.Call A (call.Create (codes "d" ∷ codes "a" ∷ []))) 10 ∷ reads (line.Call A (call.Stat (codes "d" ∷ codes "a" ∷ []))) 8
          ∷ reads (line.Call A (call.Remove (codes "d" ∷ codes "a" ∷ []))) 10 ∷ reads (line.Call C (call.Fsync [])) 9
          ∷ reads (line.Call C (call.Stat [])) 8 ∷ reads (line.Call C (call.Read (codes "a" ∷ []) 0 64)) 13
          ∷ reads (line.Call C (call.Write (codes "a" ∷ []) 0 (codes "bxz"))) 14 ∷ reads (line.Call B (call.Chmod (codes "d" ∷ []) 4095)) 12
          ∷ reads (line.Call B (call.Mkdir (codes "d" ∷ []))) 9 ∷ reads (line.Call B (call.Write (codes "a" ∷ []) 0 (codes "yxyzy"))) 14
          ∷ reads (line.Call C (call.Chmod [] 4095)) 11 ∷ reads (line.Call B (call.Write (codes "a" ∷ []) 6 (codes "ccz"))) 14
          ∷ reads (line.Call C (call.Touch [] 2)) 11 ∷ reads (line.Call B (call.Write (codes "a" ∷ []) 0 (codes "a"))) 14
          ∷ reads (line.Call B (call.Create (codes "d" ∷ codes "a" ∷ []))) 10 ∷ reads (line.Call B (call.Write (codes "a" ∷ []) 0 (codes "b"))) 14
          ∷ reads (line.Call A (call.Read (codes "a" ∷ []) 0 0)) 13 ∷ reads (line.Call A (call.SetLen (codes "e" ∷ codes "a" ∷ []) 1)) 15
          ∷ reads (line.Call C (call.Remove (codes "a" ∷ []))) 10
          ∷ reads (line.Call C (call.Rename (codes "d" ∷ codes "a" ∷ []) (codes "e" ∷ codes "a" ∷ []))) 15
          ∷ reads (line.Call C (call.Write (codes "d" ∷ codes "a" ∷ []) 3 (codes "a"))) 16
          ∷ reads (line.Call A (call.Write (codes "d" ∷ codes "a" ∷ []) 4 (codes "az"))) 16
          ∷ reads (line.Call B (call.Read (codes "d" ∷ codes "a" ∷ []) 1 64)) 15
          ∷ reads (line.Call C (call.Write (codes "d" ∷ codes "a" ∷ []) 1 (codes "b"))) 16
          ∷ reads (line.Call A (call.Write (codes "d" ∷ codes "a" ∷ []) 2 (codes "xcx"))) 16
          ∷ reads (line.Call C (call.Write (codes "d" ∷ codes "a" ∷ []) 4 (codes "xzyzx"))) 16
          ∷ reads (line.Call A (call.Remove (codes "d" ∷ codes "a" ∷ []))) 10 ∷ reads (line.Call C (call.Write (codes "a" ∷ []) 6 (codes "yy"))) 14
          ∷ reads (line.Call A (call.SetLen (codes "a" ∷ []) 0)) 13 ∷ reads (line.Call A (call.List [])) 8
          ∷ reads (line.Call A (call.Create (codes "d" ∷ codes "a" ∷ []))) 10 ∷ [];
      fates = [];
      max_objects = 1024;
      shown =
          Waits 1 B (call.Mkdir (codes "d" ∷ [])) ∷ Answered 1 B (call.Mkdir (codes "d" ∷ [])) (answer.Reply reply.Ok) (Some 1)
          ∷ Waits 2 A (call.Create (codes "a" ∷ [])) ∷ Durable B (1 ∷ [])
          ∷ Answered 2 A (call.Create (codes "a" ∷ [])) (answer.Reply reply.Ok) (Some 1) ∷ Waits 3 B (call.Create (codes "d" ∷ codes "a" ∷ []))
          ∷ Durable A (1 ∷ []) ∷ Answered 3 B (call.Create (codes "d" ∷ codes "a" ∷ [])) (answer.Reply reply.Ok) (Some 2)
          ∷ Waits 4 C (call.Create (codes "e" ∷ codes "a" ∷ []))
          ∷ Answered 4 C (call.Create (codes "e" ∷ codes "a" ∷ [])) (answer.Reply (reply.Refused (no.NotFound 1))) None
          ∷ Answered 5 A call.Sync (answer.Reply reply.Ok) None ∷ Waits 6 B call.Sync ∷ Durable B (2 ∷ [])
          ∷ Answered 6 B call.Sync (answer.Reply reply.Ok) None ∷ Answered 7 C call.Sync (answer.Reply reply.Ok) None
          ∷ Waits 8 B (call.Read (codes "a" ∷ []) 0 9) ∷ Answered 8 B (call.Read (codes "a" ∷ []) 0 9) (answer.Reply (reply.Data [])) None
          ∷ Waits 9 A (call.List (codes "d" ∷ [])) ∷ Answered 9 A (call.List (codes "d" ∷ [])) (answer.Reply (reply.Names (codes "a" ∷ []))) None
          ∷ Answered 10 A (call.Create (codes "d" ∷ codes "a" ∷ [])) (answer.Reply (reply.Refused no.Exists)) None
          ∷ Waits 11 A (call.Stat (codes "d" ∷ codes "a" ∷ []))
          ∷ Answered 11 A (call.Stat (codes "d" ∷ codes "a" ∷ [])) (answer.Reply (reply.Stat kind.File 420 0 0 0)) None
          ∷ Waits 12 A (call.Remove (codes "d" ∷ codes "a" ∷ []))
          ∷ Answered 12 A (call.Remove (codes "d" ∷ codes "a" ∷ [])) (answer.Reply reply.Ok) (Some 2)
          ∷ Answered 13 C (call.Fsync []) (answer.Reply reply.Ok) None
          ∷ Answered 14 C (call.Stat []) (answer.Reply (reply.Stat kind.Dir 493 0 0 2)) None ∷ Waits 15 C (call.Read (codes "a" ∷ []) 0 64)
          ∷ Answered 15 C (call.Read (codes "a" ∷ []) 0 64) (answer.Reply (reply.Data [])) None
          ∷ Waits 16 C (call.Write (codes "a" ∷ []) 0 (codes "bxz"))
          ∷ Answered 16 C (call.Write (codes "a" ∷ []) 0 (codes "bxz")) (answer.Reply reply.Ok) (Some 1)
          ∷ Waits 17 B (call.Chmod (codes "d" ∷ []) 4095) ∷ Durable A (2 ∷ [])
          ∷ Answered 17 B (call.Chmod (codes "d" ∷ []) 4095) (answer.Reply reply.Ok) (Some 3)
          ∷ Answered 18 B (call.Mkdir (codes "d" ∷ [])) (answer.Reply (reply.Refused no.Exists)) None
          ∷ Waits 19 B (call.Write (codes "a" ∷ []) 0 (codes "yxyzy")) ∷ Durable C (1 ∷ [])
          ∷ Answered 19 B (call.Write (codes "a" ∷ []) 0 (codes "yxyzy")) (answer.Reply reply.Ok) (Some 4) ∷ Waits 20 C (call.Chmod [] 4095)
          ∷ Answered 20 C (call.Chmod [] 4095) (answer.Reply reply.Ok) (Some 2) ∷ Waits 21 B (call.Write (codes "a" ∷ []) 6 (codes "ccz"))
          ∷ Durable C (2 ∷ []) ∷ Answered 21 B (call.Write (codes "a" ∷ []) 6 (codes "ccz")) (answer.Reply reply.Ok) (Some 5)
          ∷ Waits 22 C (call.Touch [] 2) ∷ Answered 22 C (call.Touch [] 2) (answer.Reply reply.Ok) (Some 3)
          ∷ Waits 23 B (call.Write (codes "a" ∷ []) 0 (codes "a")) ∷ Durable C (3 ∷ [])
          ∷ Answered 23 B (call.Write (codes "a" ∷ []) 0 (codes "a")) (answer.Reply reply.Ok) (Some 6)
          ∷ Answered 24 B (call.Create (codes "d" ∷ codes "a" ∷ [])) (answer.Reply reply.Ok) (Some 7)
          ∷ Answered 25 B (call.Write (codes "a" ∷ []) 0 (codes "b")) (answer.Reply reply.Ok) (Some 8) ∷ Waits 26 A (call.Read (codes "a" ∷ []) 0 0)
          ∷ Durable B (4 ∷ 5 ∷ 6 ∷ 8 ∷ []) ∷ Answered 26 A (call.Read (codes "a" ∷ []) 0 0) (answer.Reply (reply.Data [])) None
          ∷ Answered 27 A (call.SetLen (codes "e" ∷ codes "a" ∷ []) 1) (answer.Reply (reply.Refused (no.NotFound 1))) None
          ∷ Waits 28 C (call.Remove (codes "a" ∷ [])) ∷ Answered 28 C (call.Remove (codes "a" ∷ [])) (answer.Reply reply.Ok) (Some 4)
          ∷ Waits 29 C (call.Rename (codes "d" ∷ codes "a" ∷ []) (codes "e" ∷ codes "a" ∷ [])) ∷ Durable B (3 ∷ 7 ∷ [])
          ∷ Answered 29 C (call.Rename (codes "d" ∷ codes "a" ∷ []) (codes "e" ∷ codes "a" ∷ [])) (answer.Reply (reply.Refused (no.NotFound 1))) None
          ∷ Waits 30 C (call.Write (codes "d" ∷ codes "a" ∷ []) 3 (codes "a"))
          ∷ Answered 30 C (call.Write (codes "d" ∷ codes "a" ∷ []) 3 (codes "a")) (answer.Reply reply.Ok) (Some 5)
          ∷ Waits 31 A (call.Write (codes "d" ∷ codes "a" ∷ []) 4 (codes "az")) ∷ Durable C (4 ∷ []) ∷ Durable C (5 ∷ [])
          ∷ Answered 31 A (call.Write (codes "d" ∷ codes "a" ∷ []) 4 (codes "az")) (answer.Reply reply.Ok) (Some 3)
          ∷ Waits 32 B (call.Read (codes "d" ∷ codes "a" ∷ []) 1 64) ∷ Durable A (3 ∷ [])
          ∷ Answered 32 B (call.Read (codes "d" ∷ codes "a" ∷ []) 1 64) (answer.Reply (reply.Data (0 ∷ 0 ∷ 97 ∷ 97 ∷ 122 ∷ []))) None
          ∷ Waits 33 C (call.Write (codes "d" ∷ codes "a" ∷ []) 1 (codes "b"))
          ∷ Answered 33 C (call.Write (codes "d" ∷ codes "a" ∷ []) 1 (codes "b")) (answer.Reply reply.Ok) (Some 6)
          ∷ Waits 34 A (call.Write (codes "d" ∷ codes "a" ∷ []) 2 (codes "xcx")) ∷ Durable C (6 ∷ [])
          ∷ Answered 34 A (call.Write (codes "d" ∷ codes "a" ∷ []) 2 (codes "xcx")) (answer.Reply reply.Ok) (Some 4)
          ∷ Waits 35 C (call.Write (codes "d" ∷ codes "a" ∷ []) 4 (codes "xzyzx")) ∷ Durable A (4 ∷ [])
          ∷ Answered 35 C (call.Write (codes "d" ∷ codes "a" ∷ []) 4 (codes "xzyzx")) (answer.Reply reply.Ok) (Some 7)
          ∷ Waits 36 A (call.Remove (codes "d" ∷ codes "a" ∷ [])) ∷ Durable C (7 ∷ [])
          ∷ Answered 36 A (call.Remove (codes "d" ∷ codes "a" ∷ [])) (answer.Reply reply.Ok) (Some 5)
          ∷ Answered 37 C (call.Write (codes "a" ∷ []) 6 (codes "yy")) (answer.Reply (reply.Refused (no.NotFound 1))) None
          ∷ Answered 38 A (call.SetLen (codes "a" ∷ []) 0) (answer.Reply (reply.Refused (no.NotFound 1))) None
          ∷ Answered 39 A (call.List []) (answer.Reply (reply.Names (codes "d" ∷ []))) None
          ∷ Answered 40 A (call.Create (codes "d" ∷ codes "a" ∷ [])) (answer.Reply reply.Ok) (Some 6) ∷ [];
      status = 0;
    }
