-- Random scripts with no fault.
use Rattle.std.specs.Prelude.{[], ◌∷◌, None, Some, codes}
use Rattle.ec_volume.specs.declared.image.Kind.TheVariants as kind
use Rattle.ec_plain.specs.declared.call.Call.TheVariants as call
use Rattle.ec_plain.specs.declared.call.Reply.TheVariants as reply
use Rattle.ec_plain.specs.declared.call.Refusal.TheVariants as no
use Rattle.ec_history.specs.declared.entry.Answer.TheVariants as answer
use Rattle.ec_history.specs.declared.shown.Shown.TheVariants.{Waits, Answered, Durable, Nothing}
use Rattle.ec_protocol.specs.declared.script.Line.TheVariants as line
use Rattle.ec_protocol.specs.Drill.{reads}
use Rattle.ec_protocol.specs.Runs.{Run, A, B, C, D}

abbrev pub plain_16 : Run
plain_16 =
    record {
      lines =
          reads (line.Call A (call.Mkdir (codes "d" ∷ []))) 9 ∷ reads (line.Call A (call.Create (codes "a" ∷ []))) 10
          ∷ reads (line.Call A (call.Write (codes "a" ∷ []) 0 (codes "abcdefgh"))) 14 ∷ reads (line.Call A (call.Create (codes "b" ∷ []))) 10
          ∷ reads (line.Call A (call.Write (codes "b" ∷ []) 0 (codes "abcdefgh"))) 14
          ∷ reads (line.Call A (call.Create (codes "d" ∷ codes "a" ∷ []))) 10
          ∷ reads (line.Call A (call.Write (codes "d" ∷ codes "a" ∷ []) 0 (codes "abcdefgh"))) 16 ∷ reads (line.Call A call.Sync) 3
          ∷ reads (line.Call A (call.Touch (codes "d" ∷ codes "a" ∷ []) 4)) 14 ∷ reads (line.Push A 2) 8
          ∷ reads (line.Call A (call.Create (codes "d" ∷ codes "b" ∷ []))) 10
          ∷ reads (line.Call A (call.Forder ([] ∷ (codes "d" ∷ codes "a" ∷ []) ∷ []))) 12 ∷ reads (line.Call A (call.Touch (codes "d" ∷ []) 2)) 12
          ∷ reads (line.Call A (call.Touch [] 0)) 11 ∷ reads (line.Call A (call.Remove (codes "d" ∷ codes "b" ∷ []))) 10
          ∷ reads (line.Call A (call.Create (codes "d" ∷ codes "b" ∷ []))) 10
          ∷ reads (line.Call A (call.Forder ((codes "d" ∷ codes "e" ∷ codes "a" ∷ []) ∷ []))) 10
          ∷ reads (line.Call A (call.Read (codes "b" ∷ []) 0 9)) 13 ∷ reads (line.Call A (call.Read (codes "d" ∷ codes "b" ∷ []) 0 64)) 15
          ∷ reads (line.Call A (call.Rename (codes "a" ∷ []) (codes "b" ∷ []))) 13 ∷ reads (line.Call A (call.Fsync (codes "d" ∷ codes "b" ∷ []))) 9
          ∷ reads (line.Call A (call.Write (codes "d" ∷ codes "a" ∷ []) 5 (codes "y"))) 16
          ∷ reads (line.Call A (call.Write (codes "d" ∷ codes "a" ∷ []) 5 (codes "b"))) 16 ∷ reads (line.Push A 17) 8 ∷ reads (line.Push A 16) 8
          ∷ reads (line.Call A (call.Fsync (codes "b" ∷ []))) 9 ∷ reads (line.Call A (call.Write (codes "d" ∷ codes "b" ∷ []) 0 (codes "zb"))) 16
          ∷ reads (line.Call A (call.Write (codes "d" ∷ codes "b" ∷ []) 4 (codes "ba"))) 16 ∷ reads (line.Push A 18) 8
          ∷ reads (line.Call A (call.Write (codes "d" ∷ codes "b" ∷ []) 0 (codes "c"))) 16
          ∷ reads (line.Call A (call.Write (codes "d" ∷ codes "b" ∷ []) 0 (codes "zz"))) 16
          ∷ reads (line.Call A (call.Write (codes "d" ∷ codes "a" ∷ []) 0 (codes "y"))) 16
          ∷ reads (line.Call A (call.Write (codes "d" ∷ codes "b" ∷ []) 2 (codes "cyx"))) 16
          ∷ reads (line.Call A (call.Write (codes "b" ∷ []) 4 (codes "ba"))) 14 ∷ reads (line.Call A (call.Write (codes "b" ∷ []) 0 (codes "z"))) 14
          ∷ reads (line.Call A (call.Write (codes "b" ∷ []) 0 (codes "ba"))) 14 ∷ reads (line.Push A 26) 8
          ∷ reads (line.Call A (call.Read (codes "d" ∷ codes "b" ∷ []) 0 9)) 15
          ∷ reads (line.Call A (call.Forder ((codes "d" ∷ codes "b" ∷ []) ∷ (codes "d" ∷ []) ∷ []))) 15
          ∷ reads (line.Call A (call.Forder ((codes "d" ∷ []) ∷ [] ∷ (codes "d" ∷ []) ∷ []))) 15
          ∷ reads (line.Call A (call.Write (codes "d" ∷ codes "a" ∷ []) 2 (codes "ca"))) 16
          ∷ reads (line.Call A (call.Write (codes "d" ∷ codes "a" ∷ []) 3 (codes "x"))) 16 ∷ reads (line.Call A (call.Stat (codes "b" ∷ []))) 8
          ∷ reads (line.Push A 30) 8 ∷ reads (line.Call A (call.Create (codes "a" ∷ []))) 10 ∷ reads (line.Call A (call.List (codes "d" ∷ []))) 8
          ∷ reads (line.Call A call.Sync) 3 ∷ reads (line.Call A (call.Stat (codes "a" ∷ []))) 8
          ∷ reads (line.Call A (call.Write (codes "d" ∷ codes "a" ∷ []) 0 (codes "xaacy"))) 16
          ∷ reads (line.Call A (call.Write (codes "b" ∷ []) 2 (codes "z"))) 14 ∷ reads (line.Call A (call.Create (codes "b" ∷ []))) 10
          ∷ reads (line.Call A (call.Stat (codes "d" ∷ codes "a" ∷ []))) 8
          ∷ reads (line.Call A (call.Forder ((codes "b" ∷ []) ∷ (codes "d" ∷ []) ∷ (codes "b" ∷ []) ∷ []))) 16
          ∷ reads (line.Call A (call.Fsync (codes "a" ∷ []))) 9 ∷ reads (line.Call A (call.Chmod (codes "d" ∷ []) 384)) 12 ∷ reads (line.Push A 35) 8
          ∷ reads (line.Call A call.Sync) 3 ∷ reads (line.Call A (call.Write (codes "a" ∷ []) 3 (codes "b"))) 14
          ∷ reads (line.Call A (call.Write (codes "a" ∷ []) 0 (codes "x"))) 14 ∷ reads (line.Push A 37) 8 ∷ [];
      fates = [];
      max_objects = 1024;
      shown =
          Waits 1 A (call.Mkdir (codes "d" ∷ [])) ∷ Answered 1 A (call.Mkdir (codes "d" ∷ [])) (answer.Reply reply.Ok) (Some 1)
          ∷ Answered 2 A (call.Create (codes "a" ∷ [])) (answer.Reply reply.Ok) (Some 2)
          ∷ Answered 3 A (call.Write (codes "a" ∷ []) 0 (codes "abcdefgh")) (answer.Reply reply.Ok) (Some 3)
          ∷ Answered 4 A (call.Create (codes "b" ∷ [])) (answer.Reply reply.Ok) (Some 4)
          ∷ Answered 5 A (call.Write (codes "b" ∷ []) 0 (codes "abcdefgh")) (answer.Reply reply.Ok) (Some 5)
          ∷ Answered 6 A (call.Create (codes "d" ∷ codes "a" ∷ [])) (answer.Reply reply.Ok) (Some 6)
          ∷ Answered 7 A (call.Write (codes "d" ∷ codes "a" ∷ []) 0 (codes "abcdefgh")) (answer.Reply reply.Ok) (Some 7) ∷ Waits 8 A call.Sync
          ∷ Durable A (1 ∷ 2 ∷ 3 ∷ 4 ∷ 5 ∷ 6 ∷ 7 ∷ []) ∷ Answered 8 A call.Sync (answer.Reply reply.Ok) None
          ∷ Answered 9 A (call.Touch (codes "d" ∷ codes "a" ∷ []) 4) (answer.Reply reply.Ok) (Some 8) ∷ Nothing
          ∷ Answered 11 A (call.Create (codes "d" ∷ codes "b" ∷ [])) (answer.Reply reply.Ok) (Some 9)
          ∷ Answered 12 A (call.Forder ([] ∷ (codes "d" ∷ codes "a" ∷ []) ∷ [])) (answer.Reply reply.Ok) (Some 10)
          ∷ Answered 13 A (call.Touch (codes "d" ∷ []) 2) (answer.Reply reply.Ok) (Some 11)
          ∷ Answered 14 A (call.Touch [] 0) (answer.Reply reply.Ok) (Some 12)
          ∷ Answered 15 A (call.Remove (codes "d" ∷ codes "b" ∷ [])) (answer.Reply reply.Ok) (Some 13)
          ∷ Answered 16 A (call.Create (codes "d" ∷ codes "b" ∷ [])) (answer.Reply reply.Ok) (Some 14)
          ∷ Answered 17 A (call.Forder ((codes "d" ∷ codes "e" ∷ codes "a" ∷ []) ∷ [])) (answer.Reply (reply.Refused (no.NotFound 2))) None
          ∷ Answered 18 A (call.Read (codes "b" ∷ []) 0 9) (answer.Reply (reply.Data (codes "abcdefgh"))) None
          ∷ Answered 19 A (call.Read (codes "d" ∷ codes "b" ∷ []) 0 64) (answer.Reply (reply.Data [])) None
          ∷ Answered 20 A (call.Rename (codes "a" ∷ []) (codes "b" ∷ [])) (answer.Reply reply.Ok) (Some 15)
          ∷ Waits 21 A (call.Fsync (codes "d" ∷ codes "b" ∷ [])) ∷ Durable A (9 ∷ 11 ∷ 13 ∷ 14 ∷ [])
          ∷ Answered 21 A (call.Fsync (codes "d" ∷ codes "b" ∷ [])) (answer.Reply reply.Ok) None
          ∷ Answered 22 A (call.Write (codes "d" ∷ codes "a" ∷ []) 5 (codes "y")) (answer.Reply reply.Ok) (Some 16)
          ∷ Answered 23 A (call.Write (codes "d" ∷ codes "a" ∷ []) 5 (codes "b")) (answer.Reply reply.Ok) (Some 17)
          ∷ Durable A (8 ∷ 10 ∷ 16 ∷ 17 ∷ []) ∷ Nothing ∷ Waits 26 A (call.Fsync (codes "b" ∷ [])) ∷ Durable A (12 ∷ 15 ∷ [])
          ∷ Answered 26 A (call.Fsync (codes "b" ∷ [])) (answer.Reply reply.Ok) None
          ∷ Answered 27 A (call.Write (codes "d" ∷ codes "b" ∷ []) 0 (codes "zb")) (answer.Reply reply.Ok) (Some 18)
          ∷ Answered 28 A (call.Write (codes "d" ∷ codes "b" ∷ []) 4 (codes "ba")) (answer.Reply reply.Ok) (Some 19) ∷ Durable A (18 ∷ [])
          ∷ Answered 30 A (call.Write (codes "d" ∷ codes "b" ∷ []) 0 (codes "c")) (answer.Reply reply.Ok) (Some 20)
          ∷ Answered 31 A (call.Write (codes "d" ∷ codes "b" ∷ []) 0 (codes "zz")) (answer.Reply reply.Ok) (Some 21)
          ∷ Answered 32 A (call.Write (codes "d" ∷ codes "a" ∷ []) 0 (codes "y")) (answer.Reply reply.Ok) (Some 22)
          ∷ Answered 33 A (call.Write (codes "d" ∷ codes "b" ∷ []) 2 (codes "cyx")) (answer.Reply reply.Ok) (Some 23)
          ∷ Answered 34 A (call.Write (codes "b" ∷ []) 4 (codes "ba")) (answer.Reply reply.Ok) (Some 24)
          ∷ Answered 35 A (call.Write (codes "b" ∷ []) 0 (codes "z")) (answer.Reply reply.Ok) (Some 25)
          ∷ Answered 36 A (call.Write (codes "b" ∷ []) 0 (codes "ba")) (answer.Reply reply.Ok) (Some 26) ∷ Durable A (25 ∷ 26 ∷ [])
          ∷ Answered 38 A (call.Read (codes "d" ∷ codes "b" ∷ []) 0 9) (answer.Reply (reply.Data (codes "zzcyxa"))) None
          ∷ Answered 39 A (call.Forder ((codes "d" ∷ codes "b" ∷ []) ∷ (codes "d" ∷ []) ∷ [])) (answer.Reply reply.Ok) (Some 27)
          ∷ Answered 40 A (call.Forder ((codes "d" ∷ []) ∷ [] ∷ (codes "d" ∷ []) ∷ [])) (answer.Reply reply.Ok) (Some 28)
          ∷ Answered 41 A (call.Write (codes "d" ∷ codes "a" ∷ []) 2 (codes "ca")) (answer.Reply reply.Ok) (Some 29)
          ∷ Answered 42 A (call.Write (codes "d" ∷ codes "a" ∷ []) 3 (codes "x")) (answer.Reply reply.Ok) (Some 30)
          ∷ Answered 43 A (call.Stat (codes "b" ∷ [])) (answer.Reply (reply.Stat kind.File 420 0 0 8)) None ∷ Durable A (29 ∷ 30 ∷ [])
          ∷ Answered 45 A (call.Create (codes "a" ∷ [])) (answer.Reply reply.Ok) (Some 31)
          ∷ Answered 46 A (call.List (codes "d" ∷ [])) (answer.Reply (reply.Names (codes "a" ∷ codes "b" ∷ []))) None ∷ Waits 47 A call.Sync
          ∷ Durable A (19 ∷ 20 ∷ 21 ∷ 22 ∷ 23 ∷ 24 ∷ 27 ∷ 28 ∷ 31 ∷ []) ∷ Answered 47 A call.Sync (answer.Reply reply.Ok) None
          ∷ Answered 48 A (call.Stat (codes "a" ∷ [])) (answer.Reply (reply.Stat kind.File 420 0 0 0)) None
          ∷ Answered 49 A (call.Write (codes "d" ∷ codes "a" ∷ []) 0 (codes "xaacy")) (answer.Reply reply.Ok) (Some 32)
          ∷ Answered 50 A (call.Write (codes "b" ∷ []) 2 (codes "z")) (answer.Reply reply.Ok) (Some 33)
          ∷ Answered 51 A (call.Create (codes "b" ∷ [])) (answer.Reply (reply.Refused no.Exists)) None
          ∷ Answered 52 A (call.Stat (codes "d" ∷ codes "a" ∷ [])) (answer.Reply (reply.Stat kind.File 420 4 0 8)) None
          ∷ Answered 53 A (call.Forder ((codes "b" ∷ []) ∷ (codes "d" ∷ []) ∷ (codes "b" ∷ []) ∷ [])) (answer.Reply reply.Ok) (Some 34)
          ∷ Answered 54 A (call.Fsync (codes "a" ∷ [])) (answer.Reply reply.Ok) None
          ∷ Answered 55 A (call.Chmod (codes "d" ∷ []) 384) (answer.Reply reply.Ok) (Some 35) ∷ Durable A (33 ∷ 34 ∷ 35 ∷ []) ∷ Waits 57 A call.Sync
          ∷ Durable A (32 ∷ []) ∷ Answered 57 A call.Sync (answer.Reply reply.Ok) None
          ∷ Answered 58 A (call.Write (codes "a" ∷ []) 3 (codes "b")) (answer.Reply reply.Ok) (Some 36)
          ∷ Answered 59 A (call.Write (codes "a" ∷ []) 0 (codes "x")) (answer.Reply reply.Ok) (Some 37) ∷ Durable A (36 ∷ 37 ∷ []) ∷ [];
      status = 0;
    }

abbrev pub plain_17 : Run
plain_17 =
    record {
      lines =
          reads (line.Call C (call.Rmdir (codes "d" ∷ []))) 9 ∷ reads (line.Call D (call.Read (codes "d" ∷ codes "a" ∷ []) 0 0)) 15
          ∷ reads (line.Call B (call.SetLen (codes "e" ∷ codes "a" ∷ []) 2)) 15 ∷ reads (line.Call D call.Sync) 3
          ∷ reads (line.Call C (call.List (codes "e" ∷ []))) 8 ∷ reads (line.Call B (call.Create (codes "a" ∷ []))) 10 ∷ reads (line.Push B 1) 8
          ∷ reads (line.Call D (call.Rename (codes "d" ∷ []) (codes "e" ∷ codes "d" ∷ []))) 13 ∷ reads (line.Call A (call.Fsync (codes "e" ∷ []))) 9
          ∷ reads (line.Call A (call.Mkdir (codes "e" ∷ []))) 9 ∷ reads (line.Call A (call.Stat (codes "e" ∷ []))) 8 ∷ reads (line.Push A 1) 8
          ∷ reads (line.Call C (call.Create (codes "e" ∷ codes "a" ∷ []))) 10 ∷ reads (line.Push A 1) 8
          ∷ reads (line.Call D (call.Create (codes "e" ∷ codes "a" ∷ []))) 10
          ∷ reads (line.Call B (call.Write (codes "e" ∷ codes "a" ∷ []) 2 (codes "xzbxa"))) 16
          ∷ reads (line.Call B (call.Stat (codes "e" ∷ codes "a" ∷ []))) 8 ∷ reads (line.Call D (call.Mkdir (codes "d" ∷ []))) 9
          ∷ reads (line.Call B (call.Write (codes "e" ∷ codes "a" ∷ []) 5 (codes "cc"))) 16
          ∷ reads (line.Call B (call.Write (codes "e" ∷ codes "a" ∷ []) 1 (codes "xb"))) 16
          ∷ reads (line.Call B (call.Write (codes "a" ∷ []) 1 (codes "ycb"))) 14
          ∷ reads (line.Call A (call.Rename [] (codes "e" ∷ codes "a" ∷ []))) 12 ∷ reads (line.Call A (call.Rmdir (codes "e" ∷ []))) 9
          ∷ reads (line.Call A (call.Fsync (codes "a" ∷ []))) 9 ∷ reads (line.Call B (call.Rename (codes "a" ∷ []) (codes "a2" ∷ []))) 13
          ∷ reads (line.Call B (call.Create (codes "a" ∷ []))) 10 ∷ reads (line.Call B (call.Read (codes "a" ∷ []) 1 2)) 13
          ∷ reads (line.Call C (call.Write (codes "a" ∷ []) 3 (codes "c"))) 14 ∷ reads (line.Call C (call.Write (codes "a" ∷ []) 5 (codes "a"))) 14
          ∷ reads (line.Call C (call.Write (codes "a" ∷ []) 1 (codes "c"))) 14
          ∷ reads (line.Call D (call.Write (codes "a" ∷ []) 1 (codes "azcyz"))) 14 ∷ reads (line.Call B (call.Touch (codes "d" ∷ []) 5)) 12
          ∷ reads (line.Call C (call.Create (codes "d" ∷ codes "a" ∷ []))) 10 ∷ reads (line.Call B (call.SetLen (codes "a" ∷ []) 4)) 13
          ∷ reads (line.Call B (call.Write (codes "e" ∷ codes "a" ∷ []) 2 (codes "a"))) 16
          ∷ reads (line.Call B (call.Write (codes "e" ∷ codes "a" ∷ []) 0 (codes "xb"))) 16 ∷ reads (line.Push B 10) 8
          ∷ reads (line.Call C (call.Fsync (codes "d" ∷ []))) 9 ∷ reads (line.Call B (call.Stat [])) 8 ∷ reads (line.Push A 1) 8
          ∷ reads (line.Call C (call.Fsync (codes "e" ∷ codes "a" ∷ []))) 9 ∷ reads (line.Call D (call.Rmdir (codes "d" ∷ []))) 9
          ∷ reads (line.Call A (call.Read (codes "e" ∷ codes "a" ∷ []) 0 0)) 15 ∷ reads (line.Call D (call.Rmdir (codes "d" ∷ []))) 9
          ∷ reads (line.Call B (call.Rename (codes "a" ∷ []) (codes "e" ∷ codes "a" ∷ []))) 13
          ∷ reads (line.Call A (call.Rename (codes "d" ∷ codes "a" ∷ []) (codes "a" ∷ []))) 15 ∷ reads (line.Call D (call.Mkdir (codes "d" ∷ []))) 9
          ∷ reads (line.Call D (call.Remove (codes "a2" ∷ []))) 10 ∷ reads (line.Call C (call.Create (codes "d" ∷ codes "a" ∷ []))) 10
          ∷ reads (line.Call A (call.SetLen (codes "e" ∷ codes "a" ∷ []) 4)) 15
          ∷ reads (line.Call D (call.Create (codes "e" ∷ codes "a" ∷ codes "x" ∷ []))) 10 ∷ reads (line.Call B (call.Touch (codes "d" ∷ []) 7)) 12
          ∷ reads (line.Call C (call.Write (codes "e" ∷ codes "a" ∷ []) 6 (codes "cb"))) 16 ∷ reads (line.Push B 12) 8
          ∷ reads (line.Call B (call.Rename (codes "a" ∷ []) (codes "d" ∷ codes "a" ∷ []))) 13 ∷ reads (line.Call B (call.Create (codes "a" ∷ []))) 10
          ∷ reads (line.Call D (call.Write (codes "d" ∷ codes "a" ∷ []) 4 (codes "y"))) 16 ∷ reads (line.Call B (call.List (codes "e" ∷ []))) 8
          ∷ reads (line.Call C (call.Write (codes "e" ∷ codes "a" ∷ []) 5 (codes "x"))) 16
          ∷ reads (line.Call C (call.Write (codes "e" ∷ codes "a" ∷ []) 1 (codes "ca"))) 16 ∷ [];
      fates = [];
      max_objects = 1024;
      shown =
          Waits 1 C (call.Rmdir (codes "d" ∷ [])) ∷ Answered 1 C (call.Rmdir (codes "d" ∷ [])) (answer.Reply (reply.Refused (no.NotFound 1))) None
          ∷ Waits 2 D (call.Read (codes "d" ∷ codes "a" ∷ []) 0 0)
          ∷ Answered 2 D (call.Read (codes "d" ∷ codes "a" ∷ []) 0 0) (answer.Reply (reply.Refused (no.NotFound 1))) None
          ∷ Waits 3 B (call.SetLen (codes "e" ∷ codes "a" ∷ []) 2)
          ∷ Answered 3 B (call.SetLen (codes "e" ∷ codes "a" ∷ []) 2) (answer.Reply (reply.Refused (no.NotFound 1))) None
          ∷ Answered 4 D call.Sync (answer.Reply reply.Ok) None
          ∷ Answered 5 C (call.List (codes "e" ∷ [])) (answer.Reply (reply.Refused (no.NotFound 1))) None ∷ Waits 6 B (call.Create (codes "a" ∷ []))
          ∷ Answered 6 B (call.Create (codes "a" ∷ [])) (answer.Reply reply.Ok) (Some 1) ∷ Durable B (1 ∷ [])
          ∷ Waits 8 D (call.Rename (codes "d" ∷ []) (codes "e" ∷ codes "d" ∷ []))
          ∷ Answered 8 D (call.Rename (codes "d" ∷ []) (codes "e" ∷ codes "d" ∷ [])) (answer.Reply (reply.Refused (no.NotFound 1))) None
          ∷ Waits 9 A (call.Fsync (codes "e" ∷ [])) ∷ Answered 9 A (call.Fsync (codes "e" ∷ [])) (answer.Reply (reply.Refused (no.NotFound 1))) None
          ∷ Waits 10 A (call.Mkdir (codes "e" ∷ [])) ∷ Answered 10 A (call.Mkdir (codes "e" ∷ [])) (answer.Reply reply.Ok) (Some 1)
          ∷ Answered 11 A (call.Stat (codes "e" ∷ [])) (answer.Reply (reply.Stat kind.Dir 493 0 0 0)) None ∷ Durable A (1 ∷ [])
          ∷ Waits 13 C (call.Create (codes "e" ∷ codes "a" ∷ []))
          ∷ Answered 13 C (call.Create (codes "e" ∷ codes "a" ∷ [])) (answer.Reply reply.Ok) (Some 1) ∷ Nothing
          ∷ Waits 15 D (call.Create (codes "e" ∷ codes "a" ∷ [])) ∷ Durable C (1 ∷ [])
          ∷ Answered 15 D (call.Create (codes "e" ∷ codes "a" ∷ [])) (answer.Reply (reply.Refused no.Exists)) None
          ∷ Waits 16 B (call.Write (codes "e" ∷ codes "a" ∷ []) 2 (codes "xzbxa"))
          ∷ Answered 16 B (call.Write (codes "e" ∷ codes "a" ∷ []) 2 (codes "xzbxa")) (answer.Reply reply.Ok) (Some 2)
          ∷ Answered 17 B (call.Stat (codes "e" ∷ codes "a" ∷ [])) (answer.Reply (reply.Stat kind.File 420 0 0 7)) None
          ∷ Waits 18 D (call.Mkdir (codes "d" ∷ [])) ∷ Answered 18 D (call.Mkdir (codes "d" ∷ [])) (answer.Reply reply.Ok) (Some 1)
          ∷ Waits 19 B (call.Write (codes "e" ∷ codes "a" ∷ []) 5 (codes "cc")) ∷ Durable D (1 ∷ [])
          ∷ Answered 19 B (call.Write (codes "e" ∷ codes "a" ∷ []) 5 (codes "cc")) (answer.Reply reply.Ok) (Some 3)
          ∷ Answered 20 B (call.Write (codes "e" ∷ codes "a" ∷ []) 1 (codes "xb")) (answer.Reply reply.Ok) (Some 4)
          ∷ Answered 21 B (call.Write (codes "a" ∷ []) 1 (codes "ycb")) (answer.Reply reply.Ok) (Some 5)
          ∷ Answered 22 A (call.Rename [] (codes "e" ∷ codes "a" ∷ [])) (answer.Reply (reply.Refused no.Root)) None
          ∷ Waits 23 A (call.Rmdir (codes "e" ∷ [])) ∷ Answered 23 A (call.Rmdir (codes "e" ∷ [])) (answer.Reply (reply.Refused no.NotEmpty)) None
          ∷ Waits 24 A (call.Fsync (codes "a" ∷ [])) ∷ Durable B (5 ∷ []) ∷ Answered 24 A (call.Fsync (codes "a" ∷ [])) (answer.Reply reply.Ok) None
          ∷ Waits 25 B (call.Rename (codes "a" ∷ []) (codes "a2" ∷ []))
          ∷ Answered 25 B (call.Rename (codes "a" ∷ []) (codes "a2" ∷ [])) (answer.Reply reply.Ok) (Some 6)
          ∷ Answered 26 B (call.Create (codes "a" ∷ [])) (answer.Reply reply.Ok) (Some 7)
          ∷ Answered 27 B (call.Read (codes "a" ∷ []) 1 2) (answer.Reply (reply.Data [])) None
          ∷ Waits 28 C (call.Write (codes "a" ∷ []) 3 (codes "c")) ∷ Durable B (6 ∷ 7 ∷ [])
          ∷ Answered 28 C (call.Write (codes "a" ∷ []) 3 (codes "c")) (answer.Reply reply.Ok) (Some 2)
          ∷ Answered 29 C (call.Write (codes "a" ∷ []) 5 (codes "a")) (answer.Reply reply.Ok) (Some 3)
          ∷ Answered 30 C (call.Write (codes "a" ∷ []) 1 (codes "c")) (answer.Reply reply.Ok) (Some 4)
          ∷ Waits 31 D (call.Write (codes "a" ∷ []) 1 (codes "azcyz")) ∷ Durable C (2 ∷ 3 ∷ 4 ∷ [])
          ∷ Answered 31 D (call.Write (codes "a" ∷ []) 1 (codes "azcyz")) (answer.Reply reply.Ok) (Some 2)
          ∷ Waits 32 B (call.Touch (codes "d" ∷ []) 5) ∷ Answered 32 B (call.Touch (codes "d" ∷ []) 5) (answer.Reply reply.Ok) (Some 8)
          ∷ Waits 33 C (call.Create (codes "d" ∷ codes "a" ∷ [])) ∷ Durable B (8 ∷ [])
          ∷ Answered 33 C (call.Create (codes "d" ∷ codes "a" ∷ [])) (answer.Reply reply.Ok) (Some 5) ∷ Waits 34 B (call.SetLen (codes "a" ∷ []) 4)
          ∷ Durable D (2 ∷ []) ∷ Answered 34 B (call.SetLen (codes "a" ∷ []) 4) (answer.Reply reply.Ok) (Some 9)
          ∷ Answered 35 B (call.Write (codes "e" ∷ codes "a" ∷ []) 2 (codes "a")) (answer.Reply reply.Ok) (Some 10)
          ∷ Answered 36 B (call.Write (codes "e" ∷ codes "a" ∷ []) 0 (codes "xb")) (answer.Reply reply.Ok) (Some 11) ∷ Durable B (2 ∷ 4 ∷ 10 ∷ [])
          ∷ Waits 38 C (call.Fsync (codes "d" ∷ [])) ∷ Durable C (5 ∷ []) ∷ Answered 38 C (call.Fsync (codes "d" ∷ [])) (answer.Reply reply.Ok) None
          ∷ Answered 39 B (call.Stat []) (answer.Reply (reply.Stat kind.Dir 493 0 0 4)) None ∷ Nothing
          ∷ Waits 41 C (call.Fsync (codes "e" ∷ codes "a" ∷ [])) ∷ Durable B (3 ∷ 11 ∷ [])
          ∷ Answered 41 C (call.Fsync (codes "e" ∷ codes "a" ∷ [])) (answer.Reply reply.Ok) None ∷ Waits 42 D (call.Rmdir (codes "d" ∷ []))
          ∷ Answered 42 D (call.Rmdir (codes "d" ∷ [])) (answer.Reply (reply.Refused no.NotEmpty)) None
          ∷ Waits 43 A (call.Read (codes "e" ∷ codes "a" ∷ []) 0 0)
          ∷ Answered 43 A (call.Read (codes "e" ∷ codes "a" ∷ []) 0 0) (answer.Reply (reply.Data [])) None
          ∷ Answered 44 D (call.Rmdir (codes "d" ∷ [])) (answer.Reply (reply.Refused no.NotEmpty)) None
          ∷ Waits 45 B (call.Rename (codes "a" ∷ []) (codes "e" ∷ codes "a" ∷ []))
          ∷ Answered 45 B (call.Rename (codes "a" ∷ []) (codes "e" ∷ codes "a" ∷ [])) (answer.Reply reply.Ok) (Some 12)
          ∷ Waits 46 A (call.Rename (codes "d" ∷ codes "a" ∷ []) (codes "a" ∷ [])) ∷ Durable B (9 ∷ 12 ∷ [])
          ∷ Answered 46 A (call.Rename (codes "d" ∷ codes "a" ∷ []) (codes "a" ∷ [])) (answer.Reply reply.Ok) (Some 2)
          ∷ Waits 47 D (call.Mkdir (codes "d" ∷ [])) ∷ Durable A (2 ∷ [])
          ∷ Answered 47 D (call.Mkdir (codes "d" ∷ [])) (answer.Reply (reply.Refused no.Exists)) None ∷ Waits 48 D (call.Remove (codes "a2" ∷ []))
          ∷ Answered 48 D (call.Remove (codes "a2" ∷ [])) (answer.Reply reply.Ok) (Some 3) ∷ Waits 49 C (call.Create (codes "d" ∷ codes "a" ∷ []))
          ∷ Durable D (3 ∷ []) ∷ Answered 49 C (call.Create (codes "d" ∷ codes "a" ∷ [])) (answer.Reply reply.Ok) (Some 6)
          ∷ Waits 50 A (call.SetLen (codes "e" ∷ codes "a" ∷ []) 4)
          ∷ Answered 50 A (call.SetLen (codes "e" ∷ codes "a" ∷ []) 4) (answer.Reply reply.Ok) (Some 3)
          ∷ Waits 51 D (call.Create (codes "e" ∷ codes "a" ∷ codes "x" ∷ [])) ∷ Durable A (3 ∷ [])
          ∷ Answered 51 D (call.Create (codes "e" ∷ codes "a" ∷ codes "x" ∷ [])) (answer.Reply (reply.Refused (no.NotDir 2))) None
          ∷ Waits 52 B (call.Touch (codes "d" ∷ []) 7) ∷ Durable C (6 ∷ [])
          ∷ Answered 52 B (call.Touch (codes "d" ∷ []) 7) (answer.Reply reply.Ok) (Some 13)
          ∷ Waits 53 C (call.Write (codes "e" ∷ codes "a" ∷ []) 6 (codes "cb"))
          ∷ Answered 53 C (call.Write (codes "e" ∷ codes "a" ∷ []) 6 (codes "cb")) (answer.Reply reply.Ok) (Some 7) ∷ Nothing
          ∷ Waits 55 B (call.Rename (codes "a" ∷ []) (codes "d" ∷ codes "a" ∷ []))
          ∷ Answered 55 B (call.Rename (codes "a" ∷ []) (codes "d" ∷ codes "a" ∷ [])) (answer.Reply reply.Ok) (Some 14)
          ∷ Answered 56 B (call.Create (codes "a" ∷ [])) (answer.Reply reply.Ok) (Some 15)
          ∷ Waits 57 D (call.Write (codes "d" ∷ codes "a" ∷ []) 4 (codes "y")) ∷ Durable B (13 ∷ 14 ∷ 15 ∷ [])
          ∷ Answered 57 D (call.Write (codes "d" ∷ codes "a" ∷ []) 4 (codes "y")) (answer.Reply reply.Ok) (Some 4)
          ∷ Answered 58 B (call.List (codes "e" ∷ [])) (answer.Reply (reply.Names (codes "a" ∷ []))) None
          ∷ Waits 59 C (call.Write (codes "e" ∷ codes "a" ∷ []) 5 (codes "x"))
          ∷ Answered 59 C (call.Write (codes "e" ∷ codes "a" ∷ []) 5 (codes "x")) (answer.Reply reply.Ok) (Some 8)
          ∷ Answered 60 C (call.Write (codes "e" ∷ codes "a" ∷ []) 1 (codes "ca")) (answer.Reply reply.Ok) (Some 9) ∷ [];
      status = 0;
    }

abbrev pub plain_18 : Run
plain_18 =
    record {
      lines =
          reads (line.Call C (call.Mkdir (codes "d" ∷ []))) 9 ∷ reads (line.Call B (call.Create (codes "a" ∷ []))) 10
          ∷ reads (line.Call B (call.Write (codes "a" ∷ []) 0 (codes "abcdefgh"))) 14
          ∷ reads (line.Call A (call.Create (codes "d" ∷ codes "a" ∷ []))) 10 ∷ reads (line.Call A (call.Remove (codes "d" ∷ codes "a" ∷ []))) 10
          ∷ reads (line.Call B (call.Mkdir (codes "e" ∷ []))) 9 ∷ reads (line.Push B 2) 8 ∷ reads (line.Call B (call.Mkdir (codes "e" ∷ []))) 9
          ∷ reads (line.Call B (call.Remove (codes "a" ∷ []))) 10 ∷ reads (line.Call B (call.Write (codes "d" ∷ codes "a" ∷ []) 4 (codes "c"))) 16
          ∷ reads (line.Call B (call.SetLen (codes "e" ∷ codes "a" ∷ []) 1)) 15 ∷ reads (line.Call C (call.SetLen (codes "a" ∷ []) 2)) 13
          ∷ reads (line.Call B (call.Rmdir (codes "e" ∷ []))) 9 ∷ reads (line.Call A (call.Chown (codes "d" ∷ []) 8)) 12
          ∷ reads (line.Call C (call.Fsync (codes "d" ∷ codes "a" ∷ []))) 9
          ∷ reads (line.Call A (call.Write (codes "d" ∷ codes "a" ∷ []) 0 (codes "y"))) 16
          ∷ reads (line.Call B (call.Rename (codes "e" ∷ []) (codes "e2" ∷ []))) 13
          ∷ reads (line.Call A (call.Write (codes "d" ∷ codes "a" ∷ []) 0 (codes "accbx"))) 16
          ∷ reads (line.Call A (call.Fsync (codes "e" ∷ codes "a" ∷ []))) 9 ∷ reads (line.Call B (call.Write (codes "a" ∷ []) 5 (codes "cx"))) 14
          ∷ reads (line.Call B (call.Write (codes "a" ∷ []) 0 (codes "x"))) 14 ∷ reads (line.Call B (call.Write (codes "a" ∷ []) 3 (codes "cc"))) 14
          ∷ reads (line.Push B 5) 8 ∷ reads (line.Call C (call.Write (codes "d" ∷ codes "a" ∷ []) 0 (codes "y"))) 16
          ∷ reads (line.Call C (call.Write (codes "a" ∷ []) 4 (codes "yxb"))) 14 ∷ reads (line.Call B (call.Fsync (codes "e" ∷ codes "a" ∷ []))) 9
          ∷ reads (line.Call C (call.List (codes "d" ∷ []))) 8 ∷ reads (line.Call A (call.Stat (codes "d" ∷ []))) 8
          ∷ reads (line.Call A (call.Create (codes "d" ∷ codes "a" ∷ []))) 10 ∷ reads (line.Call B (call.Mkdir (codes "e" ∷ []))) 9
          ∷ reads (line.Call A (call.Write (codes "d" ∷ codes "a" ∷ []) 4 (codes "axb"))) 16 ∷ reads (line.Call C (call.Mkdir (codes "d" ∷ []))) 9
          ∷ reads (line.Call A (call.Create (codes "a" ∷ []))) 10 ∷ reads (line.Call A (call.Mkdir (codes "d" ∷ []))) 9
          ∷ reads (line.Call A (call.Fsync [])) 9 ∷ reads (line.Call A (call.Write (codes "d" ∷ codes "a" ∷ []) 5 (codes "a"))) 16
          ∷ reads (line.Call A (call.Write (codes "d" ∷ codes "a" ∷ []) 4 (codes "cx"))) 16 ∷ reads (line.Push A 8) 8
          ∷ reads (line.Call C (call.Write (codes "a" ∷ []) 0 (codes "x"))) 14 ∷ reads (line.Call A (call.Read (codes "a" ∷ []) 1 9)) 13
          ∷ reads (line.Call C (call.Create (codes "e" ∷ codes "a" ∷ []))) 10
          ∷ reads (line.Call C (call.Rename (codes "e" ∷ codes "a" ∷ []) (codes "d" ∷ codes "a" ∷ []))) 15
          ∷ reads (line.Call C (call.Rename (codes "d" ∷ codes "a" ∷ []) (codes "d" ∷ codes "a" ∷ []))) 15
          ∷ reads (line.Call A (call.Rename (codes "d" ∷ []) (codes "d" ∷ []))) 13
          ∷ reads (line.Call A (call.Chown (codes "d" ∷ codes "a" ∷ []) 4)) 14 ∷ reads (line.Call C (call.Fsync (codes "d" ∷ codes "a" ∷ []))) 9
          ∷ reads (line.Call B (call.Write (codes "a" ∷ []) 1 (codes "bc"))) 14 ∷ reads (line.Call B (call.Read (codes "d" ∷ codes "a" ∷ []) 0 0)) 15
          ∷ reads (line.Call B (call.Stat (codes "a" ∷ []))) 8 ∷ reads (line.Call C (call.Create (codes "e" ∷ codes "a" ∷ []))) 10
          ∷ reads (line.Call A (call.Mkdir (codes "d" ∷ []))) 9 ∷ reads (line.Call A (call.Create (codes "a" ∷ []))) 10
          ∷ reads (line.Call B (call.Create (codes "a" ∷ []))) 10 ∷ reads (line.Call B (call.List [])) 8
          ∷ reads (line.Call A (call.Write (codes "a" ∷ []) 0 (codes "ac"))) 14 ∷ reads (line.Call C (call.List (codes "e" ∷ []))) 8
          ∷ reads (line.Call C (call.List (codes "e" ∷ []))) 8 ∷ reads (line.Call A (call.Create (codes "a" ∷ []))) 10
          ∷ reads (line.Call C (call.Mkdir (codes "d" ∷ []))) 9 ∷ reads (line.Call A (call.Write (codes "d" ∷ codes "a" ∷ []) 3 (codes "ya"))) 16
          ∷ reads (line.Call A (call.Write (codes "d" ∷ codes "a" ∷ []) 2 (codes "bx"))) 16 ∷ reads (line.Push A 11) 8 ∷ [];
      fates = [];
      max_objects = 1024;
      shown =
          Waits 1 C (call.Mkdir (codes "d" ∷ [])) ∷ Answered 1 C (call.Mkdir (codes "d" ∷ [])) (answer.Reply reply.Ok) (Some 1)
          ∷ Waits 2 B (call.Create (codes "a" ∷ [])) ∷ Durable C (1 ∷ [])
          ∷ Answered 2 B (call.Create (codes "a" ∷ [])) (answer.Reply reply.Ok) (Some 1)
          ∷ Answered 3 B (call.Write (codes "a" ∷ []) 0 (codes "abcdefgh")) (answer.Reply reply.Ok) (Some 2)
          ∷ Waits 4 A (call.Create (codes "d" ∷ codes "a" ∷ [])) ∷ Durable B (1 ∷ [])
          ∷ Answered 4 A (call.Create (codes "d" ∷ codes "a" ∷ [])) (answer.Reply reply.Ok) (Some 1)
          ∷ Answered 5 A (call.Remove (codes "d" ∷ codes "a" ∷ [])) (answer.Reply reply.Ok) (Some 2) ∷ Waits 6 B (call.Mkdir (codes "e" ∷ []))
          ∷ Answered 6 B (call.Mkdir (codes "e" ∷ [])) (answer.Reply reply.Ok) (Some 3) ∷ Durable B (2 ∷ [])
          ∷ Answered 8 B (call.Mkdir (codes "e" ∷ [])) (answer.Reply (reply.Refused no.Exists)) None
          ∷ Answered 9 B (call.Remove (codes "a" ∷ [])) (answer.Reply reply.Ok) (Some 4)
          ∷ Waits 10 B (call.Write (codes "d" ∷ codes "a" ∷ []) 4 (codes "c")) ∷ Durable A (1 ∷ 2 ∷ [])
          ∷ Answered 10 B (call.Write (codes "d" ∷ codes "a" ∷ []) 4 (codes "c")) (answer.Reply (reply.Refused (no.NotFound 2))) None
          ∷ Answered 11 B (call.SetLen (codes "e" ∷ codes "a" ∷ []) 1) (answer.Reply (reply.Refused (no.NotFound 2))) None
          ∷ Waits 12 C (call.SetLen (codes "a" ∷ []) 2) ∷ Durable B (3 ∷ 4 ∷ [])
          ∷ Answered 12 C (call.SetLen (codes "a" ∷ []) 2) (answer.Reply (reply.Refused (no.NotFound 1))) None
          ∷ Waits 13 B (call.Rmdir (codes "e" ∷ [])) ∷ Answered 13 B (call.Rmdir (codes "e" ∷ [])) (answer.Reply reply.Ok) (Some 5)
          ∷ Waits 14 A (call.Chown (codes "d" ∷ []) 8) ∷ Durable B (5 ∷ [])
          ∷ Answered 14 A (call.Chown (codes "d" ∷ []) 8) (answer.Reply reply.Ok) (Some 3) ∷ Waits 15 C (call.Fsync (codes "d" ∷ codes "a" ∷ []))
          ∷ Durable A (3 ∷ []) ∷ Answered 15 C (call.Fsync (codes "d" ∷ codes "a" ∷ [])) (answer.Reply (reply.Refused (no.NotFound 2))) None
          ∷ Answered 16 A (call.Write (codes "d" ∷ codes "a" ∷ []) 0 (codes "y")) (answer.Reply (reply.Refused (no.NotFound 2))) None
          ∷ Answered 17 B (call.Rename (codes "e" ∷ []) (codes "e2" ∷ [])) (answer.Reply (reply.Refused (no.NotFound 1))) None
          ∷ Answered 18 A (call.Write (codes "d" ∷ codes "a" ∷ []) 0 (codes "accbx")) (answer.Reply (reply.Refused (no.NotFound 2))) None
          ∷ Answered 19 A (call.Fsync (codes "e" ∷ codes "a" ∷ [])) (answer.Reply (reply.Refused (no.NotFound 1))) None
          ∷ Answered 20 B (call.Write (codes "a" ∷ []) 5 (codes "cx")) (answer.Reply (reply.Refused (no.NotFound 1))) None
          ∷ Answered 21 B (call.Write (codes "a" ∷ []) 0 (codes "x")) (answer.Reply (reply.Refused (no.NotFound 1))) None
          ∷ Answered 22 B (call.Write (codes "a" ∷ []) 3 (codes "cc")) (answer.Reply (reply.Refused (no.NotFound 1))) None ∷ Nothing
          ∷ Answered 24 C (call.Write (codes "d" ∷ codes "a" ∷ []) 0 (codes "y")) (answer.Reply (reply.Refused (no.NotFound 2))) None
          ∷ Answered 25 C (call.Write (codes "a" ∷ []) 4 (codes "yxb")) (answer.Reply (reply.Refused (no.NotFound 1))) None
          ∷ Answered 26 B (call.Fsync (codes "e" ∷ codes "a" ∷ [])) (answer.Reply (reply.Refused (no.NotFound 1))) None
          ∷ Answered 27 C (call.List (codes "d" ∷ [])) (answer.Reply (reply.Names [])) None
          ∷ Answered 28 A (call.Stat (codes "d" ∷ [])) (answer.Reply (reply.Stat kind.Dir 493 0 8 0)) None
          ∷ Waits 29 A (call.Create (codes "d" ∷ codes "a" ∷ []))
          ∷ Answered 29 A (call.Create (codes "d" ∷ codes "a" ∷ [])) (answer.Reply reply.Ok) (Some 4) ∷ Waits 30 B (call.Mkdir (codes "e" ∷ []))
          ∷ Answered 30 B (call.Mkdir (codes "e" ∷ [])) (answer.Reply reply.Ok) (Some 6)
          ∷ Waits 31 A (call.Write (codes "d" ∷ codes "a" ∷ []) 4 (codes "axb")) ∷ Durable B (6 ∷ [])
          ∷ Answered 31 A (call.Write (codes "d" ∷ codes "a" ∷ []) 4 (codes "axb")) (answer.Reply reply.Ok) (Some 5)
          ∷ Waits 32 C (call.Mkdir (codes "d" ∷ [])) ∷ Answered 32 C (call.Mkdir (codes "d" ∷ [])) (answer.Reply (reply.Refused no.Exists)) None
          ∷ Waits 33 A (call.Create (codes "a" ∷ [])) ∷ Answered 33 A (call.Create (codes "a" ∷ [])) (answer.Reply reply.Ok) (Some 6)
          ∷ Answered 34 A (call.Mkdir (codes "d" ∷ [])) (answer.Reply (reply.Refused no.Exists)) None ∷ Waits 35 A (call.Fsync [])
          ∷ Durable A (6 ∷ []) ∷ Answered 35 A (call.Fsync []) (answer.Reply reply.Ok) None
          ∷ Answered 36 A (call.Write (codes "d" ∷ codes "a" ∷ []) 5 (codes "a")) (answer.Reply reply.Ok) (Some 7)
          ∷ Answered 37 A (call.Write (codes "d" ∷ codes "a" ∷ []) 4 (codes "cx")) (answer.Reply reply.Ok) (Some 8) ∷ Durable A (4 ∷ 5 ∷ 7 ∷ 8 ∷ [])
          ∷ Waits 39 C (call.Write (codes "a" ∷ []) 0 (codes "x"))
          ∷ Answered 39 C (call.Write (codes "a" ∷ []) 0 (codes "x")) (answer.Reply reply.Ok) (Some 2) ∷ Waits 40 A (call.Read (codes "a" ∷ []) 1 9)
          ∷ Durable C (2 ∷ []) ∷ Answered 40 A (call.Read (codes "a" ∷ []) 1 9) (answer.Reply (reply.Data [])) None
          ∷ Waits 41 C (call.Create (codes "e" ∷ codes "a" ∷ []))
          ∷ Answered 41 C (call.Create (codes "e" ∷ codes "a" ∷ [])) (answer.Reply reply.Ok) (Some 3)
          ∷ Waits 42 C (call.Rename (codes "e" ∷ codes "a" ∷ []) (codes "d" ∷ codes "a" ∷ []))
          ∷ Answered 42 C (call.Rename (codes "e" ∷ codes "a" ∷ []) (codes "d" ∷ codes "a" ∷ [])) (answer.Reply reply.Ok) (Some 4)
          ∷ Answered 43 C (call.Rename (codes "d" ∷ codes "a" ∷ []) (codes "d" ∷ codes "a" ∷ [])) (answer.Reply reply.Ok) None
          ∷ Waits 44 A (call.Rename (codes "d" ∷ []) (codes "d" ∷ [])) ∷ Durable C (3 ∷ 4 ∷ [])
          ∷ Answered 44 A (call.Rename (codes "d" ∷ []) (codes "d" ∷ [])) (answer.Reply reply.Ok) None
          ∷ Waits 45 A (call.Chown (codes "d" ∷ codes "a" ∷ []) 4)
          ∷ Answered 45 A (call.Chown (codes "d" ∷ codes "a" ∷ []) 4) (answer.Reply reply.Ok) (Some 9)
          ∷ Waits 46 C (call.Fsync (codes "d" ∷ codes "a" ∷ [])) ∷ Durable A (9 ∷ [])
          ∷ Answered 46 C (call.Fsync (codes "d" ∷ codes "a" ∷ [])) (answer.Reply reply.Ok) None
          ∷ Waits 47 B (call.Write (codes "a" ∷ []) 1 (codes "bc"))
          ∷ Answered 47 B (call.Write (codes "a" ∷ []) 1 (codes "bc")) (answer.Reply reply.Ok) (Some 7)
          ∷ Waits 48 B (call.Read (codes "d" ∷ codes "a" ∷ []) 0 0)
          ∷ Answered 48 B (call.Read (codes "d" ∷ codes "a" ∷ []) 0 0) (answer.Reply (reply.Data [])) None
          ∷ Answered 49 B (call.Stat (codes "a" ∷ [])) (answer.Reply (reply.Stat kind.File 420 0 0 3)) None
          ∷ Answered 50 C (call.Create (codes "e" ∷ codes "a" ∷ [])) (answer.Reply reply.Ok) (Some 5)
          ∷ Answered 51 A (call.Mkdir (codes "d" ∷ [])) (answer.Reply (reply.Refused no.Exists)) None
          ∷ Answered 52 A (call.Create (codes "a" ∷ [])) (answer.Reply (reply.Refused no.Exists)) None
          ∷ Answered 53 B (call.Create (codes "a" ∷ [])) (answer.Reply (reply.Refused no.Exists)) None
          ∷ Answered 54 B (call.List []) (answer.Reply (reply.Names (codes "a" ∷ codes "d" ∷ codes "e" ∷ []))) None
          ∷ Waits 55 A (call.Write (codes "a" ∷ []) 0 (codes "ac")) ∷ Durable B (7 ∷ [])
          ∷ Answered 55 A (call.Write (codes "a" ∷ []) 0 (codes "ac")) (answer.Reply reply.Ok) (Some 10)
          ∷ Answered 56 C (call.List (codes "e" ∷ [])) (answer.Reply (reply.Names (codes "a" ∷ []))) None
          ∷ Answered 57 C (call.List (codes "e" ∷ [])) (answer.Reply (reply.Names (codes "a" ∷ []))) None
          ∷ Answered 58 A (call.Create (codes "a" ∷ [])) (answer.Reply (reply.Refused no.Exists)) None
          ∷ Answered 59 C (call.Mkdir (codes "d" ∷ [])) (answer.Reply (reply.Refused no.Exists)) None
          ∷ Waits 60 A (call.Write (codes "d" ∷ codes "a" ∷ []) 3 (codes "ya"))
          ∷ Answered 60 A (call.Write (codes "d" ∷ codes "a" ∷ []) 3 (codes "ya")) (answer.Reply reply.Ok) (Some 11)
          ∷ Answered 61 A (call.Write (codes "d" ∷ codes "a" ∷ []) 2 (codes "bx")) (answer.Reply reply.Ok) (Some 12) ∷ Durable A (11 ∷ []) ∷ [];
      status = 0;
    }

abbrev pub plain_19 : Run
plain_19 =
    record {
      lines =
          reads (line.Call B (call.Mkdir (codes "d" ∷ []))) 9 ∷ reads (line.Call A (call.Create (codes "a" ∷ []))) 10
          ∷ reads (line.Call A (call.Write (codes "a" ∷ []) 0 (codes "abcdefgh"))) 14 ∷ reads (line.Call A (call.Read [] 0 1)) 12
          ∷ reads (line.Call A (call.Read (codes "a" ∷ []) 1 64)) 13 ∷ reads (line.Call A (call.Forder ((codes "a" ∷ []) ∷ [] ∷ []))) 13
          ∷ reads (line.Call A (call.SetLen (codes "a" ∷ []) 8)) 13 ∷ reads (line.Call A call.Sync) 3
          ∷ reads (line.Call B (call.Write (codes "a" ∷ []) 5 (codes "zx"))) 14 ∷ reads (line.Call B (call.Write (codes "a" ∷ []) 4 (codes "ba"))) 14
          ∷ reads (line.Call B (call.Write (codes "a" ∷ []) 0 (codes "z"))) 14 ∷ reads (line.Push B 3) 8
          ∷ reads (line.Call A (call.Read (codes "a" ∷ []) 0 64)) 13 ∷ reads (line.Call A (call.Rmdir (codes "d" ∷ []))) 9
          ∷ reads (line.Call B (call.Forder ((codes "e" ∷ []) ∷ (codes "e" ∷ []) ∷ []))) 13
          ∷ reads (line.Call A (call.Rename (codes "d" ∷ []) (codes "d" ∷ []))) 13
          ∷ reads (line.Call A (call.Write (codes "a" ∷ []) 3 (codes "bz"))) 14 ∷ reads (line.Call A (call.Write (codes "a" ∷ []) 1 (codes "z"))) 14
          ∷ reads (line.Call A (call.Write (codes "a" ∷ []) 0 (codes "xc"))) 14 ∷ reads (line.Push A 8) 8 ∷ reads (line.Call B (call.Fsync [])) 9
          ∷ reads (line.Call A (call.Write (codes "a" ∷ []) 0 (codes "y"))) 14 ∷ reads (line.Call A (call.Write (codes "a" ∷ []) 5 (codes "bb"))) 14
          ∷ reads (line.Call A (call.Write (codes "a" ∷ []) 5 (codes "z"))) 14 ∷ reads (line.Call A (call.Write (codes "a" ∷ []) 4 (codes "b"))) 14
          ∷ reads (line.Call B (call.Stat (codes "d" ∷ []))) 8 ∷ reads (line.Call A (call.Write (codes "d" ∷ codes "a" ∷ []) 3 (codes "byabb"))) 16
          ∷ reads (line.Call B (call.Read (codes "a" ∷ []) 3 9)) 13 ∷ reads (line.Call A (call.Forder ((codes "a" ∷ []) ∷ (codes "a" ∷ []) ∷ []))) 13
          ∷ reads (line.Call A (call.Create (codes "e" ∷ codes "a" ∷ []))) 10 ∷ reads (line.Call B (call.Write (codes "a" ∷ []) 2 (codes "ybx"))) 14
          ∷ reads (line.Call B (call.SetLen (codes "a" ∷ []) 0)) 13 ∷ reads (line.Call A (call.Rename (codes "a" ∷ []) (codes "a" ∷ []))) 13
          ∷ reads (line.Call B (call.Stat (codes "a" ∷ []))) 8 ∷ reads (line.Call A (call.Read (codes "a" ∷ []) 3 9)) 13
          ∷ reads (line.Call A (call.Write (codes "a" ∷ []) 0 (codes "a"))) 14 ∷ reads (line.Call A (call.Write (codes "a" ∷ []) 0 (codes "b"))) 14
          ∷ reads (line.Call A (call.Write (codes "a" ∷ []) 0 (codes "bz"))) 14 ∷ reads (line.Push A 15) 8
          ∷ reads (line.Call B (call.SetLen (codes "a" ∷ []) 8)) 13 ∷ reads (line.Call B (call.Write (codes "a" ∷ []) 2 (codes "yabyc"))) 14
          ∷ reads (line.Push B 7) 8 ∷ reads (line.Call A (call.Write (codes "a" ∷ []) 4 (codes "cc"))) 14
          ∷ reads (line.Call A (call.Write (codes "a" ∷ []) 2 (codes "y"))) 14 ∷ reads (line.Call A (call.Write (codes "a" ∷ []) 0 (codes "x"))) 14
          ∷ reads (line.Call A (call.Remove (codes "a" ∷ []))) 10 ∷ reads (line.Call B (call.Write (codes "a" ∷ []) 1 (codes "b"))) 14
          ∷ reads (line.Call B (call.Rename (codes "d" ∷ codes "a" ∷ []) (codes "d" ∷ codes "a" ∷ []))) 15
          ∷ reads (line.Call A (call.Write (codes "a" ∷ []) 1 (codes "yy"))) 14 ∷ reads (line.Call A (call.Write (codes "a" ∷ []) 0 (codes "c"))) 14
          ∷ reads (line.Push A 20) 8 ∷ reads (line.Call A (call.Write (codes "e" ∷ codes "a" ∷ []) 3 (codes "by"))) 16
          ∷ reads (line.Call A (call.Write (codes "e" ∷ codes "a" ∷ []) 0 (codes "cc"))) 16
          ∷ reads (line.Call A (call.Write (codes "e" ∷ codes "a" ∷ []) 2 (codes "yc"))) 16 ∷ reads (line.Push A 20) 8
          ∷ reads (line.Call B (call.Rename (codes "e" ∷ codes "a" ∷ []) (codes "a" ∷ []))) 15
          ∷ reads (line.Call A (call.Chown (codes "e" ∷ codes "a" ∷ []) 8)) 14 ∷ reads (line.Call B (call.Mkdir (codes "e" ∷ []))) 9
          ∷ reads (line.Call A (call.SetLen (codes "d" ∷ codes "a" ∷ []) 0)) 15
          ∷ reads (line.Call B (call.Forder ([] ∷ (codes "e" ∷ codes "a" ∷ []) ∷ []))) 12 ∷ [];
      fates = [];
      max_objects = 1024;
      shown =
          Waits 1 B (call.Mkdir (codes "d" ∷ [])) ∷ Answered 1 B (call.Mkdir (codes "d" ∷ [])) (answer.Reply reply.Ok) (Some 1)
          ∷ Waits 2 A (call.Create (codes "a" ∷ [])) ∷ Durable B (1 ∷ [])
          ∷ Answered 2 A (call.Create (codes "a" ∷ [])) (answer.Reply reply.Ok) (Some 1)
          ∷ Answered 3 A (call.Write (codes "a" ∷ []) 0 (codes "abcdefgh")) (answer.Reply reply.Ok) (Some 2)
          ∷ Answered 4 A (call.Read [] 0 1) (answer.Reply (reply.Refused no.IsDir)) None
          ∷ Answered 5 A (call.Read (codes "a" ∷ []) 1 64) (answer.Reply (reply.Data (codes "bcdefgh"))) None
          ∷ Answered 6 A (call.Forder ((codes "a" ∷ []) ∷ [] ∷ [])) (answer.Reply reply.Ok) (Some 3)
          ∷ Answered 7 A (call.SetLen (codes "a" ∷ []) 8) (answer.Reply reply.Ok) (Some 4) ∷ Waits 8 A call.Sync ∷ Durable A (1 ∷ 2 ∷ 3 ∷ 4 ∷ [])
          ∷ Answered 8 A call.Sync (answer.Reply reply.Ok) None ∷ Waits 9 B (call.Write (codes "a" ∷ []) 5 (codes "zx"))
          ∷ Answered 9 B (call.Write (codes "a" ∷ []) 5 (codes "zx")) (answer.Reply reply.Ok) (Some 2)
          ∷ Answered 10 B (call.Write (codes "a" ∷ []) 4 (codes "ba")) (answer.Reply reply.Ok) (Some 3)
          ∷ Answered 11 B (call.Write (codes "a" ∷ []) 0 (codes "z")) (answer.Reply reply.Ok) (Some 4) ∷ Durable B (2 ∷ 3 ∷ [])
          ∷ Waits 13 A (call.Read (codes "a" ∷ []) 0 64) ∷ Durable B (4 ∷ [])
          ∷ Answered 13 A (call.Read (codes "a" ∷ []) 0 64) (answer.Reply (reply.Data (codes "zbcdbaxh"))) None
          ∷ Waits 14 A (call.Rmdir (codes "d" ∷ [])) ∷ Answered 14 A (call.Rmdir (codes "d" ∷ [])) (answer.Reply reply.Ok) (Some 5)
          ∷ Waits 15 B (call.Forder ((codes "e" ∷ []) ∷ (codes "e" ∷ []) ∷ [])) ∷ Durable A (5 ∷ [])
          ∷ Answered 15 B (call.Forder ((codes "e" ∷ []) ∷ (codes "e" ∷ []) ∷ [])) (answer.Reply (reply.Refused (no.NotFound 1))) None
          ∷ Answered 16 A (call.Rename (codes "d" ∷ []) (codes "d" ∷ [])) (answer.Reply (reply.Refused (no.NotFound 1))) None
          ∷ Waits 17 A (call.Write (codes "a" ∷ []) 3 (codes "bz"))
          ∷ Answered 17 A (call.Write (codes "a" ∷ []) 3 (codes "bz")) (answer.Reply reply.Ok) (Some 6)
          ∷ Answered 18 A (call.Write (codes "a" ∷ []) 1 (codes "z")) (answer.Reply reply.Ok) (Some 7)
          ∷ Answered 19 A (call.Write (codes "a" ∷ []) 0 (codes "xc")) (answer.Reply reply.Ok) (Some 8) ∷ Durable A (7 ∷ 8 ∷ [])
          ∷ Answered 21 B (call.Fsync []) (answer.Reply reply.Ok) None
          ∷ Answered 22 A (call.Write (codes "a" ∷ []) 0 (codes "y")) (answer.Reply reply.Ok) (Some 9)
          ∷ Answered 23 A (call.Write (codes "a" ∷ []) 5 (codes "bb")) (answer.Reply reply.Ok) (Some 10)
          ∷ Answered 24 A (call.Write (codes "a" ∷ []) 5 (codes "z")) (answer.Reply reply.Ok) (Some 11)
          ∷ Answered 25 A (call.Write (codes "a" ∷ []) 4 (codes "b")) (answer.Reply reply.Ok) (Some 12)
          ∷ Answered 26 B (call.Stat (codes "d" ∷ [])) (answer.Reply (reply.Refused (no.NotFound 1))) None
          ∷ Answered 27 A (call.Write (codes "d" ∷ codes "a" ∷ []) 3 (codes "byabb")) (answer.Reply (reply.Refused (no.NotFound 1))) None
          ∷ Waits 28 B (call.Read (codes "a" ∷ []) 3 9) ∷ Durable A (6 ∷ 9 ∷ 10 ∷ 11 ∷ 12 ∷ [])
          ∷ Answered 28 B (call.Read (codes "a" ∷ []) 3 9) (answer.Reply (reply.Data (codes "bbzbh"))) None
          ∷ Waits 29 A (call.Forder ((codes "a" ∷ []) ∷ (codes "a" ∷ []) ∷ []))
          ∷ Answered 29 A (call.Forder ((codes "a" ∷ []) ∷ (codes "a" ∷ []) ∷ [])) (answer.Reply reply.Ok) (Some 13)
          ∷ Answered 30 A (call.Create (codes "e" ∷ codes "a" ∷ [])) (answer.Reply (reply.Refused (no.NotFound 1))) None
          ∷ Waits 31 B (call.Write (codes "a" ∷ []) 2 (codes "ybx")) ∷ Durable A (13 ∷ [])
          ∷ Answered 31 B (call.Write (codes "a" ∷ []) 2 (codes "ybx")) (answer.Reply reply.Ok) (Some 5)
          ∷ Answered 32 B (call.SetLen (codes "a" ∷ []) 0) (answer.Reply reply.Ok) (Some 6)
          ∷ Waits 33 A (call.Rename (codes "a" ∷ []) (codes "a" ∷ [])) ∷ Durable B (5 ∷ 6 ∷ [])
          ∷ Answered 33 A (call.Rename (codes "a" ∷ []) (codes "a" ∷ [])) (answer.Reply reply.Ok) None
          ∷ Answered 34 B (call.Stat (codes "a" ∷ [])) (answer.Reply (reply.Stat kind.File 420 0 0 0)) None
          ∷ Answered 35 A (call.Read (codes "a" ∷ []) 3 9) (answer.Reply (reply.Data [])) None
          ∷ Waits 36 A (call.Write (codes "a" ∷ []) 0 (codes "a"))
          ∷ Answered 36 A (call.Write (codes "a" ∷ []) 0 (codes "a")) (answer.Reply reply.Ok) (Some 14)
          ∷ Answered 37 A (call.Write (codes "a" ∷ []) 0 (codes "b")) (answer.Reply reply.Ok) (Some 15)
          ∷ Answered 38 A (call.Write (codes "a" ∷ []) 0 (codes "bz")) (answer.Reply reply.Ok) (Some 16) ∷ Durable A (14 ∷ 15 ∷ [])
          ∷ Waits 40 B (call.SetLen (codes "a" ∷ []) 8) ∷ Durable A (16 ∷ [])
          ∷ Answered 40 B (call.SetLen (codes "a" ∷ []) 8) (answer.Reply reply.Ok) (Some 7)
          ∷ Answered 41 B (call.Write (codes "a" ∷ []) 2 (codes "yabyc")) (answer.Reply reply.Ok) (Some 8) ∷ Durable B (7 ∷ [])
          ∷ Waits 43 A (call.Write (codes "a" ∷ []) 4 (codes "cc")) ∷ Durable B (8 ∷ [])
          ∷ Answered 43 A (call.Write (codes "a" ∷ []) 4 (codes "cc")) (answer.Reply reply.Ok) (Some 17)
          ∷ Answered 44 A (call.Write (codes "a" ∷ []) 2 (codes "y")) (answer.Reply reply.Ok) (Some 18)
          ∷ Answered 45 A (call.Write (codes "a" ∷ []) 0 (codes "x")) (answer.Reply reply.Ok) (Some 19) ∷ Waits 46 A (call.Remove (codes "a" ∷ []))
          ∷ Answered 46 A (call.Remove (codes "a" ∷ [])) (answer.Reply reply.Ok) (Some 20) ∷ Waits 47 B (call.Write (codes "a" ∷ []) 1 (codes "b"))
          ∷ Durable A (17 ∷ 18 ∷ 19 ∷ 20 ∷ [])
          ∷ Answered 47 B (call.Write (codes "a" ∷ []) 1 (codes "b")) (answer.Reply (reply.Refused (no.NotFound 1))) None
          ∷ Answered 48 B (call.Rename (codes "d" ∷ codes "a" ∷ []) (codes "d" ∷ codes "a" ∷ [])) (answer.Reply (reply.Refused (no.NotFound 1))) None
          ∷ Answered 49 A (call.Write (codes "a" ∷ []) 1 (codes "yy")) (answer.Reply (reply.Refused (no.NotFound 1))) None
          ∷ Answered 50 A (call.Write (codes "a" ∷ []) 0 (codes "c")) (answer.Reply (reply.Refused (no.NotFound 1))) None ∷ Nothing
          ∷ Answered 52 A (call.Write (codes "e" ∷ codes "a" ∷ []) 3 (codes "by")) (answer.Reply (reply.Refused (no.NotFound 1))) None
          ∷ Answered 53 A (call.Write (codes "e" ∷ codes "a" ∷ []) 0 (codes "cc")) (answer.Reply (reply.Refused (no.NotFound 1))) None
          ∷ Answered 54 A (call.Write (codes "e" ∷ codes "a" ∷ []) 2 (codes "yc")) (answer.Reply (reply.Refused (no.NotFound 1))) None ∷ Nothing
          ∷ Answered 56 B (call.Rename (codes "e" ∷ codes "a" ∷ []) (codes "a" ∷ [])) (answer.Reply (reply.Refused (no.NotFound 1))) None
          ∷ Answered 57 A (call.Chown (codes "e" ∷ codes "a" ∷ []) 8) (answer.Reply (reply.Refused (no.NotFound 1))) None
          ∷ Waits 58 B (call.Mkdir (codes "e" ∷ [])) ∷ Answered 58 B (call.Mkdir (codes "e" ∷ [])) (answer.Reply reply.Ok) (Some 9)
          ∷ Waits 59 A (call.SetLen (codes "d" ∷ codes "a" ∷ []) 0) ∷ Durable B (9 ∷ [])
          ∷ Answered 59 A (call.SetLen (codes "d" ∷ codes "a" ∷ []) 0) (answer.Reply (reply.Refused (no.NotFound 1))) None
          ∷ Answered 60 B (call.Forder ([] ∷ (codes "e" ∷ codes "a" ∷ []) ∷ [])) (answer.Reply (reply.Refused (no.NotFound 2))) None ∷ [];
      status = 0;
    }

abbrev pub plain_20 : Run
plain_20 =
    record {
      lines =
          reads (line.Call A (call.Mkdir (codes "d" ∷ []))) 9 ∷ reads (line.Call A (call.Create (codes "a" ∷ []))) 10
          ∷ reads (line.Call A (call.Write (codes "a" ∷ []) 0 (codes "abcdefgh"))) 14
          ∷ reads (line.Call A (call.Create (codes "d" ∷ codes "a" ∷ []))) 10
          ∷ reads (line.Call A (call.Write (codes "d" ∷ codes "a" ∷ []) 0 (codes "abcdefgh"))) 16
          ∷ reads (line.Call A (call.Create (codes "e" ∷ codes "a" ∷ []))) 10
          ∷ reads (line.Call A (call.Write (codes "e" ∷ codes "a" ∷ []) 0 (codes "abcdefgh"))) 16
          ∷ reads (line.Call A (call.Write (codes "d" ∷ codes "a" ∷ []) 1 (codes "b"))) 16
          ∷ reads (line.Call A (call.Write (codes "d" ∷ codes "a" ∷ []) 1 (codes "yb"))) 16 ∷ reads (line.Push A 7) 8 ∷ reads (line.Push A 4) 8
          ∷ reads (line.Call A (call.Mkdir (codes "e" ∷ []))) 9 ∷ reads (line.Call A (call.Write (codes "d" ∷ codes "a" ∷ []) 2 (codes "b"))) 16
          ∷ reads (line.Call A (call.Write (codes "d" ∷ codes "a" ∷ []) 1 (codes "zy"))) 16 ∷ reads (line.Push A 10) 8
          ∷ reads (line.Call A (call.SetLen (codes "a" ∷ []) 1)) 13 ∷ reads (line.Call A (call.Fsync [])) 9
          ∷ reads (line.Call A (call.Write (codes "e" ∷ codes "a" ∷ []) 5 (codes "bb"))) 16
          ∷ reads (line.Call A (call.Write (codes "e" ∷ codes "a" ∷ []) 5 (codes "bb"))) 16 ∷ reads (line.Push A 10) 8
          ∷ reads (line.Call A (call.Mkdir (codes "e" ∷ []))) 9 ∷ reads (line.Call A (call.Stat [])) 8
          ∷ reads (line.Call A (call.Write (codes "a" ∷ []) 1 (codes "zzy"))) 14 ∷ reads (line.Call A (call.Chown (codes "e" ∷ []) 0)) 12
          ∷ reads (line.Call A (call.Read (codes "d" ∷ codes "a" ∷ []) 0 0)) 15 ∷ reads (line.Call A (call.Create (codes "e" ∷ codes "a" ∷ []))) 10
          ∷ reads (line.Call A (call.Write (codes "e" ∷ codes "a" ∷ []) 4 (codes "bz"))) 16
          ∷ reads (line.Call A (call.Write (codes "a" ∷ []) 2 (codes "bxz"))) 14
          ∷ reads (line.Call A (call.Write (codes "e" ∷ codes "a" ∷ []) 0 (codes "zx"))) 16
          ∷ reads (line.Call A (call.Read (codes "d" ∷ codes "a" ∷ []) 0 9)) 15 ∷ reads (line.Call A (call.Create (codes "d" ∷ codes "a" ∷ []))) 10
          ∷ reads (line.Call A (call.Mkdir (codes "e" ∷ []))) 9 ∷ reads (line.Call A (call.Mkdir (codes "e" ∷ []))) 9
          ∷ reads (line.Call A (call.SetLen (codes "a" ∷ []) 2)) 13 ∷ reads (line.Call A (call.Remove (codes "d" ∷ codes "a" ∷ []))) 10
          ∷ reads (line.Call A (call.Fsync (codes "e" ∷ codes "a" ∷ []))) 9 ∷ reads (line.Call A (call.Fsync [])) 9
          ∷ reads (line.Call A (call.Chown (codes "e" ∷ []) 3)) 12 ∷ reads (line.Call A (call.Write (codes "a" ∷ []) 1 (codes "bb"))) 14
          ∷ reads (line.Call A (call.Write (codes "a" ∷ []) 5 (codes "xz"))) 14 ∷ reads (line.Call A (call.Write (codes "a" ∷ []) 4 (codes "cx"))) 14
          ∷ reads (line.Push A 23) 8 ∷ reads (line.Call A (call.Fsync (codes "e" ∷ codes "a" ∷ []))) 9
          ∷ reads (line.Call A (call.Fsync (codes "d" ∷ []))) 9 ∷ reads (line.Call A (call.Create (codes "d" ∷ codes "a" ∷ []))) 10
          ∷ reads (line.Call A (call.Touch (codes "e" ∷ codes "a" ∷ []) 6)) 14 ∷ reads (line.Call A (call.Read (codes "d" ∷ codes "a" ∷ []) 0 2)) 15
          ∷ reads (line.Call A (call.Create (codes "d" ∷ codes "a" ∷ []))) 10
          ∷ reads (line.Call A (call.Write (codes "a" ∷ []) 65535 (codes "xy"))) 18 ∷ reads (line.Call A (call.SetLen (codes "a" ∷ []) 4)) 13
          ∷ reads (line.Call A (call.Read (codes "d" ∷ codes "a" ∷ []) 0 0)) 15 ∷ reads (line.Call A (call.List [])) 8
          ∷ reads (line.Call A (call.Forder ((codes "d" ∷ codes "a" ∷ []) ∷ [] ∷ []))) 15
          ∷ reads (line.Call A (call.Write (codes "a" ∷ []) 2 (codes "a"))) 14 ∷ reads (line.Call A (call.Write (codes "a" ∷ []) 3 (codes "y"))) 14
          ∷ reads (line.Call A (call.Write (codes "d" ∷ codes "a" ∷ []) 0 (codes "xx"))) 16
          ∷ reads (line.Call A (call.Write (codes "d" ∷ codes "a" ∷ []) 3 (codes "c"))) 16
          ∷ reads (line.Call A (call.Write (codes "a" ∷ []) 1 (codes "z"))) 14
          ∷ reads (line.Call A (call.Write (codes "d" ∷ codes "a" ∷ []) 2 (codes "bx"))) 16
          ∷ reads (line.Call A (call.Chown (codes "e" ∷ codes "a" ∷ []) 7)) 14 ∷ [];
      fates = [];
      max_objects = 1024;
      shown =
          Waits 1 A (call.Mkdir (codes "d" ∷ [])) ∷ Answered 1 A (call.Mkdir (codes "d" ∷ [])) (answer.Reply reply.Ok) (Some 1)
          ∷ Answered 2 A (call.Create (codes "a" ∷ [])) (answer.Reply reply.Ok) (Some 2)
          ∷ Answered 3 A (call.Write (codes "a" ∷ []) 0 (codes "abcdefgh")) (answer.Reply reply.Ok) (Some 3)
          ∷ Answered 4 A (call.Create (codes "d" ∷ codes "a" ∷ [])) (answer.Reply reply.Ok) (Some 4)
          ∷ Answered 5 A (call.Write (codes "d" ∷ codes "a" ∷ []) 0 (codes "abcdefgh")) (answer.Reply reply.Ok) (Some 5)
          ∷ Answered 6 A (call.Create (codes "e" ∷ codes "a" ∷ [])) (answer.Reply (reply.Refused (no.NotFound 1))) None
          ∷ Answered 7 A (call.Write (codes "e" ∷ codes "a" ∷ []) 0 (codes "abcdefgh")) (answer.Reply (reply.Refused (no.NotFound 1))) None
          ∷ Answered 8 A (call.Write (codes "d" ∷ codes "a" ∷ []) 1 (codes "b")) (answer.Reply reply.Ok) (Some 6)
          ∷ Answered 9 A (call.Write (codes "d" ∷ codes "a" ∷ []) 1 (codes "yb")) (answer.Reply reply.Ok) (Some 7)
          ∷ Durable A (1 ∷ 4 ∷ 5 ∷ 6 ∷ 7 ∷ []) ∷ Nothing ∷ Answered 12 A (call.Mkdir (codes "e" ∷ [])) (answer.Reply reply.Ok) (Some 8)
          ∷ Answered 13 A (call.Write (codes "d" ∷ codes "a" ∷ []) 2 (codes "b")) (answer.Reply reply.Ok) (Some 9)
          ∷ Answered 14 A (call.Write (codes "d" ∷ codes "a" ∷ []) 1 (codes "zy")) (answer.Reply reply.Ok) (Some 10) ∷ Durable A (9 ∷ 10 ∷ [])
          ∷ Answered 16 A (call.SetLen (codes "a" ∷ []) 1) (answer.Reply reply.Ok) (Some 11) ∷ Waits 17 A (call.Fsync []) ∷ Durable A (2 ∷ 8 ∷ [])
          ∷ Answered 17 A (call.Fsync []) (answer.Reply reply.Ok) None
          ∷ Answered 18 A (call.Write (codes "e" ∷ codes "a" ∷ []) 5 (codes "bb")) (answer.Reply (reply.Refused (no.NotFound 2))) None
          ∷ Answered 19 A (call.Write (codes "e" ∷ codes "a" ∷ []) 5 (codes "bb")) (answer.Reply (reply.Refused (no.NotFound 2))) None ∷ Nothing
          ∷ Answered 21 A (call.Mkdir (codes "e" ∷ [])) (answer.Reply (reply.Refused no.Exists)) None
          ∷ Answered 22 A (call.Stat []) (answer.Reply (reply.Stat kind.Dir 493 0 0 3)) None
          ∷ Answered 23 A (call.Write (codes "a" ∷ []) 1 (codes "zzy")) (answer.Reply reply.Ok) (Some 12)
          ∷ Answered 24 A (call.Chown (codes "e" ∷ []) 0) (answer.Reply reply.Ok) (Some 13)
          ∷ Answered 25 A (call.Read (codes "d" ∷ codes "a" ∷ []) 0 0) (answer.Reply (reply.Data [])) None
          ∷ Answered 26 A (call.Create (codes "e" ∷ codes "a" ∷ [])) (answer.Reply reply.Ok) (Some 14)
          ∷ Answered 27 A (call.Write (codes "e" ∷ codes "a" ∷ []) 4 (codes "bz")) (answer.Reply reply.Ok) (Some 15)
          ∷ Answered 28 A (call.Write (codes "a" ∷ []) 2 (codes "bxz")) (answer.Reply reply.Ok) (Some 16)
          ∷ Answered 29 A (call.Write (codes "e" ∷ codes "a" ∷ []) 0 (codes "zx")) (answer.Reply reply.Ok) (Some 17)
          ∷ Answered 30 A (call.Read (codes "d" ∷ codes "a" ∷ []) 0 9) (answer.Reply (reply.Data (codes "azydefgh"))) None
          ∷ Answered 31 A (call.Create (codes "d" ∷ codes "a" ∷ [])) (answer.Reply (reply.Refused no.Exists)) None
          ∷ Answered 32 A (call.Mkdir (codes "e" ∷ [])) (answer.Reply (reply.Refused no.Exists)) None
          ∷ Answered 33 A (call.Mkdir (codes "e" ∷ [])) (answer.Reply (reply.Refused no.Exists)) None
          ∷ Answered 34 A (call.SetLen (codes "a" ∷ []) 2) (answer.Reply reply.Ok) (Some 18)
          ∷ Answered 35 A (call.Remove (codes "d" ∷ codes "a" ∷ [])) (answer.Reply reply.Ok) (Some 19)
          ∷ Waits 36 A (call.Fsync (codes "e" ∷ codes "a" ∷ [])) ∷ Durable A (13 ∷ 14 ∷ 15 ∷ 17 ∷ [])
          ∷ Answered 36 A (call.Fsync (codes "e" ∷ codes "a" ∷ [])) (answer.Reply reply.Ok) None
          ∷ Answered 37 A (call.Fsync []) (answer.Reply reply.Ok) None
          ∷ Answered 38 A (call.Chown (codes "e" ∷ []) 3) (answer.Reply reply.Ok) (Some 20)
          ∷ Answered 39 A (call.Write (codes "a" ∷ []) 1 (codes "bb")) (answer.Reply reply.Ok) (Some 21)
          ∷ Answered 40 A (call.Write (codes "a" ∷ []) 5 (codes "xz")) (answer.Reply reply.Ok) (Some 22)
          ∷ Answered 41 A (call.Write (codes "a" ∷ []) 4 (codes "cx")) (answer.Reply reply.Ok) (Some 23)
          ∷ Durable A (3 ∷ 11 ∷ 12 ∷ 16 ∷ 18 ∷ 21 ∷ 22 ∷ 23 ∷ [])
          ∷ Answered 43 A (call.Fsync (codes "e" ∷ codes "a" ∷ [])) (answer.Reply reply.Ok) None ∷ Waits 44 A (call.Fsync (codes "d" ∷ []))
          ∷ Durable A (19 ∷ []) ∷ Answered 44 A (call.Fsync (codes "d" ∷ [])) (answer.Reply reply.Ok) None
          ∷ Answered 45 A (call.Create (codes "d" ∷ codes "a" ∷ [])) (answer.Reply reply.Ok) (Some 24)
          ∷ Answered 46 A (call.Touch (codes "e" ∷ codes "a" ∷ []) 6) (answer.Reply reply.Ok) (Some 25)
          ∷ Answered 47 A (call.Read (codes "d" ∷ codes "a" ∷ []) 0 2) (answer.Reply (reply.Data [])) None
          ∷ Answered 48 A (call.Create (codes "d" ∷ codes "a" ∷ [])) (answer.Reply (reply.Refused no.Exists)) None
          ∷ Answered 49 A (call.Write (codes "a" ∷ []) 65535 (codes "xy")) (answer.Reply (reply.Refused no.TooLong)) None
          ∷ Answered 50 A (call.SetLen (codes "a" ∷ []) 4) (answer.Reply reply.Ok) (Some 26)
          ∷ Answered 51 A (call.Read (codes "d" ∷ codes "a" ∷ []) 0 0) (answer.Reply (reply.Data [])) None
          ∷ Answered 52 A (call.List []) (answer.Reply (reply.Names (codes "a" ∷ codes "d" ∷ codes "e" ∷ []))) None
          ∷ Answered 53 A (call.Forder ((codes "d" ∷ codes "a" ∷ []) ∷ [] ∷ [])) (answer.Reply reply.Ok) (Some 27)
          ∷ Answered 54 A (call.Write (codes "a" ∷ []) 2 (codes "a")) (answer.Reply reply.Ok) (Some 28)
          ∷ Answered 55 A (call.Write (codes "a" ∷ []) 3 (codes "y")) (answer.Reply reply.Ok) (Some 29)
          ∷ Answered 56 A (call.Write (codes "d" ∷ codes "a" ∷ []) 0 (codes "xx")) (answer.Reply reply.Ok) (Some 30)
          ∷ Answered 57 A (call.Write (codes "d" ∷ codes "a" ∷ []) 3 (codes "c")) (answer.Reply reply.Ok) (Some 31)
          ∷ Answered 58 A (call.Write (codes "a" ∷ []) 1 (codes "z")) (answer.Reply reply.Ok) (Some 32)
          ∷ Answered 59 A (call.Write (codes "d" ∷ codes "a" ∷ []) 2 (codes "bx")) (answer.Reply reply.Ok) (Some 33)
          ∷ Answered 60 A (call.Chown (codes "e" ∷ codes "a" ∷ []) 7) (answer.Reply reply.Ok) (Some 34) ∷ [];
      status = 0;
    }

abbrev pub plain_21 : Run
plain_21 =
    record {
      lines =
          reads (line.Call A (call.Fsync (codes "d" ∷ codes "a" ∷ []))) 9
          ∷ reads (line.Call A (call.SetLen (codes "d" ∷ codes "e" ∷ codes "a" ∷ []) 2)) 17 ∷ reads (line.Call B (call.Mkdir (codes "e" ∷ []))) 9
          ∷ reads (line.Call A (call.Create (codes "e" ∷ codes "a" ∷ []))) 10
          ∷ reads (line.Call B (call.Write (codes "e" ∷ codes "a" ∷ []) 1 (codes "bya"))) 16
          ∷ reads (line.Call B (call.Write (codes "e" ∷ codes "a" ∷ []) 3 (codes "c"))) 16 ∷ reads (line.Call B (call.Mkdir (codes "d" ∷ []))) 9
          ∷ reads (line.Call A (call.Create (codes "a" ∷ []))) 10 ∷ reads (line.Call A (call.Rename (codes "a" ∷ []) (codes "d" ∷ codes "a" ∷ []))) 13
          ∷ reads (line.Call A (call.Write (codes "d" ∷ codes "a" ∷ []) 6 (codes "a"))) 16
          ∷ reads (line.Call B (call.Read (codes "d" ∷ codes "a" ∷ []) 0 0)) 15 ∷ reads (line.Call B (call.Remove (codes "d" ∷ codes "a" ∷ []))) 10
          ∷ reads (line.Call B (call.Rmdir (codes "e" ∷ []))) 9
          ∷ reads (line.Call B (call.Rename (codes "e" ∷ codes "a" ∷ []) (codes "e" ∷ codes "a" ∷ []))) 15
          ∷ reads (line.Call A (call.Mkdir (codes "d" ∷ codes "k" ∷ []))) 9 ∷ reads (line.Call A (call.Mkdir (codes "d" ∷ codes "e" ∷ []))) 9
          ∷ reads (line.Call A (call.Chown [] 7)) 11 ∷ reads (line.Call B (call.Read (codes "e" ∷ codes "a" ∷ []) 3 9)) 15
          ∷ reads (line.Call B (call.Rename (codes "e" ∷ []) (codes "e" ∷ codes "d" ∷ []))) 13
          ∷ reads (line.Call B (call.Write (codes "e" ∷ codes "a" ∷ []) 0 (codes "b"))) 16
          ∷ reads (line.Call A (call.Write (codes "e" ∷ codes "a" ∷ []) 3 (codes "cby"))) 16 ∷ reads (line.Call A (call.Rmdir (codes "d" ∷ []))) 9
          ∷ reads (line.Call A (call.Mkdir (codes "d" ∷ []))) 9 ∷ reads (line.Call B (call.Mkdir (codes "d" ∷ codes "k" ∷ []))) 9
          ∷ reads (line.Call A (call.Read (codes "e" ∷ codes "a" ∷ []) 3 9)) 15 ∷ reads (line.Call A (call.Stat (codes "e" ∷ codes "a" ∷ []))) 8
          ∷ reads (line.Call A (call.Write (codes "e" ∷ codes "a" ∷ []) 3 (codes "a"))) 16 ∷ reads (line.Call B (call.Mkdir (codes "e" ∷ []))) 9
          ∷ reads (line.Call A (call.Remove (codes "e" ∷ codes "a" ∷ []))) 10 ∷ reads (line.Call A (call.Read (codes "d" ∷ codes "a" ∷ []) 3 0)) 15
          ∷ reads (line.Call B (call.Touch [] 0)) 11
          ∷ reads (line.Call A (call.Forder ((codes "d" ∷ codes "b" ∷ []) ∷ (codes "e" ∷ codes "a" ∷ []) ∷ [] ∷ []))) 20
          ∷ reads (line.Call B (call.Rename (codes "a" ∷ []) (codes "a" ∷ []))) 13
          ∷ reads (line.Call A (call.Read (codes "d" ∷ codes "a" ∷ []) 3 2)) 15 ∷ reads (line.Call B (call.Create (codes "a" ∷ []))) 10
          ∷ reads (line.Call A (call.Create (codes "e" ∷ codes "a" ∷ []))) 10 ∷ reads (line.Call A (call.Touch (codes "e" ∷ []) 8)) 12
          ∷ reads (line.Call A (call.Fsync (codes "e" ∷ codes "a" ∷ []))) 9 ∷ reads (line.Push A 12) 8
          ∷ reads (line.Call B (call.Touch (codes "d" ∷ codes "k" ∷ []) 0)) 14
          ∷ reads (line.Call B (call.Write (codes "e" ∷ codes "a" ∷ []) 0 (codes "caaay"))) 16 ∷ reads (line.Call B (call.Mkdir (codes "d" ∷ []))) 9
          ∷ reads (line.Call B (call.Read (codes "e" ∷ codes "a" ∷ []) 0 2)) 15 ∷ reads (line.Call B (call.Touch (codes "d" ∷ []) 3)) 12
          ∷ reads (line.Call A (call.Create (codes "d" ∷ codes "a" ∷ []))) 10 ∷ reads (line.Call B (call.Read (codes "a" ∷ []) 0 0)) 13
          ∷ reads (line.Call A (call.Read (codes "e" ∷ codes "a" ∷ []) 0 9)) 15 ∷ reads (line.Push A 10) 8
          ∷ reads (line.Call B (call.Mkdir (codes "e" ∷ []))) 9 ∷ reads (line.Call B (call.Rmdir (codes "d" ∷ []))) 9
          ∷ reads (line.Call B (call.Write (codes "e" ∷ codes "a" ∷ []) 0 (codes "a"))) 16
          ∷ reads (line.Call B (call.Read (codes "d" ∷ codes "a" ∷ []) 1 0)) 15 ∷ reads (line.Call A (call.SetLen (codes "e" ∷ codes "a" ∷ []) 0)) 15
          ∷ reads (line.Call B (call.Mkdir (codes "d" ∷ codes "e" ∷ []))) 9 ∷ reads (line.Push B 6) 8
          ∷ reads (line.Call B (call.Mkdir (codes "d" ∷ []))) 9 ∷ reads (line.Call A (call.Create (codes "b" ∷ []))) 10
          ∷ reads (line.Call A (call.Forder ((codes "d" ∷ []) ∷ (codes "d" ∷ codes "e" ∷ []) ∷ []))) 13
          ∷ reads (line.Call B (call.Read (codes "b" ∷ []) 0 9)) 13 ∷ reads (line.Call B (call.Remove (codes "e" ∷ codes "a" ∷ []))) 10 ∷ [];
      fates = [];
      max_objects = 1024;
      shown =
          Waits 1 A (call.Fsync (codes "d" ∷ codes "a" ∷ []))
          ∷ Answered 1 A (call.Fsync (codes "d" ∷ codes "a" ∷ [])) (answer.Reply (reply.Refused (no.NotFound 1))) None
          ∷ Answered 2 A (call.SetLen (codes "d" ∷ codes "e" ∷ codes "a" ∷ []) 2) (answer.Reply (reply.Refused (no.NotFound 1))) None
          ∷ Waits 3 B (call.Mkdir (codes "e" ∷ [])) ∷ Answered 3 B (call.Mkdir (codes "e" ∷ [])) (answer.Reply reply.Ok) (Some 1)
          ∷ Waits 4 A (call.Create (codes "e" ∷ codes "a" ∷ [])) ∷ Durable B (1 ∷ [])
          ∷ Answered 4 A (call.Create (codes "e" ∷ codes "a" ∷ [])) (answer.Reply reply.Ok) (Some 1)
          ∷ Waits 5 B (call.Write (codes "e" ∷ codes "a" ∷ []) 1 (codes "bya")) ∷ Durable A (1 ∷ [])
          ∷ Answered 5 B (call.Write (codes "e" ∷ codes "a" ∷ []) 1 (codes "bya")) (answer.Reply reply.Ok) (Some 2)
          ∷ Answered 6 B (call.Write (codes "e" ∷ codes "a" ∷ []) 3 (codes "c")) (answer.Reply reply.Ok) (Some 3)
          ∷ Waits 7 B (call.Mkdir (codes "d" ∷ [])) ∷ Answered 7 B (call.Mkdir (codes "d" ∷ [])) (answer.Reply reply.Ok) (Some 4)
          ∷ Waits 8 A (call.Create (codes "a" ∷ [])) ∷ Durable B (4 ∷ [])
          ∷ Answered 8 A (call.Create (codes "a" ∷ [])) (answer.Reply reply.Ok) (Some 2)
          ∷ Waits 9 A (call.Rename (codes "a" ∷ []) (codes "d" ∷ codes "a" ∷ []))
          ∷ Answered 9 A (call.Rename (codes "a" ∷ []) (codes "d" ∷ codes "a" ∷ [])) (answer.Reply reply.Ok) (Some 3)
          ∷ Answered 10 A (call.Write (codes "d" ∷ codes "a" ∷ []) 6 (codes "a")) (answer.Reply reply.Ok) (Some 4)
          ∷ Waits 11 B (call.Read (codes "d" ∷ codes "a" ∷ []) 0 0) ∷ Durable A (2 ∷ 3 ∷ []) ∷ Durable A (4 ∷ [])
          ∷ Answered 11 B (call.Read (codes "d" ∷ codes "a" ∷ []) 0 0) (answer.Reply (reply.Data [])) None
          ∷ Waits 12 B (call.Remove (codes "d" ∷ codes "a" ∷ []))
          ∷ Answered 12 B (call.Remove (codes "d" ∷ codes "a" ∷ [])) (answer.Reply reply.Ok) (Some 5)
          ∷ Answered 13 B (call.Rmdir (codes "e" ∷ [])) (answer.Reply (reply.Refused no.NotEmpty)) None
          ∷ Answered 14 B (call.Rename (codes "e" ∷ codes "a" ∷ []) (codes "e" ∷ codes "a" ∷ [])) (answer.Reply reply.Ok) None
          ∷ Waits 15 A (call.Mkdir (codes "d" ∷ codes "k" ∷ [])) ∷ Durable B (5 ∷ [])
          ∷ Answered 15 A (call.Mkdir (codes "d" ∷ codes "k" ∷ [])) (answer.Reply reply.Ok) (Some 5)
          ∷ Answered 16 A (call.Mkdir (codes "d" ∷ codes "e" ∷ [])) (answer.Reply reply.Ok) (Some 6) ∷ Waits 17 A (call.Chown [] 7)
          ∷ Answered 17 A (call.Chown [] 7) (answer.Reply reply.Ok) (Some 7) ∷ Waits 18 B (call.Read (codes "e" ∷ codes "a" ∷ []) 3 9)
          ∷ Durable A (7 ∷ []) ∷ Answered 18 B (call.Read (codes "e" ∷ codes "a" ∷ []) 3 9) (answer.Reply (reply.Data (codes "c"))) None
          ∷ Answered 19 B (call.Rename (codes "e" ∷ []) (codes "e" ∷ codes "d" ∷ [])) (answer.Reply (reply.Refused no.Loop)) None
          ∷ Answered 20 B (call.Write (codes "e" ∷ codes "a" ∷ []) 0 (codes "b")) (answer.Reply reply.Ok) (Some 6)
          ∷ Waits 21 A (call.Write (codes "e" ∷ codes "a" ∷ []) 3 (codes "cby")) ∷ Durable B (2 ∷ 3 ∷ 6 ∷ [])
          ∷ Answered 21 A (call.Write (codes "e" ∷ codes "a" ∷ []) 3 (codes "cby")) (answer.Reply reply.Ok) (Some 8)
          ∷ Answered 22 A (call.Rmdir (codes "d" ∷ [])) (answer.Reply (reply.Refused no.NotEmpty)) None
          ∷ Answered 23 A (call.Mkdir (codes "d" ∷ [])) (answer.Reply (reply.Refused no.Exists)) None
          ∷ Waits 24 B (call.Mkdir (codes "d" ∷ codes "k" ∷ [])) ∷ Durable A (5 ∷ 6 ∷ [])
          ∷ Answered 24 B (call.Mkdir (codes "d" ∷ codes "k" ∷ [])) (answer.Reply (reply.Refused no.Exists)) None
          ∷ Answered 25 A (call.Read (codes "e" ∷ codes "a" ∷ []) 3 9) (answer.Reply (reply.Data (codes "cby"))) None
          ∷ Answered 26 A (call.Stat (codes "e" ∷ codes "a" ∷ [])) (answer.Reply (reply.Stat kind.File 420 0 0 6)) None
          ∷ Answered 27 A (call.Write (codes "e" ∷ codes "a" ∷ []) 3 (codes "a")) (answer.Reply reply.Ok) (Some 9)
          ∷ Answered 28 B (call.Mkdir (codes "e" ∷ [])) (answer.Reply (reply.Refused no.Exists)) None
          ∷ Waits 29 A (call.Remove (codes "e" ∷ codes "a" ∷ []))
          ∷ Answered 29 A (call.Remove (codes "e" ∷ codes "a" ∷ [])) (answer.Reply reply.Ok) (Some 10)
          ∷ Answered 30 A (call.Read (codes "d" ∷ codes "a" ∷ []) 3 0) (answer.Reply (reply.Refused (no.NotFound 2))) None
          ∷ Waits 31 B (call.Touch [] 0) ∷ Answered 31 B (call.Touch [] 0) (answer.Reply reply.Ok) (Some 7)
          ∷ Waits 32 A (call.Forder ((codes "d" ∷ codes "b" ∷ []) ∷ (codes "e" ∷ codes "a" ∷ []) ∷ [] ∷ [])) ∷ Durable B (7 ∷ [])
          ∷ Answered 32 A (call.Forder ((codes "d" ∷ codes "b" ∷ []) ∷ (codes "e" ∷ codes "a" ∷ []) ∷ [] ∷ [])) (answer.Reply (reply.Refused (no.NotFound 2))) None
          ∷ Answered 33 B (call.Rename (codes "a" ∷ []) (codes "a" ∷ [])) (answer.Reply (reply.Refused (no.NotFound 1))) None
          ∷ Answered 34 A (call.Read (codes "d" ∷ codes "a" ∷ []) 3 2) (answer.Reply (reply.Refused (no.NotFound 2))) None
          ∷ Waits 35 B (call.Create (codes "a" ∷ [])) ∷ Answered 35 B (call.Create (codes "a" ∷ [])) (answer.Reply reply.Ok) (Some 8)
          ∷ Waits 36 A (call.Create (codes "e" ∷ codes "a" ∷ [])) ∷ Durable B (8 ∷ [])
          ∷ Answered 36 A (call.Create (codes "e" ∷ codes "a" ∷ [])) (answer.Reply reply.Ok) (Some 11)
          ∷ Answered 37 A (call.Touch (codes "e" ∷ []) 8) (answer.Reply reply.Ok) (Some 12) ∷ Waits 38 A (call.Fsync (codes "e" ∷ codes "a" ∷ []))
          ∷ Durable A (8 ∷ 9 ∷ 10 ∷ 11 ∷ []) ∷ Answered 38 A (call.Fsync (codes "e" ∷ codes "a" ∷ [])) (answer.Reply reply.Ok) None
          ∷ Durable A (12 ∷ []) ∷ Waits 40 B (call.Touch (codes "d" ∷ codes "k" ∷ []) 0)
          ∷ Answered 40 B (call.Touch (codes "d" ∷ codes "k" ∷ []) 0) (answer.Reply reply.Ok) (Some 9)
          ∷ Waits 41 B (call.Write (codes "e" ∷ codes "a" ∷ []) 0 (codes "caaay"))
          ∷ Answered 41 B (call.Write (codes "e" ∷ codes "a" ∷ []) 0 (codes "caaay")) (answer.Reply reply.Ok) (Some 10)
          ∷ Answered 42 B (call.Mkdir (codes "d" ∷ [])) (answer.Reply (reply.Refused no.Exists)) None
          ∷ Answered 43 B (call.Read (codes "e" ∷ codes "a" ∷ []) 0 2) (answer.Reply (reply.Data (codes "ca"))) None
          ∷ Waits 44 B (call.Touch (codes "d" ∷ []) 3) ∷ Answered 44 B (call.Touch (codes "d" ∷ []) 3) (answer.Reply reply.Ok) (Some 11)
          ∷ Waits 45 A (call.Create (codes "d" ∷ codes "a" ∷ [])) ∷ Durable B (11 ∷ [])
          ∷ Answered 45 A (call.Create (codes "d" ∷ codes "a" ∷ [])) (answer.Reply reply.Ok) (Some 13)
          ∷ Answered 46 B (call.Read (codes "a" ∷ []) 0 0) (answer.Reply (reply.Data [])) None
          ∷ Waits 47 A (call.Read (codes "e" ∷ codes "a" ∷ []) 0 9) ∷ Durable B (10 ∷ [])
          ∷ Answered 47 A (call.Read (codes "e" ∷ codes "a" ∷ []) 0 9) (answer.Reply (reply.Data (codes "caaay"))) None ∷ Nothing
          ∷ Answered 49 B (call.Mkdir (codes "e" ∷ [])) (answer.Reply (reply.Refused no.Exists)) None ∷ Waits 50 B (call.Rmdir (codes "d" ∷ []))
          ∷ Durable A (13 ∷ []) ∷ Answered 50 B (call.Rmdir (codes "d" ∷ [])) (answer.Reply (reply.Refused no.NotEmpty)) None
          ∷ Waits 51 B (call.Write (codes "e" ∷ codes "a" ∷ []) 0 (codes "a"))
          ∷ Answered 51 B (call.Write (codes "e" ∷ codes "a" ∷ []) 0 (codes "a")) (answer.Reply reply.Ok) (Some 12)
          ∷ Waits 52 B (call.Read (codes "d" ∷ codes "a" ∷ []) 1 0)
          ∷ Answered 52 B (call.Read (codes "d" ∷ codes "a" ∷ []) 1 0) (answer.Reply (reply.Data [])) None
          ∷ Waits 53 A (call.SetLen (codes "e" ∷ codes "a" ∷ []) 0) ∷ Durable B (12 ∷ [])
          ∷ Answered 53 A (call.SetLen (codes "e" ∷ codes "a" ∷ []) 0) (answer.Reply reply.Ok) (Some 14)
          ∷ Answered 54 B (call.Mkdir (codes "d" ∷ codes "e" ∷ [])) (answer.Reply (reply.Refused no.Exists)) None ∷ Nothing
          ∷ Answered 56 B (call.Mkdir (codes "d" ∷ [])) (answer.Reply (reply.Refused no.Exists)) None ∷ Waits 57 A (call.Create (codes "b" ∷ []))
          ∷ Answered 57 A (call.Create (codes "b" ∷ [])) (answer.Reply reply.Ok) (Some 15)
          ∷ Waits 58 A (call.Forder ((codes "d" ∷ []) ∷ (codes "d" ∷ codes "e" ∷ []) ∷ []))
          ∷ Answered 58 A (call.Forder ((codes "d" ∷ []) ∷ (codes "d" ∷ codes "e" ∷ []) ∷ [])) (answer.Reply reply.Ok) (Some 16)
          ∷ Waits 59 B (call.Read (codes "b" ∷ []) 0 9) ∷ Durable A (15 ∷ [])
          ∷ Answered 59 B (call.Read (codes "b" ∷ []) 0 9) (answer.Reply (reply.Data [])) None ∷ Waits 60 B (call.Remove (codes "e" ∷ codes "a" ∷ []))
          ∷ Durable A (14 ∷ []) ∷ Answered 60 B (call.Remove (codes "e" ∷ codes "a" ∷ [])) (answer.Reply reply.Ok) (Some 13) ∷ [];
      status = 0;
    }
