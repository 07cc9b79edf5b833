-- Random scripts with no fault.
use Rattle.std.specs.Prelude.{[], ◌∷◌, None, Some, codes}
use Rattle.ec_volume.specs.declared.image.Kind.TheVariants as kind
use Rattle.ec_plain.specs.declared.call.Call.TheVariants as call
use Rattle.ec_plain.specs.declared.call.Reply.TheVariants as reply
use Rattle.ec_plain.specs.declared.call.Refusal.TheVariants as no
use Rattle.ec_history.specs.declared.entry.Answer.TheVariants as answer
use Rattle.ec_history.specs.declared.shown.Shown.TheVariants.{Waits, Answered, Durable, Nothing}
use Rattle.ec_protocol.specs.declared.script.Line.TheVariants as line
use Rattle.ec_protocol.specs.Drill.{reads}
use Rattle.ec_protocol.specs.Runs.{Run, A, B, C, D}

abbrev pub plain_22 : Run
plain_22 =
    record {
      lines =
          reads (line.Call A (call.Write (codes "e" ∷ codes "a" ∷ []) 3 (codes "z"))) 16
          ∷ reads (line.Call A (call.Write (codes "e" ∷ codes "a" ∷ []) 0 (codes "y"))) 16
          ∷ reads (line.Call B call.Sync) 3
          ∷ reads (line.Call C (call.Fsync [])) 9
          ∷ reads (line.Call A (call.Rename (codes "d" ∷ codes "b" ∷ []) (codes "e" ∷ codes "a" ∷ []))) 15
          ∷ reads (line.Call C (call.Write (codes "b" ∷ []) 4 (codes "xc"))) 14
          ∷ reads (line.Call C (call.Write (codes "b" ∷ []) 0 (codes "y"))) 14
          ∷ reads (line.Call C (call.Write (codes "b" ∷ []) 4 (codes "aa"))) 14
          ∷ reads (line.Call A (call.SetLen (codes "e" ∷ codes "a" ∷ []) 1)) 15
          ∷ reads (line.Call D (call.Remove (codes "d" ∷ codes "b" ∷ []))) 10
          ∷ reads (line.Call A (call.Read (codes "d" ∷ codes "e" ∷ codes "a" ∷ []) 1 2)) 17
          ∷ reads (line.Call C (call.SetLen (codes "e" ∷ codes "a" ∷ []) 0)) 15
          ∷ reads (line.Call B (call.Rename (codes "d" ∷ codes "e" ∷ []) (codes "d" ∷ []))) 15
          ∷ reads (line.Call A (call.List (codes "d" ∷ codes "k" ∷ []))) 8
          ∷ reads (line.Call D (call.Read (codes "b" ∷ []) 0 9)) 13
          ∷ reads (line.Call D (call.Read (codes "d" ∷ codes "a" ∷ []) 0 2)) 15
          ∷ reads (line.Call A (call.Fsync (codes "e" ∷ codes "a" ∷ []))) 9
          ∷ reads (line.Call A (call.Create (codes "b" ∷ []))) 10
          ∷ reads (line.Call A (call.Stat (codes "b" ∷ []))) 8
          ∷ reads (line.Call A (call.Write (codes "b" ∷ []) 3 (codes "ab"))) 14
          ∷ reads (line.Call A (call.Write (codes "b" ∷ []) 3 (codes "a"))) 14
          ∷ reads (line.Call D (call.Rename (codes "b" ∷ []) (codes "a" ∷ []))) 13
          ∷ reads (line.Call B (call.Write (codes "a" ∷ []) 3 (codes "b"))) 14
          ∷ reads (line.Call D (call.SetLen (codes "a" ∷ []) 1)) 13
          ∷ reads (line.Call C (call.Remove (codes "a" ∷ []))) 10
          ∷ reads (line.Push D 1) 8
          ∷ reads (line.Push C 1) 8
          ∷ reads (line.Call B (call.Create (codes "a" ∷ []))) 10
          ∷ reads (line.Call D (call.Stat (codes "d" ∷ codes "k" ∷ []))) 8
          ∷ reads (line.Call A (call.Write (codes "a" ∷ []) 2 (codes "c"))) 14
          ∷ reads (line.Call A (call.Write (codes "a" ∷ []) 1 (codes "cy"))) 14
          ∷ reads (line.Push A 5) 8
          ∷ reads (line.Call A (call.List [])) 8
          ∷ reads (line.Call C (call.Read (codes "b" ∷ []) 0 9)) 13
          ∷ reads (line.Call B (call.Read (codes "a" ∷ []) 0 9)) 13
          ∷ reads (line.Call A (call.Touch (codes "d" ∷ codes "e" ∷ []) 7)) 14
          ∷ reads (line.Call B (call.List [])) 8
          ∷ reads (line.Call C (call.Mkdir (codes "e" ∷ []))) 9
          ∷ reads (line.Call B (call.Fsync (codes "a" ∷ []))) 9
          ∷ reads (line.Call C (call.Stat [])) 8
          ∷ reads (line.Call C (call.Touch (codes "a" ∷ []) 2)) 12
          ∷ reads (line.Call C (call.Mkdir (codes "d" ∷ []))) 9
          ∷ reads (line.Call A (call.Forder ([] ∷ (codes "e" ∷ []) ∷ (codes "a" ∷ []) ∷ []))) 15
          ∷ reads (line.Call A (call.Rename (codes "e" ∷ []) (codes "d" ∷ codes "k" ∷ []))) 13
          ∷ reads (line.Call C (call.Rmdir [])) 9
          ∷ reads (line.Call A (call.Write (codes "a" ∷ []) 4 (codes "cc"))) 14
          ∷ reads (line.Call C (call.SetLen (codes "a" ∷ []) 4)) 13
          ∷ reads (line.Call B (call.Write (codes "a" ∷ []) 2 (codes "y"))) 14
          ∷ reads (line.Call A (call.Write (codes "a" ∷ []) 3 (codes "y"))) 14
          ∷ reads (line.Call A (call.Write (codes "a" ∷ []) 4 (codes "ba"))) 14
          ∷ reads (line.Call C (call.Touch (codes "a" ∷ []) 3)) 12
          ∷ reads (line.Call C (call.Create (codes "d" ∷ codes "b" ∷ []))) 10
          ∷ reads (line.Push D 2) 8
          ∷ reads (line.Call A (call.Mkdir (codes "d" ∷ codes "k" ∷ []))) 9
          ∷ reads (line.Call B (call.Write (codes "a" ∷ []) 2 (codes "c"))) 14
          ∷ reads (line.Call B (call.Write (codes "a" ∷ []) 0 (codes "y"))) 14
          ∷ reads (line.Call B (call.Write (codes "a" ∷ []) 0 (codes "z"))) 14
          ∷ reads (line.Call C (call.Rmdir (codes "d" ∷ codes "k" ∷ []))) 9
          ∷ reads (line.Call B (call.Write (codes "a" ∷ []) 2 (codes "ya"))) 14
          ∷ reads (line.Call B (call.Write (codes "a" ∷ []) 1 (codes "by"))) 14
          ∷ reads (line.Push B 8) 8
          ∷ [];
      fates = [];
      max_objects = 1024;
      shown =
          Waits 1 A (call.Write (codes "e" ∷ codes "a" ∷ []) 3 (codes "z"))
          ∷ Answered 1 A (call.Write (codes "e" ∷ codes "a" ∷ []) 3 (codes "z")) (answer.Reply (reply.Refused (no.NotFound 1))) None
          ∷ Answered 2 A (call.Write (codes "e" ∷ codes "a" ∷ []) 0 (codes "y")) (answer.Reply (reply.Refused (no.NotFound 1))) None
          ∷ Answered 3 B call.Sync (answer.Reply reply.Ok) None
          ∷ Waits 4 C (call.Fsync [])
          ∷ Answered 4 C (call.Fsync []) (answer.Reply reply.Ok) None
          ∷ Answered 5 A (call.Rename (codes "d" ∷ codes "b" ∷ []) (codes "e" ∷ codes "a" ∷ [])) (answer.Reply (reply.Refused (no.NotFound 1))) None
          ∷ Answered 6 C (call.Write (codes "b" ∷ []) 4 (codes "xc")) (answer.Reply (reply.Refused (no.NotFound 1))) None
          ∷ Answered 7 C (call.Write (codes "b" ∷ []) 0 (codes "y")) (answer.Reply (reply.Refused (no.NotFound 1))) None
          ∷ Answered 8 C (call.Write (codes "b" ∷ []) 4 (codes "aa")) (answer.Reply (reply.Refused (no.NotFound 1))) None
          ∷ Answered 9 A (call.SetLen (codes "e" ∷ codes "a" ∷ []) 1) (answer.Reply (reply.Refused (no.NotFound 1))) None
          ∷ Waits 10 D (call.Remove (codes "d" ∷ codes "b" ∷ []))
          ∷ Answered 10 D (call.Remove (codes "d" ∷ codes "b" ∷ [])) (answer.Reply (reply.Refused (no.NotFound 1))) None
          ∷ Answered 11 A (call.Read (codes "d" ∷ codes "e" ∷ codes "a" ∷ []) 1 2) (answer.Reply (reply.Refused (no.NotFound 1))) None
          ∷ Answered 12 C (call.SetLen (codes "e" ∷ codes "a" ∷ []) 0) (answer.Reply (reply.Refused (no.NotFound 1))) None
          ∷ Waits 13 B (call.Rename (codes "d" ∷ codes "e" ∷ []) (codes "d" ∷ []))
          ∷ Answered 13 B (call.Rename (codes "d" ∷ codes "e" ∷ []) (codes "d" ∷ [])) (answer.Reply (reply.Refused (no.NotFound 1))) None
          ∷ Answered 14 A (call.List (codes "d" ∷ codes "k" ∷ [])) (answer.Reply (reply.Refused (no.NotFound 1))) None
          ∷ Answered 15 D (call.Read (codes "b" ∷ []) 0 9) (answer.Reply (reply.Refused (no.NotFound 1))) None
          ∷ Answered 16 D (call.Read (codes "d" ∷ codes "a" ∷ []) 0 2) (answer.Reply (reply.Refused (no.NotFound 1))) None
          ∷ Answered 17 A (call.Fsync (codes "e" ∷ codes "a" ∷ [])) (answer.Reply (reply.Refused (no.NotFound 1))) None
          ∷ Waits 18 A (call.Create (codes "b" ∷ []))
          ∷ Answered 18 A (call.Create (codes "b" ∷ [])) (answer.Reply reply.Ok) (Some 1)
          ∷ Answered 19 A (call.Stat (codes "b" ∷ [])) (answer.Reply (reply.Stat kind.File 420 0 0 0)) None
          ∷ Answered 20 A (call.Write (codes "b" ∷ []) 3 (codes "ab")) (answer.Reply reply.Ok) (Some 2)
          ∷ Answered 21 A (call.Write (codes "b" ∷ []) 3 (codes "a")) (answer.Reply reply.Ok) (Some 3)
          ∷ Waits 22 D (call.Rename (codes "b" ∷ []) (codes "a" ∷ []))
          ∷ Durable A (1 ∷ [])
          ∷ Durable A (2 ∷ 3 ∷ [])
          ∷ Answered 22 D (call.Rename (codes "b" ∷ []) (codes "a" ∷ [])) (answer.Reply reply.Ok) (Some 1)
          ∷ Waits 23 B (call.Write (codes "a" ∷ []) 3 (codes "b"))
          ∷ Durable D (1 ∷ [])
          ∷ Answered 23 B (call.Write (codes "a" ∷ []) 3 (codes "b")) (answer.Reply reply.Ok) (Some 1)
          ∷ Waits 24 D (call.SetLen (codes "a" ∷ []) 1)
          ∷ Durable B (1 ∷ [])
          ∷ Answered 24 D (call.SetLen (codes "a" ∷ []) 1) (answer.Reply reply.Ok) (Some 2)
          ∷ Waits 25 C (call.Remove (codes "a" ∷ []))
          ∷ Durable D (2 ∷ [])
          ∷ Answered 25 C (call.Remove (codes "a" ∷ [])) (answer.Reply reply.Ok) (Some 1)
          ∷ Nothing
          ∷ Durable C (1 ∷ [])
          ∷ Waits 28 B (call.Create (codes "a" ∷ []))
          ∷ Answered 28 B (call.Create (codes "a" ∷ [])) (answer.Reply reply.Ok) (Some 2)
          ∷ Waits 29 D (call.Stat (codes "d" ∷ codes "k" ∷ []))
          ∷ Durable B (2 ∷ [])
          ∷ Answered 29 D (call.Stat (codes "d" ∷ codes "k" ∷ [])) (answer.Reply (reply.Refused (no.NotFound 1))) None
          ∷ Waits 30 A (call.Write (codes "a" ∷ []) 2 (codes "c"))
          ∷ Answered 30 A (call.Write (codes "a" ∷ []) 2 (codes "c")) (answer.Reply reply.Ok) (Some 4)
          ∷ Answered 31 A (call.Write (codes "a" ∷ []) 1 (codes "cy")) (answer.Reply reply.Ok) (Some 5)
          ∷ Durable A (4 ∷ 5 ∷ [])
          ∷ Answered 33 A (call.List []) (answer.Reply (reply.Names (codes "a" ∷ []))) None
          ∷ Waits 34 C (call.Read (codes "b" ∷ []) 0 9)
          ∷ Answered 34 C (call.Read (codes "b" ∷ []) 0 9) (answer.Reply (reply.Refused (no.NotFound 1))) None
          ∷ Waits 35 B (call.Read (codes "a" ∷ []) 0 9)
          ∷ Answered 35 B (call.Read (codes "a" ∷ []) 0 9) (answer.Reply (reply.Data (0 ∷ 99 ∷ 121 ∷ []))) None
          ∷ Answered 36 A (call.Touch (codes "d" ∷ codes "e" ∷ []) 7) (answer.Reply (reply.Refused (no.NotFound 1))) None
          ∷ Answered 37 B (call.List []) (answer.Reply (reply.Names (codes "a" ∷ []))) None
          ∷ Waits 38 C (call.Mkdir (codes "e" ∷ []))
          ∷ Answered 38 C (call.Mkdir (codes "e" ∷ [])) (answer.Reply reply.Ok) (Some 2)
          ∷ Waits 39 B (call.Fsync (codes "a" ∷ []))
          ∷ Durable C (2 ∷ [])
          ∷ Answered 39 B (call.Fsync (codes "a" ∷ [])) (answer.Reply reply.Ok) None
          ∷ Answered 40 C (call.Stat []) (answer.Reply (reply.Stat kind.Dir 493 0 0 2)) None
          ∷ Waits 41 C (call.Touch (codes "a" ∷ []) 2)
          ∷ Answered 41 C (call.Touch (codes "a" ∷ []) 2) (answer.Reply reply.Ok) (Some 3)
          ∷ Waits 42 C (call.Mkdir (codes "d" ∷ []))
          ∷ Answered 42 C (call.Mkdir (codes "d" ∷ [])) (answer.Reply reply.Ok) (Some 4)
          ∷ Waits 43 A (call.Forder ([] ∷ (codes "e" ∷ []) ∷ (codes "a" ∷ []) ∷ []))
          ∷ Durable C (4 ∷ [])
          ∷ Durable C (3 ∷ [])
          ∷ Answered 43 A (call.Forder ([] ∷ (codes "e" ∷ []) ∷ (codes "a" ∷ []) ∷ [])) (answer.Reply reply.Ok) (Some 6)
          ∷ Waits 44 A (call.Rename (codes "e" ∷ []) (codes "d" ∷ codes "k" ∷ []))
          ∷ Answered 44 A (call.Rename (codes "e" ∷ []) (codes "d" ∷ codes "k" ∷ [])) (answer.Reply reply.Ok) (Some 7)
          ∷ Answered 45 C (call.Rmdir []) (answer.Reply (reply.Refused no.Root)) None
          ∷ Answered 46 A (call.Write (codes "a" ∷ []) 4 (codes "cc")) (answer.Reply reply.Ok) (Some 8)
          ∷ Waits 47 C (call.SetLen (codes "a" ∷ []) 4)
          ∷ Durable A (6 ∷ 7 ∷ [])
          ∷ Durable A (8 ∷ [])
          ∷ Answered 47 C (call.SetLen (codes "a" ∷ []) 4) (answer.Reply reply.Ok) (Some 5)
          ∷ Waits 48 B (call.Write (codes "a" ∷ []) 2 (codes "y"))
          ∷ Durable C (5 ∷ [])
          ∷ Answered 48 B (call.Write (codes "a" ∷ []) 2 (codes "y")) (answer.Reply reply.Ok) (Some 3)
          ∷ Waits 49 A (call.Write (codes "a" ∷ []) 3 (codes "y"))
          ∷ Durable B (3 ∷ [])
          ∷ Answered 49 A (call.Write (codes "a" ∷ []) 3 (codes "y")) (answer.Reply reply.Ok) (Some 9)
          ∷ Answered 50 A (call.Write (codes "a" ∷ []) 4 (codes "ba")) (answer.Reply reply.Ok) (Some 10)
          ∷ Waits 51 C (call.Touch (codes "a" ∷ []) 3)
          ∷ Durable A (9 ∷ 10 ∷ [])
          ∷ Answered 51 C (call.Touch (codes "a" ∷ []) 3) (answer.Reply reply.Ok) (Some 6)
          ∷ Waits 52 C (call.Create (codes "d" ∷ codes "b" ∷ []))
          ∷ Answered 52 C (call.Create (codes "d" ∷ codes "b" ∷ [])) (answer.Reply reply.Ok) (Some 7)
          ∷ Nothing
          ∷ Waits 54 A (call.Mkdir (codes "d" ∷ codes "k" ∷ []))
          ∷ Durable C (7 ∷ [])
          ∷ Answered 54 A (call.Mkdir (codes "d" ∷ codes "k" ∷ [])) (answer.Reply (reply.Refused no.Exists)) None
          ∷ Waits 55 B (call.Write (codes "a" ∷ []) 2 (codes "c"))
          ∷ Durable C (6 ∷ [])
          ∷ Answered 55 B (call.Write (codes "a" ∷ []) 2 (codes "c")) (answer.Reply reply.Ok) (Some 4)
          ∷ Answered 56 B (call.Write (codes "a" ∷ []) 0 (codes "y")) (answer.Reply reply.Ok) (Some 5)
          ∷ Answered 57 B (call.Write (codes "a" ∷ []) 0 (codes "z")) (answer.Reply reply.Ok) (Some 6)
          ∷ Waits 58 C (call.Rmdir (codes "d" ∷ codes "k" ∷ []))
          ∷ Answered 58 C (call.Rmdir (codes "d" ∷ codes "k" ∷ [])) (answer.Reply reply.Ok) (Some 8)
          ∷ Answered 59 B (call.Write (codes "a" ∷ []) 2 (codes "ya")) (answer.Reply reply.Ok) (Some 7)
          ∷ Answered 60 B (call.Write (codes "a" ∷ []) 1 (codes "by")) (answer.Reply reply.Ok) (Some 8)
          ∷ Durable B (4 ∷ 7 ∷ 8 ∷ [])
          ∷ [];
      status = 0;
    }

abbrev pub plain_23 : Run
plain_23 =
    record {
      lines =
          reads (line.Call B (call.Mkdir (codes "d" ∷ []))) 9
          ∷ reads (line.Call A (call.Create (codes "a" ∷ []))) 10
          ∷ reads (line.Call A (call.Create (codes "b" ∷ []))) 10
          ∷ reads (line.Call B (call.Create (codes "d" ∷ codes "a" ∷ []))) 10
          ∷ reads (line.Call B (call.Read (codes "d" ∷ codes "a" ∷ []) 1 2)) 15
          ∷ reads (line.Call A (call.Forder ((codes "b" ∷ []) ∷ (codes "d" ∷ codes "a" ∷ []) ∷ []))) 13
          ∷ reads (line.Call A (call.Write (codes "b" ∷ []) 6 (codes "b"))) 14
          ∷ reads (line.Call A (call.Create (codes "d" ∷ codes "b" ∷ []))) 10
          ∷ reads (line.Call A (call.Write (codes "d" ∷ codes "b" ∷ []) 1 (codes "yc"))) 16
          ∷ reads (line.Call B (call.Remove (codes "b" ∷ []))) 10
          ∷ reads (line.Call A (call.Write (codes "a" ∷ []) 4 (codes "cy"))) 14
          ∷ reads (line.Call B (call.Read (codes "d" ∷ codes "b" ∷ []) 1 64)) 15
          ∷ reads (line.Call A (call.Rename (codes "d" ∷ []) (codes "d" ∷ codes "z" ∷ []))) 13
          ∷ reads (line.Call B (call.Forder ([] ∷ (codes "d" ∷ codes "e" ∷ codes "a" ∷ []) ∷ []))) 12
          ∷ reads (line.Call A (call.Stat (codes "d" ∷ codes "a" ∷ []))) 8
          ∷ reads (line.Call A (call.Write (codes "d" ∷ codes "a" ∷ []) 1 (codes "bzbxb"))) 16
          ∷ reads (line.Call A (call.Create (codes "b" ∷ []))) 10
          ∷ reads (line.Call A (call.Rename (codes "d" ∷ codes "b" ∷ []) (codes "e" ∷ codes "a" ∷ []))) 15
          ∷ reads (line.Call B (call.Fsync (codes "a" ∷ []))) 9
          ∷ reads (line.Call B (call.Remove (codes "b" ∷ []))) 10
          ∷ reads (line.Call B (call.Write (codes "d" ∷ codes "b" ∷ []) 0 (codes "byb"))) 16
          ∷ reads (line.Call B (call.Forder ((codes "d" ∷ []) ∷ (codes "a" ∷ []) ∷ []))) 13
          ∷ reads (line.Call B (call.Rename (codes "a" ∷ []) (codes "a" ∷ []))) 13
          ∷ reads (line.Call A (call.Fsync (codes "d" ∷ []))) 9
          ∷ reads (line.Call A (call.List [])) 8
          ∷ reads (line.Call A (call.Chown (codes "d" ∷ codes "b" ∷ []) 8)) 14
          ∷ reads (line.Call A (call.Chmod [] 384)) 11
          ∷ reads (line.Call B (call.Fsync [])) 9
          ∷ reads (line.Call A (call.Mkdir (codes "e" ∷ []))) 9
          ∷ reads (line.Call B (call.Create (codes "e" ∷ codes "a" ∷ []))) 10
          ∷ reads (line.Call B (call.Chmod (codes "e" ∷ codes "a" ∷ []) 493)) 14
          ∷ reads (line.Call B (call.Remove (codes "d" ∷ codes "a" ∷ []))) 10
          ∷ reads (line.Call A (call.Write (codes "d" ∷ codes "b" ∷ []) 3 (codes "zy"))) 16
          ∷ reads (line.Call A (call.Chmod [] 4095)) 11
          ∷ reads (line.Call A (call.SetLen (codes "d" ∷ codes "b" ∷ []) 1)) 15
          ∷ reads (line.Call A (call.Write (codes "d" ∷ codes "b" ∷ []) 2 (codes "c"))) 16
          ∷ reads (line.Call B (call.Write (codes "a" ∷ []) 3 (codes "yyyzz"))) 14
          ∷ reads (line.Call B (call.SetLen (codes "d" ∷ codes "b" ∷ []) 1)) 15
          ∷ reads (line.Call B (call.Write (codes "d" ∷ codes "b" ∷ []) 0 (codes "yc"))) 16
          ∷ reads (line.Call B (call.Forder ((codes "e" ∷ codes "a" ∷ []) ∷ (codes "d" ∷ codes "b" ∷ []) ∷ (codes "a" ∷ []) ∷ []))) 20
          ∷ reads (line.Call A (call.Create (codes "b" ∷ []))) 10
          ∷ reads (line.Call A (call.Read (codes "d" ∷ codes "b" ∷ []) 0 0)) 15
          ∷ reads (line.Call B (call.SetLen (codes "d" ∷ codes "b" ∷ []) 1)) 15
          ∷ reads (line.Call B (call.Write (codes "e" ∷ codes "a" ∷ []) 2 (codes "c"))) 16
          ∷ reads (line.Call A (call.Write (codes "a" ∷ []) 0 (codes "ya"))) 14
          ∷ reads (line.Call B (call.Rename (codes "d" ∷ codes "b" ∷ []) (codes "a" ∷ []))) 15
          ∷ reads (line.Call B (call.Remove (codes "b" ∷ []))) 10
          ∷ reads (line.Call A (call.Read (codes "a" ∷ []) 0 2)) 13
          ∷ reads (line.Call A (call.Create (codes "d" ∷ codes "b" ∷ []))) 10
          ∷ reads (line.Call B (call.SetLen (codes "e" ∷ codes "a" ∷ []) 1)) 15
          ∷ reads (line.Call B (call.Write (codes "e" ∷ codes "a" ∷ []) 4 (codes "yy"))) 16
          ∷ reads (line.Call A (call.Mkdir (codes "d" ∷ codes "k" ∷ []))) 9
          ∷ reads (line.Call A (call.Remove (codes "d" ∷ codes "b" ∷ []))) 10
          ∷ reads (line.Call B (call.Fsync (codes "e" ∷ codes "a" ∷ []))) 9
          ∷ reads (line.Call B (call.Rename (codes "d" ∷ []) (codes "d" ∷ []))) 13
          ∷ reads (line.Call B (call.Create (codes "d" ∷ codes "a" ∷ []))) 10
          ∷ reads (line.Call B (call.Write (codes "a" ∷ []) 0 (codes "bazyc"))) 14
          ∷ reads (line.Call B (call.Chown [] 1)) 11
          ∷ reads (line.Call A (call.Write (codes "e" ∷ codes "a" ∷ []) 4 (codes "yzb"))) 16
          ∷ reads (line.Call A (call.Create (codes "d" ∷ codes "b" ∷ []))) 10
          ∷ [];
      fates = [];
      max_objects = 1024;
      shown =
          Waits 1 B (call.Mkdir (codes "d" ∷ []))
          ∷ Answered 1 B (call.Mkdir (codes "d" ∷ [])) (answer.Reply reply.Ok) (Some 1)
          ∷ Waits 2 A (call.Create (codes "a" ∷ []))
          ∷ Durable B (1 ∷ [])
          ∷ Answered 2 A (call.Create (codes "a" ∷ [])) (answer.Reply reply.Ok) (Some 1)
          ∷ Answered 3 A (call.Create (codes "b" ∷ [])) (answer.Reply reply.Ok) (Some 2)
          ∷ Waits 4 B (call.Create (codes "d" ∷ codes "a" ∷ []))
          ∷ Durable A (1 ∷ 2 ∷ [])
          ∷ Answered 4 B (call.Create (codes "d" ∷ codes "a" ∷ [])) (answer.Reply reply.Ok) (Some 2)
          ∷ Answered 5 B (call.Read (codes "d" ∷ codes "a" ∷ []) 1 2) (answer.Reply (reply.Data [])) None
          ∷ Waits 6 A (call.Forder ((codes "b" ∷ []) ∷ (codes "d" ∷ codes "a" ∷ []) ∷ []))
          ∷ Durable B (2 ∷ [])
          ∷ Answered 6 A (call.Forder ((codes "b" ∷ []) ∷ (codes "d" ∷ codes "a" ∷ []) ∷ [])) (answer.Reply reply.Ok) (Some 3)
          ∷ Answered 7 A (call.Write (codes "b" ∷ []) 6 (codes "b")) (answer.Reply reply.Ok) (Some 4)
          ∷ Waits 8 A (call.Create (codes "d" ∷ codes "b" ∷ []))
          ∷ Answered 8 A (call.Create (codes "d" ∷ codes "b" ∷ [])) (answer.Reply reply.Ok) (Some 5)
          ∷ Answered 9 A (call.Write (codes "d" ∷ codes "b" ∷ []) 1 (codes "yc")) (answer.Reply reply.Ok) (Some 6)
          ∷ Waits 10 B (call.Remove (codes "b" ∷ []))
          ∷ Durable A (3 ∷ 4 ∷ [])
          ∷ Answered 10 B (call.Remove (codes "b" ∷ [])) (answer.Reply reply.Ok) (Some 3)
          ∷ Waits 11 A (call.Write (codes "a" ∷ []) 4 (codes "cy"))
          ∷ Durable B (3 ∷ [])
          ∷ Answered 11 A (call.Write (codes "a" ∷ []) 4 (codes "cy")) (answer.Reply reply.Ok) (Some 7)
          ∷ Waits 12 B (call.Read (codes "d" ∷ codes "b" ∷ []) 1 64)
          ∷ Durable A (5 ∷ [])
          ∷ Durable A (6 ∷ [])
          ∷ Answered 12 B (call.Read (codes "d" ∷ codes "b" ∷ []) 1 64) (answer.Reply (reply.Data (codes "yc"))) None
          ∷ Answered 13 A (call.Rename (codes "d" ∷ []) (codes "d" ∷ codes "z" ∷ [])) (answer.Reply (reply.Refused no.Loop)) None
          ∷ Answered 14 B (call.Forder ([] ∷ (codes "d" ∷ codes "e" ∷ codes "a" ∷ []) ∷ [])) (answer.Reply (reply.Refused (no.NotFound 2))) None
          ∷ Answered 15 A (call.Stat (codes "d" ∷ codes "a" ∷ [])) (answer.Reply (reply.Stat kind.File 420 0 0 0)) None
          ∷ Answered 16 A (call.Write (codes "d" ∷ codes "a" ∷ []) 1 (codes "bzbxb")) (answer.Reply reply.Ok) (Some 8)
          ∷ Waits 17 A (call.Create (codes "b" ∷ []))
          ∷ Answered 17 A (call.Create (codes "b" ∷ [])) (answer.Reply reply.Ok) (Some 9)
          ∷ Answered 18 A (call.Rename (codes "d" ∷ codes "b" ∷ []) (codes "e" ∷ codes "a" ∷ [])) (answer.Reply (reply.Refused (no.NotFound 1))) None
          ∷ Waits 19 B (call.Fsync (codes "a" ∷ []))
          ∷ Durable A (9 ∷ [])
          ∷ Durable A (7 ∷ [])
          ∷ Answered 19 B (call.Fsync (codes "a" ∷ [])) (answer.Reply reply.Ok) None
          ∷ Waits 20 B (call.Remove (codes "b" ∷ []))
          ∷ Answered 20 B (call.Remove (codes "b" ∷ [])) (answer.Reply reply.Ok) (Some 4)
          ∷ Waits 21 B (call.Write (codes "d" ∷ codes "b" ∷ []) 0 (codes "byb"))
          ∷ Answered 21 B (call.Write (codes "d" ∷ codes "b" ∷ []) 0 (codes "byb")) (answer.Reply reply.Ok) (Some 5)
          ∷ Waits 22 B (call.Forder ((codes "d" ∷ []) ∷ (codes "a" ∷ []) ∷ []))
          ∷ Answered 22 B (call.Forder ((codes "d" ∷ []) ∷ (codes "a" ∷ []) ∷ [])) (answer.Reply reply.Ok) (Some 6)
          ∷ Answered 23 B (call.Rename (codes "a" ∷ []) (codes "a" ∷ [])) (answer.Reply reply.Ok) None
          ∷ Waits 24 A (call.Fsync (codes "d" ∷ []))
          ∷ Durable B (4 ∷ [])
          ∷ Durable B (6 ∷ [])
          ∷ Answered 24 A (call.Fsync (codes "d" ∷ [])) (answer.Reply reply.Ok) None
          ∷ Answered 25 A (call.List []) (answer.Reply (reply.Names (codes "a" ∷ codes "d" ∷ []))) None
          ∷ Waits 26 A (call.Chown (codes "d" ∷ codes "b" ∷ []) 8)
          ∷ Durable B (5 ∷ [])
          ∷ Answered 26 A (call.Chown (codes "d" ∷ codes "b" ∷ []) 8) (answer.Reply reply.Ok) (Some 10)
          ∷ Waits 27 A (call.Chmod [] 384)
          ∷ Answered 27 A (call.Chmod [] 384) (answer.Reply reply.Ok) (Some 11)
          ∷ Waits 28 B (call.Fsync [])
          ∷ Durable A (11 ∷ [])
          ∷ Answered 28 B (call.Fsync []) (answer.Reply reply.Ok) None
          ∷ Waits 29 A (call.Mkdir (codes "e" ∷ []))
          ∷ Answered 29 A (call.Mkdir (codes "e" ∷ [])) (answer.Reply reply.Ok) (Some 12)
          ∷ Waits 30 B (call.Create (codes "e" ∷ codes "a" ∷ []))
          ∷ Durable A (12 ∷ [])
          ∷ Answered 30 B (call.Create (codes "e" ∷ codes "a" ∷ [])) (answer.Reply reply.Ok) (Some 7)
          ∷ Answered 31 B (call.Chmod (codes "e" ∷ codes "a" ∷ []) 493) (answer.Reply reply.Ok) (Some 8)
          ∷ Waits 32 B (call.Remove (codes "d" ∷ codes "a" ∷ []))
          ∷ Durable A (8 ∷ [])
          ∷ Answered 32 B (call.Remove (codes "d" ∷ codes "a" ∷ [])) (answer.Reply reply.Ok) (Some 9)
          ∷ Waits 33 A (call.Write (codes "d" ∷ codes "b" ∷ []) 3 (codes "zy"))
          ∷ Durable B (9 ∷ [])
          ∷ Answered 33 A (call.Write (codes "d" ∷ codes "b" ∷ []) 3 (codes "zy")) (answer.Reply reply.Ok) (Some 13)
          ∷ Waits 34 A (call.Chmod [] 4095)
          ∷ Answered 34 A (call.Chmod [] 4095) (answer.Reply reply.Ok) (Some 14)
          ∷ Answered 35 A (call.SetLen (codes "d" ∷ codes "b" ∷ []) 1) (answer.Reply reply.Ok) (Some 15)
          ∷ Answered 36 A (call.Write (codes "d" ∷ codes "b" ∷ []) 2 (codes "c")) (answer.Reply reply.Ok) (Some 16)
          ∷ Waits 37 B (call.Write (codes "a" ∷ []) 3 (codes "yyyzz"))
          ∷ Durable A (14 ∷ [])
          ∷ Answered 37 B (call.Write (codes "a" ∷ []) 3 (codes "yyyzz")) (answer.Reply reply.Ok) (Some 10)
          ∷ Waits 38 B (call.SetLen (codes "d" ∷ codes "b" ∷ []) 1)
          ∷ Durable A (10 ∷ 13 ∷ 15 ∷ 16 ∷ [])
          ∷ Answered 38 B (call.SetLen (codes "d" ∷ codes "b" ∷ []) 1) (answer.Reply reply.Ok) (Some 11)
          ∷ Answered 39 B (call.Write (codes "d" ∷ codes "b" ∷ []) 0 (codes "yc")) (answer.Reply reply.Ok) (Some 12)
          ∷ Answered 40 B (call.Forder ((codes "e" ∷ codes "a" ∷ []) ∷ (codes "d" ∷ codes "b" ∷ []) ∷ (codes "a" ∷ []) ∷ [])) (answer.Reply reply.Ok) (Some 13)
          ∷ Waits 41 A (call.Create (codes "b" ∷ []))
          ∷ Answered 41 A (call.Create (codes "b" ∷ [])) (answer.Reply reply.Ok) (Some 17)
          ∷ Waits 42 A (call.Read (codes "d" ∷ codes "b" ∷ []) 0 0)
          ∷ Durable B (7 ∷ 8 ∷ 10 ∷ 11 ∷ 12 ∷ 13 ∷ [])
          ∷ Answered 42 A (call.Read (codes "d" ∷ codes "b" ∷ []) 0 0) (answer.Reply (reply.Data [])) None
          ∷ Waits 43 B (call.SetLen (codes "d" ∷ codes "b" ∷ []) 1)
          ∷ Durable A (17 ∷ [])
          ∷ Answered 43 B (call.SetLen (codes "d" ∷ codes "b" ∷ []) 1) (answer.Reply reply.Ok) (Some 14)
          ∷ Answered 44 B (call.Write (codes "e" ∷ codes "a" ∷ []) 2 (codes "c")) (answer.Reply reply.Ok) (Some 15)
          ∷ Waits 45 A (call.Write (codes "a" ∷ []) 0 (codes "ya"))
          ∷ Answered 45 A (call.Write (codes "a" ∷ []) 0 (codes "ya")) (answer.Reply reply.Ok) (Some 18)
          ∷ Waits 46 B (call.Rename (codes "d" ∷ codes "b" ∷ []) (codes "a" ∷ []))
          ∷ Durable A (18 ∷ [])
          ∷ Answered 46 B (call.Rename (codes "d" ∷ codes "b" ∷ []) (codes "a" ∷ [])) (answer.Reply reply.Ok) (Some 16)
          ∷ Waits 47 B (call.Remove (codes "b" ∷ []))
          ∷ Answered 47 B (call.Remove (codes "b" ∷ [])) (answer.Reply reply.Ok) (Some 17)
          ∷ Waits 48 A (call.Read (codes "a" ∷ []) 0 2)
          ∷ Durable B (14 ∷ 16 ∷ 17 ∷ [])
          ∷ Answered 48 A (call.Read (codes "a" ∷ []) 0 2) (answer.Reply (reply.Data (codes "y"))) None
          ∷ Waits 49 A (call.Create (codes "d" ∷ codes "b" ∷ []))
          ∷ Answered 49 A (call.Create (codes "d" ∷ codes "b" ∷ [])) (answer.Reply reply.Ok) (Some 19)
          ∷ Answered 50 B (call.SetLen (codes "e" ∷ codes "a" ∷ []) 1) (answer.Reply reply.Ok) (Some 18)
          ∷ Answered 51 B (call.Write (codes "e" ∷ codes "a" ∷ []) 4 (codes "yy")) (answer.Reply reply.Ok) (Some 19)
          ∷ Answered 52 A (call.Mkdir (codes "d" ∷ codes "k" ∷ [])) (answer.Reply reply.Ok) (Some 20)
          ∷ Answered 53 A (call.Remove (codes "d" ∷ codes "b" ∷ [])) (answer.Reply reply.Ok) (Some 21)
          ∷ Waits 54 B (call.Fsync (codes "e" ∷ codes "a" ∷ []))
          ∷ Durable B (15 ∷ 18 ∷ 19 ∷ [])
          ∷ Answered 54 B (call.Fsync (codes "e" ∷ codes "a" ∷ [])) (answer.Reply reply.Ok) None
          ∷ Waits 55 B (call.Rename (codes "d" ∷ []) (codes "d" ∷ []))
          ∷ Durable A (19 ∷ 20 ∷ 21 ∷ [])
          ∷ Answered 55 B (call.Rename (codes "d" ∷ []) (codes "d" ∷ [])) (answer.Reply reply.Ok) None
          ∷ Waits 56 B (call.Create (codes "d" ∷ codes "a" ∷ []))
          ∷ Answered 56 B (call.Create (codes "d" ∷ codes "a" ∷ [])) (answer.Reply reply.Ok) (Some 20)
          ∷ Waits 57 B (call.Write (codes "a" ∷ []) 0 (codes "bazyc"))
          ∷ Answered 57 B (call.Write (codes "a" ∷ []) 0 (codes "bazyc")) (answer.Reply reply.Ok) (Some 21)
          ∷ Waits 58 B (call.Chown [] 1)
          ∷ Answered 58 B (call.Chown [] 1) (answer.Reply reply.Ok) (Some 22)
          ∷ Waits 59 A (call.Write (codes "e" ∷ codes "a" ∷ []) 4 (codes "yzb"))
          ∷ Durable B (22 ∷ [])
          ∷ Answered 59 A (call.Write (codes "e" ∷ codes "a" ∷ []) 4 (codes "yzb")) (answer.Reply reply.Ok) (Some 22)
          ∷ Waits 60 A (call.Create (codes "d" ∷ codes "b" ∷ []))
          ∷ Durable B (20 ∷ [])
          ∷ Answered 60 A (call.Create (codes "d" ∷ codes "b" ∷ [])) (answer.Reply reply.Ok) (Some 23)
          ∷ [];
      status = 0;
    }

abbrev pub plain_24 : Run
plain_24 =
    record {
      lines =
          reads (line.Call A (call.Mkdir (codes "d" ∷ []))) 9
          ∷ reads (line.Call A (call.Create (codes "a" ∷ []))) 10
          ∷ reads (line.Call A (call.Write (codes "a" ∷ []) 0 (codes "abcdefgh"))) 14
          ∷ reads (line.Call A (call.Create (codes "b" ∷ []))) 10
          ∷ reads (line.Call A (call.Write (codes "b" ∷ []) 0 (codes "abcdefgh"))) 14
          ∷ reads (line.Call A (call.Create (codes "d" ∷ codes "a" ∷ []))) 10
          ∷ reads (line.Call A (call.Write (codes "d" ∷ codes "a" ∷ []) 0 (codes "abcdefgh"))) 16
          ∷ reads (line.Call A call.Sync) 3
          ∷ reads (line.Call A (call.Write (codes "b" ∷ []) 0 (codes "b"))) 14
          ∷ reads (line.Call A (call.Write (codes "d" ∷ codes "a" ∷ []) 2 (codes "ya"))) 16
          ∷ reads (line.Call A (call.Write (codes "d" ∷ codes "a" ∷ []) 2 (codes "yc"))) 16
          ∷ reads (line.Push A 9) 8
          ∷ reads (line.Call A (call.Write (codes "a" ∷ []) 6 (codes "yyc"))) 14
          ∷ reads (line.Call A (call.Mkdir (codes "e" ∷ []))) 9
          ∷ reads (line.Call A (call.Rename (codes "a" ∷ []) (codes "b" ∷ []))) 13
          ∷ reads (line.Call A (call.Write (codes "d" ∷ codes "a" ∷ []) 2 (codes "c"))) 16
          ∷ reads (line.Call A call.Sync) 3
          ∷ reads (line.Call A (call.Read (codes "b" ∷ []) 0 0)) 13
          ∷ reads (line.Call A (call.Write (codes "d" ∷ codes "a" ∷ []) 1 (codes "b"))) 16
          ∷ reads (line.Push A 15) 8
          ∷ reads (line.Call A (call.Mkdir (codes "d" ∷ codes "k" ∷ []))) 9
          ∷ reads (line.Call A (call.SetLen (codes "d" ∷ codes "a" ∷ []) 2)) 15
          ∷ reads (line.Call A (call.Touch (codes "d" ∷ codes "a" ∷ []) 0)) 14
          ∷ reads (line.Call A (call.Mkdir (codes "d" ∷ codes "e" ∷ []))) 9
          ∷ reads (line.Call A (call.Write (codes "b" ∷ []) 0 (0 ∷ 255 ∷ 37 ∷ []))) 14
          ∷ reads (line.Call A (call.Fsync (codes "e" ∷ []))) 9
          ∷ reads (line.Call A (call.Create (codes "d" ∷ codes "b" ∷ []))) 10
          ∷ reads (line.Call A (call.Create (codes "e" ∷ codes "a" ∷ []))) 10
          ∷ reads (line.Call A (call.Create (codes "a" ∷ []))) 10
          ∷ reads (line.Call A (call.Write (codes "b" ∷ []) 5 (codes "ax"))) 14
          ∷ reads (line.Call A (call.Write (codes "b" ∷ []) 3 (codes "c"))) 14
          ∷ reads (line.Call A (call.Chmod (codes "a" ∷ []) 493)) 12
          ∷ reads (line.Call A (call.Write (codes "a" ∷ []) 1 (codes "xb"))) 14
          ∷ reads (line.Call A (call.Rename (codes "d" ∷ codes "b" ∷ []) (codes "d" ∷ codes "b" ∷ []))) 15
          ∷ reads (line.Call A (call.Touch (codes "e" ∷ []) 5)) 12
          ∷ reads (line.Call A (call.Fsync (codes "d" ∷ codes "b" ∷ []))) 9
          ∷ reads (line.Call A (call.Create (codes "d" ∷ codes "e" ∷ codes "a" ∷ []))) 10
          ∷ reads (line.Call A (call.Write (codes "d" ∷ codes "a" ∷ []) 1 (codes "z"))) 16
          ∷ reads (line.Call A (call.Write (codes "b" ∷ []) 3 (codes "yz"))) 14
          ∷ reads (line.Call A (call.Write (codes "b" ∷ []) 0 (codes "b"))) 14
          ∷ reads (line.Push A 32) 8
          ∷ reads (line.Call A (call.Write (codes "e" ∷ codes "a" ∷ []) 3 (codes "a"))) 16
          ∷ reads (line.Call A (call.Read (codes "b" ∷ []) 0 9)) 13
          ∷ reads (line.Call A (call.Create (codes "a" ∷ []))) 10
          ∷ reads (line.Call A (call.SetLen (codes "d" ∷ codes "b" ∷ []) 0)) 15
          ∷ reads (line.Push A 28) 8
          ∷ reads (line.Call A (call.Write (codes "a" ∷ []) 5 (codes "y"))) 14
          ∷ reads (line.Call A (call.Write (codes "a" ∷ []) 3 (codes "yx"))) 14
          ∷ reads (line.Call A (call.Write (codes "a" ∷ []) 2 (codes "bb"))) 14
          ∷ reads (line.Call A (call.Read (codes "d" ∷ codes "e" ∷ codes "a" ∷ []) 0 9)) 17
          ∷ reads (line.Call A (call.Write (codes "b" ∷ []) 2 (codes "bac"))) 14
          ∷ reads (line.Call A (call.Create (codes "d" ∷ codes "a" ∷ []))) 10
          ∷ reads (line.Call A (call.Stat [])) 8
          ∷ reads (line.Call A (call.Create (codes "d" ∷ codes "e" ∷ codes "a" ∷ []))) 10
          ∷ reads (line.Call A (call.Stat (codes "d" ∷ codes "a" ∷ []))) 8
          ∷ reads (line.Call A (call.Create (codes "b" ∷ []))) 10
          ∷ reads (line.Call A (call.Chown (codes "b" ∷ []) 0)) 12
          ∷ reads (line.Call A (call.Create (codes "b" ∷ []))) 10
          ∷ reads (line.Call A (call.Remove (codes "a" ∷ []))) 10
          ∷ reads (line.Call A (call.Read (codes "d" ∷ codes "a" ∷ []) 0 2)) 15
          ∷ [];
      fates = [];
      max_objects = 1024;
      shown =
          Waits 1 A (call.Mkdir (codes "d" ∷ []))
          ∷ Answered 1 A (call.Mkdir (codes "d" ∷ [])) (answer.Reply reply.Ok) (Some 1)
          ∷ Answered 2 A (call.Create (codes "a" ∷ [])) (answer.Reply reply.Ok) (Some 2)
          ∷ Answered 3 A (call.Write (codes "a" ∷ []) 0 (codes "abcdefgh")) (answer.Reply reply.Ok) (Some 3)
          ∷ Answered 4 A (call.Create (codes "b" ∷ [])) (answer.Reply reply.Ok) (Some 4)
          ∷ Answered 5 A (call.Write (codes "b" ∷ []) 0 (codes "abcdefgh")) (answer.Reply reply.Ok) (Some 5)
          ∷ Answered 6 A (call.Create (codes "d" ∷ codes "a" ∷ [])) (answer.Reply reply.Ok) (Some 6)
          ∷ Answered 7 A (call.Write (codes "d" ∷ codes "a" ∷ []) 0 (codes "abcdefgh")) (answer.Reply reply.Ok) (Some 7)
          ∷ Waits 8 A call.Sync
          ∷ Durable A (1 ∷ 2 ∷ 3 ∷ 4 ∷ 5 ∷ 6 ∷ 7 ∷ [])
          ∷ Answered 8 A call.Sync (answer.Reply reply.Ok) None
          ∷ Answered 9 A (call.Write (codes "b" ∷ []) 0 (codes "b")) (answer.Reply reply.Ok) (Some 8)
          ∷ Answered 10 A (call.Write (codes "d" ∷ codes "a" ∷ []) 2 (codes "ya")) (answer.Reply reply.Ok) (Some 9)
          ∷ Answered 11 A (call.Write (codes "d" ∷ codes "a" ∷ []) 2 (codes "yc")) (answer.Reply reply.Ok) (Some 10)
          ∷ Durable A (9 ∷ [])
          ∷ Answered 13 A (call.Write (codes "a" ∷ []) 6 (codes "yyc")) (answer.Reply reply.Ok) (Some 11)
          ∷ Answered 14 A (call.Mkdir (codes "e" ∷ [])) (answer.Reply reply.Ok) (Some 12)
          ∷ Answered 15 A (call.Rename (codes "a" ∷ []) (codes "b" ∷ [])) (answer.Reply reply.Ok) (Some 13)
          ∷ Answered 16 A (call.Write (codes "d" ∷ codes "a" ∷ []) 2 (codes "c")) (answer.Reply reply.Ok) (Some 14)
          ∷ Waits 17 A call.Sync
          ∷ Durable A (8 ∷ 10 ∷ 11 ∷ 12 ∷ 13 ∷ 14 ∷ [])
          ∷ Answered 17 A call.Sync (answer.Reply reply.Ok) None
          ∷ Answered 18 A (call.Read (codes "b" ∷ []) 0 0) (answer.Reply (reply.Data [])) None
          ∷ Answered 19 A (call.Write (codes "d" ∷ codes "a" ∷ []) 1 (codes "b")) (answer.Reply reply.Ok) (Some 15)
          ∷ Durable A (15 ∷ [])
          ∷ Answered 21 A (call.Mkdir (codes "d" ∷ codes "k" ∷ [])) (answer.Reply reply.Ok) (Some 16)
          ∷ Answered 22 A (call.SetLen (codes "d" ∷ codes "a" ∷ []) 2) (answer.Reply reply.Ok) (Some 17)
          ∷ Answered 23 A (call.Touch (codes "d" ∷ codes "a" ∷ []) 0) (answer.Reply reply.Ok) (Some 18)
          ∷ Answered 24 A (call.Mkdir (codes "d" ∷ codes "e" ∷ [])) (answer.Reply reply.Ok) (Some 19)
          ∷ Answered 25 A (call.Write (codes "b" ∷ []) 0 (0 ∷ 255 ∷ 37 ∷ [])) (answer.Reply reply.Ok) (Some 20)
          ∷ Answered 26 A (call.Fsync (codes "e" ∷ [])) (answer.Reply reply.Ok) None
          ∷ Answered 27 A (call.Create (codes "d" ∷ codes "b" ∷ [])) (answer.Reply reply.Ok) (Some 21)
          ∷ Answered 28 A (call.Create (codes "e" ∷ codes "a" ∷ [])) (answer.Reply reply.Ok) (Some 22)
          ∷ Answered 29 A (call.Create (codes "a" ∷ [])) (answer.Reply reply.Ok) (Some 23)
          ∷ Answered 30 A (call.Write (codes "b" ∷ []) 5 (codes "ax")) (answer.Reply reply.Ok) (Some 24)
          ∷ Answered 31 A (call.Write (codes "b" ∷ []) 3 (codes "c")) (answer.Reply reply.Ok) (Some 25)
          ∷ Answered 32 A (call.Chmod (codes "a" ∷ []) 493) (answer.Reply reply.Ok) (Some 26)
          ∷ Answered 33 A (call.Write (codes "a" ∷ []) 1 (codes "xb")) (answer.Reply reply.Ok) (Some 27)
          ∷ Answered 34 A (call.Rename (codes "d" ∷ codes "b" ∷ []) (codes "d" ∷ codes "b" ∷ [])) (answer.Reply reply.Ok) None
          ∷ Answered 35 A (call.Touch (codes "e" ∷ []) 5) (answer.Reply reply.Ok) (Some 28)
          ∷ Waits 36 A (call.Fsync (codes "d" ∷ codes "b" ∷ []))
          ∷ Durable A (16 ∷ 19 ∷ 21 ∷ [])
          ∷ Answered 36 A (call.Fsync (codes "d" ∷ codes "b" ∷ [])) (answer.Reply reply.Ok) None
          ∷ Answered 37 A (call.Create (codes "d" ∷ codes "e" ∷ codes "a" ∷ [])) (answer.Reply reply.Ok) (Some 29)
          ∷ Answered 38 A (call.Write (codes "d" ∷ codes "a" ∷ []) 1 (codes "z")) (answer.Reply reply.Ok) (Some 30)
          ∷ Answered 39 A (call.Write (codes "b" ∷ []) 3 (codes "yz")) (answer.Reply reply.Ok) (Some 31)
          ∷ Answered 40 A (call.Write (codes "b" ∷ []) 0 (codes "b")) (answer.Reply reply.Ok) (Some 32)
          ∷ Durable A (20 ∷ 32 ∷ [])
          ∷ Answered 42 A (call.Write (codes "e" ∷ codes "a" ∷ []) 3 (codes "a")) (answer.Reply reply.Ok) (Some 33)
          ∷ Answered 43 A (call.Read (codes "b" ∷ []) 0 9) (answer.Reply (reply.Data (98 ∷ 255 ∷ 37 ∷ 121 ∷ 122 ∷ 97 ∷ 120 ∷ 121 ∷ 99 ∷ []))) None
          ∷ Answered 44 A (call.Create (codes "a" ∷ [])) (answer.Reply (reply.Refused no.Exists)) None
          ∷ Answered 45 A (call.SetLen (codes "d" ∷ codes "b" ∷ []) 0) (answer.Reply reply.Ok) (Some 34)
          ∷ Durable A (22 ∷ 28 ∷ [])
          ∷ Answered 47 A (call.Write (codes "a" ∷ []) 5 (codes "y")) (answer.Reply reply.Ok) (Some 35)
          ∷ Answered 48 A (call.Write (codes "a" ∷ []) 3 (codes "yx")) (answer.Reply reply.Ok) (Some 36)
          ∷ Answered 49 A (call.Write (codes "a" ∷ []) 2 (codes "bb")) (answer.Reply reply.Ok) (Some 37)
          ∷ Answered 50 A (call.Read (codes "d" ∷ codes "e" ∷ codes "a" ∷ []) 0 9) (answer.Reply (reply.Data [])) None
          ∷ Answered 51 A (call.Write (codes "b" ∷ []) 2 (codes "bac")) (answer.Reply reply.Ok) (Some 38)
          ∷ Answered 52 A (call.Create (codes "d" ∷ codes "a" ∷ [])) (answer.Reply (reply.Refused no.Exists)) None
          ∷ Answered 53 A (call.Stat []) (answer.Reply (reply.Stat kind.Dir 493 0 0 4)) None
          ∷ Answered 54 A (call.Create (codes "d" ∷ codes "e" ∷ codes "a" ∷ [])) (answer.Reply (reply.Refused no.Exists)) None
          ∷ Answered 55 A (call.Stat (codes "d" ∷ codes "a" ∷ [])) (answer.Reply (reply.Stat kind.File 420 0 0 2)) None
          ∷ Answered 56 A (call.Create (codes "b" ∷ [])) (answer.Reply (reply.Refused no.Exists)) None
          ∷ Answered 57 A (call.Chown (codes "b" ∷ []) 0) (answer.Reply reply.Ok) (Some 39)
          ∷ Answered 58 A (call.Create (codes "b" ∷ [])) (answer.Reply (reply.Refused no.Exists)) None
          ∷ Answered 59 A (call.Remove (codes "a" ∷ [])) (answer.Reply reply.Ok) (Some 40)
          ∷ Answered 60 A (call.Read (codes "d" ∷ codes "a" ∷ []) 0 2) (answer.Reply (reply.Data (codes "az"))) None
          ∷ [];
      status = 0;
    }
