-- Random scripts with no fault.
use Rattle.std.specs.Prelude.{[], ◌∷◌, None, Some, codes}
use Rattle.ec_volume.specs.declared.image.Kind.TheVariants as kind
use Rattle.ec_plain.specs.declared.call.Call.TheVariants as call
use Rattle.ec_plain.specs.declared.call.Reply.TheVariants as reply
use Rattle.ec_plain.specs.declared.call.Refusal.TheVariants as no
use Rattle.ec_history.specs.declared.entry.Answer.TheVariants as answer
use Rattle.ec_history.specs.declared.shown.Shown.TheVariants.{Waits, Answered, Durable, Nothing}
use Rattle.ec_protocol.specs.declared.script.Line.TheVariants as line
use Rattle.ec_protocol.specs.Drill.{reads}
use Rattle.ec_protocol.specs.Runs.{Run, A, B, C, D}

abbrev pub plain_8 : Run
plain_8 =
    record {
      lines =
          reads (line.Call B (call.Mkdir (codes "d" ∷ []))) 9 ∷ reads (line.Call C (call.Create (codes "a" ∷ []))) 10
          ∷ reads (line.Call C (call.Write (codes "a" ∷ []) 0 (codes "abcdefgh"))) 14 ∷ reads (line.Call A (call.Create (codes "b" ∷ []))) 10
          ∷ reads (line.Call A (call.Write (codes "b" ∷ []) 0 (codes "abcdefgh"))) 14
          ∷ reads (line.Call C (call.Create (codes "d" ∷ codes "a" ∷ []))) 10
          ∷ reads (line.Call C (call.Write (codes "d" ∷ codes "a" ∷ []) 0 (codes "abcdefgh"))) 16
          ∷ reads (line.Call B (call.Write (codes "a" ∷ []) 3 (codes "zc"))) 14 ∷ reads (line.Call B (call.Write (codes "a" ∷ []) 2 (codes "c"))) 14
          ∷ reads (line.Push B 3) 8 ∷ reads (line.Call B (call.Touch (codes "d" ∷ []) 2)) 12
          ∷ reads (line.Call A (call.Write (codes "b" ∷ []) 0 (codes "yz"))) 14 ∷ reads (line.Call A (call.Write (codes "b" ∷ []) 1 (codes "c"))) 14
          ∷ reads (line.Push A 3) 8 ∷ reads (line.Call C (call.Create (codes "d" ∷ codes "b" ∷ []))) 10
          ∷ reads (line.Call A (call.Rmdir (codes "d" ∷ []))) 9 ∷ reads (line.Call A (call.Write (codes "d" ∷ codes "a" ∷ []) 4 (codes "yy"))) 16
          ∷ reads (line.Call A (call.Write (codes "d" ∷ codes "a" ∷ []) 3 (codes "bx"))) 16
          ∷ reads (line.Call A (call.Write (codes "d" ∷ codes "a" ∷ []) 1 (codes "ac"))) 16
          ∷ reads (line.Call B (call.Mkdir (codes "d" ∷ codes "e" ∷ []))) 9
          ∷ reads (line.Call A (call.Rename (codes "d" ∷ codes "a" ∷ []) (codes "d" ∷ codes "b" ∷ []))) 15
          ∷ reads (line.Call A (call.Mkdir (codes "e" ∷ []))) 9 ∷ reads (line.Call A (call.Mkdir (codes "d" ∷ codes "k" ∷ []))) 9
          ∷ reads (line.Call B (call.Remove (codes "d" ∷ codes "b" ∷ []))) 10 ∷ reads (line.Call B (call.Mkdir (codes "d" ∷ []))) 9
          ∷ reads (line.Call A (call.Write (codes "a" ∷ []) 0 (codes "a"))) 14 ∷ reads (line.Call A (call.Write (codes "a" ∷ []) 2 (codes "za"))) 14
          ∷ reads (line.Push A 12) 8 ∷ reads (line.Call A (call.Write (codes "b" ∷ []) 6 (codes "aczbx"))) 14
          ∷ reads (line.Call C (call.Rename (codes "b" ∷ []) (codes "e" ∷ codes "a" ∷ []))) 13
          ∷ reads (line.Call A (call.Create (codes "d" ∷ codes "a" ∷ []))) 10 ∷ reads (line.Call C (call.Create (codes "b" ∷ []))) 10
          ∷ reads (line.Call C (call.Write (codes "d" ∷ codes "a" ∷ []) 3 (codes "cb"))) 16
          ∷ reads (line.Call C (call.Stat (codes "d" ∷ codes "a" ∷ []))) 8 ∷ reads (line.Call B (call.Fsync (codes "b" ∷ []))) 9
          ∷ reads (line.Call C (call.Write (codes "e" ∷ codes "a" ∷ []) 0 (codes "ya"))) 16
          ∷ reads (line.Call C (call.Write (codes "e" ∷ codes "a" ∷ []) 5 (codes "a"))) 16
          ∷ reads (line.Call B (call.Write (codes "d" ∷ codes "a" ∷ []) 0 (codes "ca"))) 16
          ∷ reads (line.Call B (call.Write (codes "d" ∷ codes "a" ∷ []) 0 (codes "yy"))) 16
          ∷ reads (line.Call A (call.List (codes "d" ∷ codes "k" ∷ []))) 8 ∷ [];
      fates = [];
      max_objects = 1024;
      shown =
          Waits 1 B (call.Mkdir (codes "d" ∷ [])) ∷ Answered 1 B (call.Mkdir (codes "d" ∷ [])) (answer.Reply reply.Ok) (Some 1)
          ∷ Waits 2 C (call.Create (codes "a" ∷ [])) ∷ Durable B (1 ∷ [])
          ∷ Answered 2 C (call.Create (codes "a" ∷ [])) (answer.Reply reply.Ok) (Some 1)
          ∷ Answered 3 C (call.Write (codes "a" ∷ []) 0 (codes "abcdefgh")) (answer.Reply reply.Ok) (Some 2)
          ∷ Waits 4 A (call.Create (codes "b" ∷ [])) ∷ Durable C (1 ∷ [])
          ∷ Answered 4 A (call.Create (codes "b" ∷ [])) (answer.Reply reply.Ok) (Some 1)
          ∷ Answered 5 A (call.Write (codes "b" ∷ []) 0 (codes "abcdefgh")) (answer.Reply reply.Ok) (Some 2)
          ∷ Waits 6 C (call.Create (codes "d" ∷ codes "a" ∷ [])) ∷ Durable A (1 ∷ [])
          ∷ Answered 6 C (call.Create (codes "d" ∷ codes "a" ∷ [])) (answer.Reply reply.Ok) (Some 3)
          ∷ Answered 7 C (call.Write (codes "d" ∷ codes "a" ∷ []) 0 (codes "abcdefgh")) (answer.Reply reply.Ok) (Some 4)
          ∷ Waits 8 B (call.Write (codes "a" ∷ []) 3 (codes "zc")) ∷ Durable C (2 ∷ [])
          ∷ Answered 8 B (call.Write (codes "a" ∷ []) 3 (codes "zc")) (answer.Reply reply.Ok) (Some 2)
          ∷ Answered 9 B (call.Write (codes "a" ∷ []) 2 (codes "c")) (answer.Reply reply.Ok) (Some 3) ∷ Durable B (3 ∷ [])
          ∷ Waits 11 B (call.Touch (codes "d" ∷ []) 2) ∷ Durable C (3 ∷ [])
          ∷ Answered 11 B (call.Touch (codes "d" ∷ []) 2) (answer.Reply reply.Ok) (Some 4)
          ∷ Answered 12 A (call.Write (codes "b" ∷ []) 0 (codes "yz")) (answer.Reply reply.Ok) (Some 3)
          ∷ Answered 13 A (call.Write (codes "b" ∷ []) 1 (codes "c")) (answer.Reply reply.Ok) (Some 4) ∷ Durable A (2 ∷ 3 ∷ [])
          ∷ Waits 15 C (call.Create (codes "d" ∷ codes "b" ∷ [])) ∷ Durable B (4 ∷ [])
          ∷ Answered 15 C (call.Create (codes "d" ∷ codes "b" ∷ [])) (answer.Reply reply.Ok) (Some 5) ∷ Waits 16 A (call.Rmdir (codes "d" ∷ []))
          ∷ Durable C (5 ∷ []) ∷ Answered 16 A (call.Rmdir (codes "d" ∷ [])) (answer.Reply (reply.Refused no.NotEmpty)) None
          ∷ Waits 17 A (call.Write (codes "d" ∷ codes "a" ∷ []) 4 (codes "yy")) ∷ Durable C (4 ∷ [])
          ∷ Answered 17 A (call.Write (codes "d" ∷ codes "a" ∷ []) 4 (codes "yy")) (answer.Reply reply.Ok) (Some 5)
          ∷ Answered 18 A (call.Write (codes "d" ∷ codes "a" ∷ []) 3 (codes "bx")) (answer.Reply reply.Ok) (Some 6)
          ∷ Answered 19 A (call.Write (codes "d" ∷ codes "a" ∷ []) 1 (codes "ac")) (answer.Reply reply.Ok) (Some 7)
          ∷ Waits 20 B (call.Mkdir (codes "d" ∷ codes "e" ∷ []))
          ∷ Answered 20 B (call.Mkdir (codes "d" ∷ codes "e" ∷ [])) (answer.Reply reply.Ok) (Some 5)
          ∷ Waits 21 A (call.Rename (codes "d" ∷ codes "a" ∷ []) (codes "d" ∷ codes "b" ∷ [])) ∷ Durable B (5 ∷ [])
          ∷ Answered 21 A (call.Rename (codes "d" ∷ codes "a" ∷ []) (codes "d" ∷ codes "b" ∷ [])) (answer.Reply reply.Ok) (Some 8)
          ∷ Waits 22 A (call.Mkdir (codes "e" ∷ [])) ∷ Answered 22 A (call.Mkdir (codes "e" ∷ [])) (answer.Reply reply.Ok) (Some 9)
          ∷ Answered 23 A (call.Mkdir (codes "d" ∷ codes "k" ∷ [])) (answer.Reply reply.Ok) (Some 10)
          ∷ Waits 24 B (call.Remove (codes "d" ∷ codes "b" ∷ [])) ∷ Durable A (9 ∷ []) ∷ Durable A (5 ∷ 6 ∷ 7 ∷ 8 ∷ 10 ∷ [])
          ∷ Answered 24 B (call.Remove (codes "d" ∷ codes "b" ∷ [])) (answer.Reply reply.Ok) (Some 6)
          ∷ Answered 25 B (call.Mkdir (codes "d" ∷ [])) (answer.Reply (reply.Refused no.Exists)) None
          ∷ Waits 26 A (call.Write (codes "a" ∷ []) 0 (codes "a")) ∷ Durable B (2 ∷ [])
          ∷ Answered 26 A (call.Write (codes "a" ∷ []) 0 (codes "a")) (answer.Reply reply.Ok) (Some 11)
          ∷ Answered 27 A (call.Write (codes "a" ∷ []) 2 (codes "za")) (answer.Reply reply.Ok) (Some 12) ∷ Durable A (12 ∷ [])
          ∷ Answered 29 A (call.Write (codes "b" ∷ []) 6 (codes "aczbx")) (answer.Reply reply.Ok) (Some 13)
          ∷ Waits 30 C (call.Rename (codes "b" ∷ []) (codes "e" ∷ codes "a" ∷ [])) ∷ Durable A (4 ∷ 13 ∷ [])
          ∷ Answered 30 C (call.Rename (codes "b" ∷ []) (codes "e" ∷ codes "a" ∷ [])) (answer.Reply reply.Ok) (Some 6)
          ∷ Waits 31 A (call.Create (codes "d" ∷ codes "a" ∷ [])) ∷ Durable C (6 ∷ []) ∷ Durable B (6 ∷ [])
          ∷ Answered 31 A (call.Create (codes "d" ∷ codes "a" ∷ [])) (answer.Reply reply.Ok) (Some 14) ∷ Waits 32 C (call.Create (codes "b" ∷ []))
          ∷ Answered 32 C (call.Create (codes "b" ∷ [])) (answer.Reply reply.Ok) (Some 7)
          ∷ Waits 33 C (call.Write (codes "d" ∷ codes "a" ∷ []) 3 (codes "cb")) ∷ Durable A (14 ∷ [])
          ∷ Answered 33 C (call.Write (codes "d" ∷ codes "a" ∷ []) 3 (codes "cb")) (answer.Reply reply.Ok) (Some 8)
          ∷ Answered 34 C (call.Stat (codes "d" ∷ codes "a" ∷ [])) (answer.Reply (reply.Stat kind.File 420 0 0 5)) None
          ∷ Waits 35 B (call.Fsync (codes "b" ∷ [])) ∷ Durable C (7 ∷ []) ∷ Answered 35 B (call.Fsync (codes "b" ∷ [])) (answer.Reply reply.Ok) None
          ∷ Answered 36 C (call.Write (codes "e" ∷ codes "a" ∷ []) 0 (codes "ya")) (answer.Reply reply.Ok) (Some 9)
          ∷ Answered 37 C (call.Write (codes "e" ∷ codes "a" ∷ []) 5 (codes "a")) (answer.Reply reply.Ok) (Some 10)
          ∷ Waits 38 B (call.Write (codes "d" ∷ codes "a" ∷ []) 0 (codes "ca")) ∷ Durable C (8 ∷ [])
          ∷ Answered 38 B (call.Write (codes "d" ∷ codes "a" ∷ []) 0 (codes "ca")) (answer.Reply reply.Ok) (Some 7)
          ∷ Answered 39 B (call.Write (codes "d" ∷ codes "a" ∷ []) 0 (codes "yy")) (answer.Reply reply.Ok) (Some 8)
          ∷ Waits 40 A (call.List (codes "d" ∷ codes "k" ∷ []))
          ∷ Answered 40 A (call.List (codes "d" ∷ codes "k" ∷ [])) (answer.Reply (reply.Names [])) None ∷ [];
      status = 0;
    }

abbrev pub plain_9 : Run
plain_9 =
    record {
      lines =
          reads (line.Call D (call.Fsync (codes "a" ∷ []))) 9 ∷ reads (line.Call D (call.Write (codes "e" ∷ codes "a" ∷ []) 0 (codes "by"))) 16
          ∷ reads (line.Call D (call.Write (codes "e" ∷ codes "a" ∷ []) 1 (codes "z"))) 16 ∷ reads (line.Call A (call.Stat (codes "a" ∷ []))) 8
          ∷ reads (line.Call B (call.Chmod [] 384)) 11 ∷ reads (line.Call B (call.Remove (codes "d" ∷ codes "a" ∷ []))) 10
          ∷ reads (line.Call A (call.Stat (codes "d" ∷ codes "a" ∷ []))) 8 ∷ reads (line.Push B 1) 8
          ∷ reads (line.Call D (call.SetLen (codes "d" ∷ codes "a" ∷ []) 4)) 15
          ∷ reads (line.Call D (call.Write (codes "d" ∷ codes "a" ∷ []) 0 (codes "yc"))) 16
          ∷ reads (line.Call D (call.Write (codes "d" ∷ codes "a" ∷ []) 3 (codes "b"))) 16
          ∷ reads (line.Call D (call.Write (codes "d" ∷ codes "a" ∷ []) 4 (codes "ac"))) 16 ∷ reads (line.Call A (call.Create (codes "a" ∷ []))) 10
          ∷ reads (line.Call A (call.Write (codes "a" ∷ []) 3 (codes "y"))) 14 ∷ reads (line.Call B (call.Create (codes "a" ∷ []))) 10
          ∷ reads (line.Call D (call.List (codes "e" ∷ []))) 8 ∷ reads (line.Call C (call.Rename (codes "a" ∷ []) (codes "a2" ∷ []))) 13
          ∷ reads (line.Call C (call.Forder ([] ∷ [] ∷ (codes "d" ∷ []) ∷ []))) 14 ∷ reads (line.Call B (call.Mkdir (codes "e" ∷ []))) 9
          ∷ reads (line.Call B (call.Create (codes "d" ∷ codes "a" ∷ []))) 10
          ∷ reads (line.Call A (call.Write (codes "e" ∷ codes "a" ∷ []) 0 (codes "abbba"))) 16 ∷ reads (line.Call D (call.Mkdir (codes "d" ∷ []))) 9
          ∷ reads (line.Call C (call.Create (codes "e" ∷ codes "a" ∷ []))) 10 ∷ reads (line.Call D (call.Write (codes "a" ∷ []) 3 (codes "z"))) 14
          ∷ reads (line.Call C (call.Create (codes "d" ∷ codes "a" ∷ []))) 10 ∷ reads (line.Call D (call.Mkdir (codes "e" ∷ []))) 9
          ∷ reads (line.Call C (call.SetLen (codes "a2" ∷ []) 8)) 14
          ∷ reads (line.Call D (call.Rename (codes "e" ∷ []) (codes "e" ∷ codes "d" ∷ []))) 13
          ∷ reads (line.Call D (call.Rename (codes "d" ∷ codes "a" ∷ []) (codes "d" ∷ codes "a" ∷ []))) 15
          ∷ reads (line.Call C (call.Mkdir (codes "d" ∷ []))) 9 ∷ reads (line.Call A (call.Create (codes "a" ∷ []))) 10
          ∷ reads (line.Call A (call.Fsync [])) 9 ∷ reads (line.Call D (call.Forder ((codes "e" ∷ []) ∷ []))) 10
          ∷ reads (line.Call D (call.Write (codes "e" ∷ codes "a" ∷ []) 0 (codes "cb"))) 16
          ∷ reads (line.Call D (call.Write (codes "e" ∷ codes "a" ∷ []) 5 (codes "cc"))) 16 ∷ reads (line.Push D 4) 8
          ∷ reads (line.Call B (call.Rmdir (codes "e" ∷ []))) 9 ∷ reads (line.Call A (call.Rmdir (codes "d" ∷ []))) 9
          ∷ reads (line.Call B (call.Write (codes "a" ∷ []) 4 (codes "acx"))) 14 ∷ reads (line.Call A (call.SetLen (codes "d" ∷ codes "a" ∷ []) 1)) 15
          ∷ [];
      fates = [];
      max_objects = 1024;
      shown =
          Waits 1 D (call.Fsync (codes "a" ∷ [])) ∷ Answered 1 D (call.Fsync (codes "a" ∷ [])) (answer.Reply (reply.Refused (no.NotFound 1))) None
          ∷ Answered 2 D (call.Write (codes "e" ∷ codes "a" ∷ []) 0 (codes "by")) (answer.Reply (reply.Refused (no.NotFound 1))) None
          ∷ Answered 3 D (call.Write (codes "e" ∷ codes "a" ∷ []) 1 (codes "z")) (answer.Reply (reply.Refused (no.NotFound 1))) None
          ∷ Waits 4 A (call.Stat (codes "a" ∷ [])) ∷ Answered 4 A (call.Stat (codes "a" ∷ [])) (answer.Reply (reply.Refused (no.NotFound 1))) None
          ∷ Waits 5 B (call.Chmod [] 384) ∷ Answered 5 B (call.Chmod [] 384) (answer.Reply reply.Ok) (Some 1)
          ∷ Answered 6 B (call.Remove (codes "d" ∷ codes "a" ∷ [])) (answer.Reply (reply.Refused (no.NotFound 1))) None
          ∷ Waits 7 A (call.Stat (codes "d" ∷ codes "a" ∷ [])) ∷ Durable B (1 ∷ [])
          ∷ Answered 7 A (call.Stat (codes "d" ∷ codes "a" ∷ [])) (answer.Reply (reply.Refused (no.NotFound 1))) None ∷ Nothing
          ∷ Waits 9 D (call.SetLen (codes "d" ∷ codes "a" ∷ []) 4)
          ∷ Answered 9 D (call.SetLen (codes "d" ∷ codes "a" ∷ []) 4) (answer.Reply (reply.Refused (no.NotFound 1))) None
          ∷ Answered 10 D (call.Write (codes "d" ∷ codes "a" ∷ []) 0 (codes "yc")) (answer.Reply (reply.Refused (no.NotFound 1))) None
          ∷ Answered 11 D (call.Write (codes "d" ∷ codes "a" ∷ []) 3 (codes "b")) (answer.Reply (reply.Refused (no.NotFound 1))) None
          ∷ Answered 12 D (call.Write (codes "d" ∷ codes "a" ∷ []) 4 (codes "ac")) (answer.Reply (reply.Refused (no.NotFound 1))) None
          ∷ Waits 13 A (call.Create (codes "a" ∷ [])) ∷ Answered 13 A (call.Create (codes "a" ∷ [])) (answer.Reply reply.Ok) (Some 1)
          ∷ Answered 14 A (call.Write (codes "a" ∷ []) 3 (codes "y")) (answer.Reply reply.Ok) (Some 2) ∷ Waits 15 B (call.Create (codes "a" ∷ []))
          ∷ Durable A (1 ∷ []) ∷ Answered 15 B (call.Create (codes "a" ∷ [])) (answer.Reply (reply.Refused no.Exists)) None
          ∷ Waits 16 D (call.List (codes "e" ∷ [])) ∷ Answered 16 D (call.List (codes "e" ∷ [])) (answer.Reply (reply.Refused (no.NotFound 1))) None
          ∷ Waits 17 C (call.Rename (codes "a" ∷ []) (codes "a2" ∷ [])) ∷ Durable A (2 ∷ [])
          ∷ Answered 17 C (call.Rename (codes "a" ∷ []) (codes "a2" ∷ [])) (answer.Reply reply.Ok) (Some 1)
          ∷ Answered 18 C (call.Forder ([] ∷ [] ∷ (codes "d" ∷ []) ∷ [])) (answer.Reply (reply.Refused (no.NotFound 1))) None
          ∷ Waits 19 B (call.Mkdir (codes "e" ∷ [])) ∷ Durable C (1 ∷ [])
          ∷ Answered 19 B (call.Mkdir (codes "e" ∷ [])) (answer.Reply reply.Ok) (Some 2)
          ∷ Answered 20 B (call.Create (codes "d" ∷ codes "a" ∷ [])) (answer.Reply (reply.Refused (no.NotFound 1))) None
          ∷ Waits 21 A (call.Write (codes "e" ∷ codes "a" ∷ []) 0 (codes "abbba")) ∷ Durable B (2 ∷ [])
          ∷ Answered 21 A (call.Write (codes "e" ∷ codes "a" ∷ []) 0 (codes "abbba")) (answer.Reply (reply.Refused (no.NotFound 2))) None
          ∷ Waits 22 D (call.Mkdir (codes "d" ∷ [])) ∷ Answered 22 D (call.Mkdir (codes "d" ∷ [])) (answer.Reply reply.Ok) (Some 1)
          ∷ Waits 23 C (call.Create (codes "e" ∷ codes "a" ∷ [])) ∷ Durable D (1 ∷ [])
          ∷ Answered 23 C (call.Create (codes "e" ∷ codes "a" ∷ [])) (answer.Reply reply.Ok) (Some 2)
          ∷ Answered 24 D (call.Write (codes "a" ∷ []) 3 (codes "z")) (answer.Reply (reply.Refused (no.NotFound 1))) None
          ∷ Waits 25 C (call.Create (codes "d" ∷ codes "a" ∷ []))
          ∷ Answered 25 C (call.Create (codes "d" ∷ codes "a" ∷ [])) (answer.Reply reply.Ok) (Some 3)
          ∷ Answered 26 D (call.Mkdir (codes "e" ∷ [])) (answer.Reply (reply.Refused no.Exists)) None
          ∷ Answered 27 C (call.SetLen (codes "a2" ∷ []) 8) (answer.Reply reply.Ok) (Some 4)
          ∷ Waits 28 D (call.Rename (codes "e" ∷ []) (codes "e" ∷ codes "d" ∷ [])) ∷ Durable C (2 ∷ [])
          ∷ Answered 28 D (call.Rename (codes "e" ∷ []) (codes "e" ∷ codes "d" ∷ [])) (answer.Reply (reply.Refused no.Loop)) None
          ∷ Waits 29 D (call.Rename (codes "d" ∷ codes "a" ∷ []) (codes "d" ∷ codes "a" ∷ [])) ∷ Durable C (3 ∷ [])
          ∷ Answered 29 D (call.Rename (codes "d" ∷ codes "a" ∷ []) (codes "d" ∷ codes "a" ∷ [])) (answer.Reply reply.Ok) None
          ∷ Answered 30 C (call.Mkdir (codes "d" ∷ [])) (answer.Reply (reply.Refused no.Exists)) None ∷ Waits 31 A (call.Create (codes "a" ∷ []))
          ∷ Answered 31 A (call.Create (codes "a" ∷ [])) (answer.Reply reply.Ok) (Some 3) ∷ Waits 32 A (call.Fsync []) ∷ Durable A (3 ∷ [])
          ∷ Answered 32 A (call.Fsync []) (answer.Reply reply.Ok) None ∷ Waits 33 D (call.Forder ((codes "e" ∷ []) ∷ []))
          ∷ Answered 33 D (call.Forder ((codes "e" ∷ []) ∷ [])) (answer.Reply reply.Ok) (Some 2)
          ∷ Waits 34 D (call.Write (codes "e" ∷ codes "a" ∷ []) 0 (codes "cb"))
          ∷ Answered 34 D (call.Write (codes "e" ∷ codes "a" ∷ []) 0 (codes "cb")) (answer.Reply reply.Ok) (Some 3)
          ∷ Answered 35 D (call.Write (codes "e" ∷ codes "a" ∷ []) 5 (codes "cc")) (answer.Reply reply.Ok) (Some 4) ∷ Durable D (3 ∷ 4 ∷ [])
          ∷ Waits 37 B (call.Rmdir (codes "e" ∷ [])) ∷ Durable D (2 ∷ [])
          ∷ Answered 37 B (call.Rmdir (codes "e" ∷ [])) (answer.Reply (reply.Refused no.NotEmpty)) None ∷ Waits 38 A (call.Rmdir (codes "d" ∷ []))
          ∷ Answered 38 A (call.Rmdir (codes "d" ∷ [])) (answer.Reply (reply.Refused no.NotEmpty)) None
          ∷ Waits 39 B (call.Write (codes "a" ∷ []) 4 (codes "acx"))
          ∷ Answered 39 B (call.Write (codes "a" ∷ []) 4 (codes "acx")) (answer.Reply reply.Ok) (Some 3)
          ∷ Waits 40 A (call.SetLen (codes "d" ∷ codes "a" ∷ []) 1)
          ∷ Answered 40 A (call.SetLen (codes "d" ∷ codes "a" ∷ []) 1) (answer.Reply reply.Ok) (Some 4) ∷ [];
      status = 0;
    }

abbrev pub plain_10 : Run
plain_10 =
    record {
      lines =
          reads (line.Call A (call.Mkdir (codes "d" ∷ []))) 9 ∷ reads (line.Call A (call.Create (codes "a" ∷ []))) 10
          ∷ reads (line.Call A (call.Rename (codes "d" ∷ []) (codes "d" ∷ []))) 13 ∷ reads (line.Call A (call.Read (codes "a" ∷ []) 1 2)) 13
          ∷ reads (line.Call A (call.Read (codes "a" ∷ []) 3 2)) 13 ∷ reads (line.Call A (call.Write (codes "a" ∷ []) 2 (codes "cy"))) 14
          ∷ reads (line.Call A (call.Write (codes "a" ∷ []) 1 (codes "zc"))) 14 ∷ reads (line.Call A (call.Forder ([] ∷ (codes "a" ∷ []) ∷ []))) 12
          ∷ reads (line.Call A (call.Create (codes "a" ∷ []))) 10 ∷ reads (line.Call A (call.Write (codes "a" ∷ []) 6 (codes "xbz"))) 14
          ∷ reads (line.Call A (call.Mkdir (codes "d" ∷ []))) 9 ∷ reads (line.Call A (call.Create (codes "d" ∷ codes "a" ∷ []))) 10
          ∷ reads (line.Call A (call.Mkdir (codes "e" ∷ []))) 9 ∷ reads (line.Call A (call.Chown [] 8)) 11
          ∷ reads (line.Call A (call.Mkdir (codes "d" ∷ []))) 9 ∷ reads (line.Call A (call.Create (codes "e" ∷ codes "a" ∷ []))) 10
          ∷ reads (line.Call A (call.Rmdir (codes "d" ∷ []))) 9 ∷ reads (line.Push A 4) 8
          ∷ reads (line.Call A (call.Write (codes "d" ∷ codes "a" ∷ []) 3 (codes "yacba"))) 16
          ∷ reads (line.Call A (call.Write (codes "a" ∷ []) 0 (codes "azbcx"))) 14 ∷ reads (line.Call A (call.Read (codes "a" ∷ []) 1 64)) 13
          ∷ reads (line.Call A (call.Remove (codes "d" ∷ codes "a" ∷ []))) 10 ∷ reads (line.Call A (call.Fsync [])) 9
          ∷ reads (line.Call A (call.Mkdir (codes "e" ∷ []))) 9 ∷ reads (line.Call A (call.Rename (codes "a" ∷ []) (codes "a" ∷ []))) 13
          ∷ reads (line.Call A (call.Write (codes "e" ∷ codes "a" ∷ []) 0 (codes "xa"))) 16
          ∷ reads (line.Call A (call.Fsync (codes "e" ∷ codes "a" ∷ []))) 9 ∷ reads (line.Call A (call.Stat (codes "e" ∷ codes "a" ∷ []))) 8
          ∷ reads (line.Push A 14) 8 ∷ reads (line.Call A (call.Write (codes "d" ∷ codes "a" ∷ []) 0 (codes "aya"))) 16 ∷ reads (line.Push A 14) 8
          ∷ reads (line.Call A (call.Write (codes "e" ∷ codes "a" ∷ []) 1 (codes "z"))) 16
          ∷ reads (line.Call A (call.Read (codes "e" ∷ codes "a" ∷ []) 0 0)) 15 ∷ reads (line.Call A (call.Remove (codes "a" ∷ []))) 10
          ∷ reads (line.Call A (call.Write (codes "e" ∷ codes "a" ∷ []) 0 (codes "b"))) 16 ∷ reads (line.Call A (call.Create (codes "a" ∷ []))) 10
          ∷ reads (line.Call A (call.Write (codes "e" ∷ codes "a" ∷ []) 3 (codes "yyayx"))) 16 ∷ reads (line.Call A (call.Stat (codes "a" ∷ []))) 8
          ∷ reads (line.Call A (call.Fsync (codes "d" ∷ codes "a" ∷ []))) 9 ∷ reads (line.Call A (call.Write (codes "a" ∷ []) 0 (codes "ac"))) 14 ∷ [];
      fates = [];
      max_objects = 1024;
      shown =
          Waits 1 A (call.Mkdir (codes "d" ∷ [])) ∷ Answered 1 A (call.Mkdir (codes "d" ∷ [])) (answer.Reply reply.Ok) (Some 1)
          ∷ Answered 2 A (call.Create (codes "a" ∷ [])) (answer.Reply reply.Ok) (Some 2)
          ∷ Answered 3 A (call.Rename (codes "d" ∷ []) (codes "d" ∷ [])) (answer.Reply reply.Ok) None
          ∷ Answered 4 A (call.Read (codes "a" ∷ []) 1 2) (answer.Reply (reply.Data [])) None
          ∷ Answered 5 A (call.Read (codes "a" ∷ []) 3 2) (answer.Reply (reply.Data [])) None
          ∷ Answered 6 A (call.Write (codes "a" ∷ []) 2 (codes "cy")) (answer.Reply reply.Ok) (Some 3)
          ∷ Answered 7 A (call.Write (codes "a" ∷ []) 1 (codes "zc")) (answer.Reply reply.Ok) (Some 4)
          ∷ Answered 8 A (call.Forder ([] ∷ (codes "a" ∷ []) ∷ [])) (answer.Reply reply.Ok) (Some 5)
          ∷ Answered 9 A (call.Create (codes "a" ∷ [])) (answer.Reply (reply.Refused no.Exists)) None
          ∷ Answered 10 A (call.Write (codes "a" ∷ []) 6 (codes "xbz")) (answer.Reply reply.Ok) (Some 6)
          ∷ Answered 11 A (call.Mkdir (codes "d" ∷ [])) (answer.Reply (reply.Refused no.Exists)) None
          ∷ Answered 12 A (call.Create (codes "d" ∷ codes "a" ∷ [])) (answer.Reply reply.Ok) (Some 7)
          ∷ Answered 13 A (call.Mkdir (codes "e" ∷ [])) (answer.Reply reply.Ok) (Some 8)
          ∷ Answered 14 A (call.Chown [] 8) (answer.Reply reply.Ok) (Some 9)
          ∷ Answered 15 A (call.Mkdir (codes "d" ∷ [])) (answer.Reply (reply.Refused no.Exists)) None
          ∷ Answered 16 A (call.Create (codes "e" ∷ codes "a" ∷ [])) (answer.Reply reply.Ok) (Some 10)
          ∷ Answered 17 A (call.Rmdir (codes "d" ∷ [])) (answer.Reply (reply.Refused no.NotEmpty)) None ∷ Durable A (1 ∷ 2 ∷ 3 ∷ 4 ∷ [])
          ∷ Answered 19 A (call.Write (codes "d" ∷ codes "a" ∷ []) 3 (codes "yacba")) (answer.Reply reply.Ok) (Some 11)
          ∷ Answered 20 A (call.Write (codes "a" ∷ []) 0 (codes "azbcx")) (answer.Reply reply.Ok) (Some 12)
          ∷ Answered 21 A (call.Read (codes "a" ∷ []) 1 64) (answer.Reply (reply.Data (122 ∷ 98 ∷ 99 ∷ 120 ∷ 0 ∷ 120 ∷ 98 ∷ 122 ∷ []))) None
          ∷ Answered 22 A (call.Remove (codes "d" ∷ codes "a" ∷ [])) (answer.Reply reply.Ok) (Some 13) ∷ Waits 23 A (call.Fsync [])
          ∷ Durable A (5 ∷ 8 ∷ 9 ∷ []) ∷ Answered 23 A (call.Fsync []) (answer.Reply reply.Ok) None
          ∷ Answered 24 A (call.Mkdir (codes "e" ∷ [])) (answer.Reply (reply.Refused no.Exists)) None
          ∷ Answered 25 A (call.Rename (codes "a" ∷ []) (codes "a" ∷ [])) (answer.Reply reply.Ok) None
          ∷ Answered 26 A (call.Write (codes "e" ∷ codes "a" ∷ []) 0 (codes "xa")) (answer.Reply reply.Ok) (Some 14)
          ∷ Waits 27 A (call.Fsync (codes "e" ∷ codes "a" ∷ [])) ∷ Durable A (10 ∷ 14 ∷ [])
          ∷ Answered 27 A (call.Fsync (codes "e" ∷ codes "a" ∷ [])) (answer.Reply reply.Ok) None
          ∷ Answered 28 A (call.Stat (codes "e" ∷ codes "a" ∷ [])) (answer.Reply (reply.Stat kind.File 420 0 0 2)) None ∷ Nothing
          ∷ Answered 30 A (call.Write (codes "d" ∷ codes "a" ∷ []) 0 (codes "aya")) (answer.Reply (reply.Refused (no.NotFound 2))) None ∷ Nothing
          ∷ Answered 32 A (call.Write (codes "e" ∷ codes "a" ∷ []) 1 (codes "z")) (answer.Reply reply.Ok) (Some 15)
          ∷ Answered 33 A (call.Read (codes "e" ∷ codes "a" ∷ []) 0 0) (answer.Reply (reply.Data [])) None
          ∷ Answered 34 A (call.Remove (codes "a" ∷ [])) (answer.Reply reply.Ok) (Some 16)
          ∷ Answered 35 A (call.Write (codes "e" ∷ codes "a" ∷ []) 0 (codes "b")) (answer.Reply reply.Ok) (Some 17)
          ∷ Answered 36 A (call.Create (codes "a" ∷ [])) (answer.Reply reply.Ok) (Some 18)
          ∷ Answered 37 A (call.Write (codes "e" ∷ codes "a" ∷ []) 3 (codes "yyayx")) (answer.Reply reply.Ok) (Some 19)
          ∷ Answered 38 A (call.Stat (codes "a" ∷ [])) (answer.Reply (reply.Stat kind.File 420 0 0 0)) None
          ∷ Answered 39 A (call.Fsync (codes "d" ∷ codes "a" ∷ [])) (answer.Reply (reply.Refused (no.NotFound 2))) None
          ∷ Answered 40 A (call.Write (codes "a" ∷ []) 0 (codes "ac")) (answer.Reply reply.Ok) (Some 20) ∷ [];
      status = 0;
    }

abbrev pub plain_11 : Run
plain_11 =
    record {
      lines =
          reads (line.Call B (call.Mkdir (codes "d" ∷ []))) 9 ∷ reads (line.Call B (call.Create (codes "a" ∷ []))) 10
          ∷ reads (line.Call B (call.Create (codes "b" ∷ []))) 10 ∷ reads (line.Call A (call.Create (codes "d" ∷ codes "a" ∷ []))) 10
          ∷ reads (line.Call A (call.Fsync (codes "d" ∷ codes "a" ∷ []))) 9 ∷ reads (line.Call B (call.Read (codes "d" ∷ codes "a" ∷ []) 0 0)) 15
          ∷ reads (line.Call A (call.Mkdir (codes "e" ∷ []))) 9 ∷ reads (line.Call B (call.Read (codes "b" ∷ []) 1 9)) 13
          ∷ reads (line.Call B (call.Stat (codes "a" ∷ []))) 8 ∷ reads (line.Call A (call.Rename (codes "b" ∷ []) (codes "b2" ∷ []))) 13
          ∷ reads (line.Call A (call.Write (codes "b2" ∷ []) 1 (codes "zzxxb"))) 15 ∷ reads (line.Push A 1) 8
          ∷ reads (line.Call A (call.Read (codes "a" ∷ []) 0 2)) 13 ∷ reads (line.Call B (call.Chown (codes "d" ∷ []) 4)) 12
          ∷ reads (line.Call B (call.Create (codes "e" ∷ codes "a" ∷ []))) 10 ∷ reads (line.Call A (call.Fsync (codes "a" ∷ []))) 9
          ∷ reads (line.Call A (call.Create (codes "b" ∷ []))) 10 ∷ reads (line.Call A (call.Stat [])) 8
          ∷ reads (line.Call A (call.Fsync (codes "e" ∷ codes "a" ∷ []))) 9 ∷ reads (line.Call B (call.Write (codes "a" ∷ []) 3 (codes "z"))) 14
          ∷ reads (line.Call B (call.Write (codes "b2" ∷ []) 0 (codes "bxczx"))) 15
          ∷ reads (line.Call B (call.Write (codes "e" ∷ codes "a" ∷ []) 2 (codes "yx"))) 16
          ∷ reads (line.Call A (call.Stat (codes "d" ∷ codes "a" ∷ []))) 8 ∷ reads (line.Call B (call.Write (codes "a" ∷ []) 0 (codes "z"))) 14
          ∷ reads (line.Call B (call.SetLen (codes "e" ∷ codes "a" ∷ []) 8)) 15 ∷ reads (line.Call B (call.Chown (codes "e" ∷ []) 0)) 12
          ∷ reads (line.Call A (call.Rename (codes "e" ∷ []) (codes "e2" ∷ []))) 13 ∷ reads (line.Call B (call.Chown (codes "b" ∷ []) 6)) 12
          ∷ reads (line.Call B (call.Write (codes "b2" ∷ []) 2 (codes "yy"))) 15
          ∷ reads (line.Call A (call.Read (codes "e2" ∷ codes "a" ∷ []) 0 0)) 16 ∷ reads (line.Call A (call.Mkdir (codes "d" ∷ codes "e" ∷ []))) 9
          ∷ reads (line.Call B (call.Write (codes "b2" ∷ []) 0 (codes "y"))) 15
          ∷ reads (line.Call A (call.Write (codes "d" ∷ codes "e" ∷ codes "a" ∷ []) 2 (codes "ab"))) 18
          ∷ reads (line.Call B (call.Write (codes "d" ∷ codes "a" ∷ []) 4 (codes "cac"))) 16
          ∷ reads (line.Call A (call.Rename (codes "e2" ∷ []) (codes "e2" ∷ codes "z" ∷ []))) 14 ∷ reads (line.Call B call.Sync) 3
          ∷ reads (line.Call B (call.Write (codes "d" ∷ codes "a" ∷ []) 1 (codes "za"))) 16
          ∷ reads (line.Call B (call.Rename (codes "d" ∷ codes "a" ∷ []) (codes "d" ∷ codes "b" ∷ []))) 15
          ∷ reads (line.Call B (call.Write (codes "b2" ∷ []) 6 (codes "bz"))) 15
          ∷ reads (line.Call B (call.Write (codes "d" ∷ codes "a" ∷ []) 3 (codes "xcy"))) 16 ∷ [];
      fates = [];
      max_objects = 1024;
      shown =
          Waits 1 B (call.Mkdir (codes "d" ∷ [])) ∷ Answered 1 B (call.Mkdir (codes "d" ∷ [])) (answer.Reply reply.Ok) (Some 1)
          ∷ Answered 2 B (call.Create (codes "a" ∷ [])) (answer.Reply reply.Ok) (Some 2)
          ∷ Answered 3 B (call.Create (codes "b" ∷ [])) (answer.Reply reply.Ok) (Some 3) ∷ Waits 4 A (call.Create (codes "d" ∷ codes "a" ∷ []))
          ∷ Durable B (1 ∷ 2 ∷ 3 ∷ []) ∷ Answered 4 A (call.Create (codes "d" ∷ codes "a" ∷ [])) (answer.Reply reply.Ok) (Some 1)
          ∷ Waits 5 A (call.Fsync (codes "d" ∷ codes "a" ∷ [])) ∷ Durable A (1 ∷ [])
          ∷ Answered 5 A (call.Fsync (codes "d" ∷ codes "a" ∷ [])) (answer.Reply reply.Ok) None
          ∷ Waits 6 B (call.Read (codes "d" ∷ codes "a" ∷ []) 0 0)
          ∷ Answered 6 B (call.Read (codes "d" ∷ codes "a" ∷ []) 0 0) (answer.Reply (reply.Data [])) None ∷ Waits 7 A (call.Mkdir (codes "e" ∷ []))
          ∷ Answered 7 A (call.Mkdir (codes "e" ∷ [])) (answer.Reply reply.Ok) (Some 2) ∷ Waits 8 B (call.Read (codes "b" ∷ []) 1 9)
          ∷ Durable A (2 ∷ []) ∷ Answered 8 B (call.Read (codes "b" ∷ []) 1 9) (answer.Reply (reply.Data [])) None
          ∷ Answered 9 B (call.Stat (codes "a" ∷ [])) (answer.Reply (reply.Stat kind.File 420 0 0 0)) None
          ∷ Waits 10 A (call.Rename (codes "b" ∷ []) (codes "b2" ∷ []))
          ∷ Answered 10 A (call.Rename (codes "b" ∷ []) (codes "b2" ∷ [])) (answer.Reply reply.Ok) (Some 3)
          ∷ Answered 11 A (call.Write (codes "b2" ∷ []) 1 (codes "zzxxb")) (answer.Reply reply.Ok) (Some 4) ∷ Nothing
          ∷ Waits 13 A (call.Read (codes "a" ∷ []) 0 2) ∷ Answered 13 A (call.Read (codes "a" ∷ []) 0 2) (answer.Reply (reply.Data [])) None
          ∷ Waits 14 B (call.Chown (codes "d" ∷ []) 4) ∷ Durable A (3 ∷ [])
          ∷ Answered 14 B (call.Chown (codes "d" ∷ []) 4) (answer.Reply reply.Ok) (Some 4) ∷ Waits 15 B (call.Create (codes "e" ∷ codes "a" ∷ []))
          ∷ Answered 15 B (call.Create (codes "e" ∷ codes "a" ∷ [])) (answer.Reply reply.Ok) (Some 5)
          ∷ Answered 16 A (call.Fsync (codes "a" ∷ [])) (answer.Reply reply.Ok) None ∷ Waits 17 A (call.Create (codes "b" ∷ []))
          ∷ Answered 17 A (call.Create (codes "b" ∷ [])) (answer.Reply reply.Ok) (Some 5)
          ∷ Answered 18 A (call.Stat []) (answer.Reply (reply.Stat kind.Dir 493 0 0 5)) None ∷ Waits 19 A (call.Fsync (codes "e" ∷ codes "a" ∷ []))
          ∷ Durable B (5 ∷ []) ∷ Answered 19 A (call.Fsync (codes "e" ∷ codes "a" ∷ [])) (answer.Reply reply.Ok) None
          ∷ Waits 20 B (call.Write (codes "a" ∷ []) 3 (codes "z")) ∷ Durable A (5 ∷ [])
          ∷ Answered 20 B (call.Write (codes "a" ∷ []) 3 (codes "z")) (answer.Reply reply.Ok) (Some 6)
          ∷ Waits 21 B (call.Write (codes "b2" ∷ []) 0 (codes "bxczx")) ∷ Durable A (4 ∷ [])
          ∷ Answered 21 B (call.Write (codes "b2" ∷ []) 0 (codes "bxczx")) (answer.Reply reply.Ok) (Some 7)
          ∷ Waits 22 B (call.Write (codes "e" ∷ codes "a" ∷ []) 2 (codes "yx"))
          ∷ Answered 22 B (call.Write (codes "e" ∷ codes "a" ∷ []) 2 (codes "yx")) (answer.Reply reply.Ok) (Some 8)
          ∷ Waits 23 A (call.Stat (codes "d" ∷ codes "a" ∷ [])) ∷ Durable B (4 ∷ [])
          ∷ Answered 23 A (call.Stat (codes "d" ∷ codes "a" ∷ [])) (answer.Reply (reply.Stat kind.File 420 0 0 0)) None
          ∷ Answered 24 B (call.Write (codes "a" ∷ []) 0 (codes "z")) (answer.Reply reply.Ok) (Some 9)
          ∷ Answered 25 B (call.SetLen (codes "e" ∷ codes "a" ∷ []) 8) (answer.Reply reply.Ok) (Some 10) ∷ Waits 26 B (call.Chown (codes "e" ∷ []) 0)
          ∷ Answered 26 B (call.Chown (codes "e" ∷ []) 0) (answer.Reply reply.Ok) (Some 11)
          ∷ Waits 27 A (call.Rename (codes "e" ∷ []) (codes "e2" ∷ [])) ∷ Durable B (11 ∷ [])
          ∷ Answered 27 A (call.Rename (codes "e" ∷ []) (codes "e2" ∷ [])) (answer.Reply reply.Ok) (Some 6)
          ∷ Waits 28 B (call.Chown (codes "b" ∷ []) 6) ∷ Durable A (6 ∷ [])
          ∷ Answered 28 B (call.Chown (codes "b" ∷ []) 6) (answer.Reply reply.Ok) (Some 12)
          ∷ Answered 29 B (call.Write (codes "b2" ∷ []) 2 (codes "yy")) (answer.Reply reply.Ok) (Some 13)
          ∷ Waits 30 A (call.Read (codes "e2" ∷ codes "a" ∷ []) 0 0) ∷ Durable B (8 ∷ 10 ∷ [])
          ∷ Answered 30 A (call.Read (codes "e2" ∷ codes "a" ∷ []) 0 0) (answer.Reply (reply.Data [])) None
          ∷ Waits 31 A (call.Mkdir (codes "d" ∷ codes "e" ∷ []))
          ∷ Answered 31 A (call.Mkdir (codes "d" ∷ codes "e" ∷ [])) (answer.Reply reply.Ok) (Some 7)
          ∷ Answered 32 B (call.Write (codes "b2" ∷ []) 0 (codes "y")) (answer.Reply reply.Ok) (Some 14)
          ∷ Answered 33 A (call.Write (codes "d" ∷ codes "e" ∷ codes "a" ∷ []) 2 (codes "ab")) (answer.Reply (reply.Refused (no.NotFound 3))) None
          ∷ Waits 34 B (call.Write (codes "d" ∷ codes "a" ∷ []) 4 (codes "cac")) ∷ Durable A (7 ∷ [])
          ∷ Answered 34 B (call.Write (codes "d" ∷ codes "a" ∷ []) 4 (codes "cac")) (answer.Reply reply.Ok) (Some 15)
          ∷ Answered 35 A (call.Rename (codes "e2" ∷ []) (codes "e2" ∷ codes "z" ∷ [])) (answer.Reply (reply.Refused no.Loop)) None
          ∷ Waits 36 B call.Sync ∷ Durable B (6 ∷ 7 ∷ 9 ∷ 12 ∷ 13 ∷ 14 ∷ 15 ∷ []) ∷ Answered 36 B call.Sync (answer.Reply reply.Ok) None
          ∷ Answered 37 B (call.Write (codes "d" ∷ codes "a" ∷ []) 1 (codes "za")) (answer.Reply reply.Ok) (Some 16)
          ∷ Waits 38 B (call.Rename (codes "d" ∷ codes "a" ∷ []) (codes "d" ∷ codes "b" ∷ []))
          ∷ Answered 38 B (call.Rename (codes "d" ∷ codes "a" ∷ []) (codes "d" ∷ codes "b" ∷ [])) (answer.Reply reply.Ok) (Some 17)
          ∷ Answered 39 B (call.Write (codes "b2" ∷ []) 6 (codes "bz")) (answer.Reply reply.Ok) (Some 18)
          ∷ Answered 40 B (call.Write (codes "d" ∷ codes "a" ∷ []) 3 (codes "xcy")) (answer.Reply (reply.Refused (no.NotFound 2))) None ∷ [];
      status = 0;
    }

abbrev pub plain_12 : Run
plain_12 =
    record {
      lines =
          reads (line.Call A (call.Mkdir (codes "d" ∷ []))) 9 ∷ reads (line.Call A (call.Create (codes "a" ∷ []))) 10
          ∷ reads (line.Call A (call.Write (codes "a" ∷ []) 0 (codes "abcdefgh"))) 14 ∷ reads (line.Call A (call.Fsync (codes "a" ∷ []))) 9
          ∷ reads (line.Call A (call.Remove (codes "a" ∷ []))) 10 ∷ reads (line.Call A (call.SetLen (codes "a" ∷ []) 1)) 13
          ∷ reads (line.Call A (call.Rename (codes "d" ∷ []) (codes "d" ∷ codes "z" ∷ []))) 13
          ∷ reads (line.Call A (call.Remove (codes "d" ∷ codes "a" ∷ []))) 10
          ∷ reads (line.Call A (call.Write (codes "e" ∷ codes "a" ∷ []) 1 (codes "y"))) 16
          ∷ reads (line.Call A (call.Write (codes "e" ∷ codes "a" ∷ []) 0 (codes "z"))) 16
          ∷ reads (line.Call A (call.Write (codes "e" ∷ codes "a" ∷ []) 5 (codes "cx"))) 16 ∷ reads (line.Push A 4) 8
          ∷ reads (line.Call A (call.Chown (codes "d" ∷ codes "a" ∷ []) 2)) 14 ∷ reads (line.Call A (call.Chown (codes "d" ∷ codes "a" ∷ []) 1)) 14
          ∷ reads (line.Call A (call.Stat (codes "d" ∷ codes "a" ∷ []))) 8 ∷ reads (line.Call A (call.List (codes "d" ∷ []))) 8
          ∷ reads (line.Call A (call.Write (codes "e" ∷ codes "a" ∷ []) 0 (codes "cya"))) 16
          ∷ reads (line.Call A (call.Write (codes "a" ∷ []) 6 (codes "zzacx"))) 14 ∷ reads (line.Call A (call.Fsync (codes "d" ∷ []))) 9
          ∷ reads (line.Call A (call.Chown [] 0)) 11 ∷ reads (line.Call A (call.Touch [] 8)) 11
          ∷ reads (line.Call A (call.Write (codes "d" ∷ codes "a" ∷ []) 5 (codes "cz"))) 16
          ∷ reads (line.Call A (call.Write (codes "d" ∷ codes "a" ∷ []) 2 (codes "cc"))) 16 ∷ reads (line.Push A 5) 8
          ∷ reads (line.Call A (call.Chown (codes "d" ∷ codes "a" ∷ []) 0)) 14
          ∷ reads (line.Call A (call.Write (codes "e" ∷ codes "a" ∷ []) 4 (codes "xcayc"))) 16
          ∷ reads (line.Call A (call.Fsync (codes "e" ∷ codes "a" ∷ []))) 9 ∷ reads (line.Call A (call.Create (codes "a" ∷ []))) 10
          ∷ reads (line.Call A (call.SetLen (codes "a" ∷ []) 1)) 13 ∷ reads (line.Call A (call.Fsync (codes "d" ∷ []))) 9
          ∷ reads (line.Call A (call.Rename (codes "a" ∷ []) (codes "a2" ∷ []))) 13
          ∷ reads (line.Call A (call.Rename (codes "a2" ∷ []) (codes "a" ∷ []))) 14 ∷ reads (line.Call A (call.Mkdir (codes "e" ∷ []))) 9
          ∷ reads (line.Call A (call.Stat (codes "a" ∷ []))) 8 ∷ reads (line.Call A (call.Stat (codes "e" ∷ []))) 8
          ∷ reads (line.Call A (call.Create (codes "e" ∷ codes "a" ∷ []))) 10 ∷ reads (line.Push A 6) 8
          ∷ reads (line.Call A (call.Write (codes "a" ∷ []) 2 (codes "yz"))) 14 ∷ reads (line.Call A (call.Write (codes "a" ∷ []) 4 (codes "c"))) 14
          ∷ reads (line.Call A (call.Write (codes "a" ∷ []) 0 (codes "zx"))) 14 ∷ reads (line.Push A 14) 8 ∷ [];
      fates = [];
      max_objects = 1024;
      shown =
          Waits 1 A (call.Mkdir (codes "d" ∷ [])) ∷ Answered 1 A (call.Mkdir (codes "d" ∷ [])) (answer.Reply reply.Ok) (Some 1)
          ∷ Answered 2 A (call.Create (codes "a" ∷ [])) (answer.Reply reply.Ok) (Some 2)
          ∷ Answered 3 A (call.Write (codes "a" ∷ []) 0 (codes "abcdefgh")) (answer.Reply reply.Ok) (Some 3) ∷ Waits 4 A (call.Fsync (codes "a" ∷ []))
          ∷ Durable A (1 ∷ 2 ∷ 3 ∷ []) ∷ Answered 4 A (call.Fsync (codes "a" ∷ [])) (answer.Reply reply.Ok) None
          ∷ Answered 5 A (call.Remove (codes "a" ∷ [])) (answer.Reply reply.Ok) (Some 4)
          ∷ Answered 6 A (call.SetLen (codes "a" ∷ []) 1) (answer.Reply (reply.Refused (no.NotFound 1))) None
          ∷ Answered 7 A (call.Rename (codes "d" ∷ []) (codes "d" ∷ codes "z" ∷ [])) (answer.Reply (reply.Refused no.Loop)) None
          ∷ Answered 8 A (call.Remove (codes "d" ∷ codes "a" ∷ [])) (answer.Reply (reply.Refused (no.NotFound 2))) None
          ∷ Answered 9 A (call.Write (codes "e" ∷ codes "a" ∷ []) 1 (codes "y")) (answer.Reply (reply.Refused (no.NotFound 1))) None
          ∷ Answered 10 A (call.Write (codes "e" ∷ codes "a" ∷ []) 0 (codes "z")) (answer.Reply (reply.Refused (no.NotFound 1))) None
          ∷ Answered 11 A (call.Write (codes "e" ∷ codes "a" ∷ []) 5 (codes "cx")) (answer.Reply (reply.Refused (no.NotFound 1))) None
          ∷ Durable A (4 ∷ []) ∷ Answered 13 A (call.Chown (codes "d" ∷ codes "a" ∷ []) 2) (answer.Reply (reply.Refused (no.NotFound 2))) None
          ∷ Answered 14 A (call.Chown (codes "d" ∷ codes "a" ∷ []) 1) (answer.Reply (reply.Refused (no.NotFound 2))) None
          ∷ Answered 15 A (call.Stat (codes "d" ∷ codes "a" ∷ [])) (answer.Reply (reply.Refused (no.NotFound 2))) None
          ∷ Answered 16 A (call.List (codes "d" ∷ [])) (answer.Reply (reply.Names [])) None
          ∷ Answered 17 A (call.Write (codes "e" ∷ codes "a" ∷ []) 0 (codes "cya")) (answer.Reply (reply.Refused (no.NotFound 1))) None
          ∷ Answered 18 A (call.Write (codes "a" ∷ []) 6 (codes "zzacx")) (answer.Reply (reply.Refused (no.NotFound 1))) None
          ∷ Answered 19 A (call.Fsync (codes "d" ∷ [])) (answer.Reply reply.Ok) None
          ∷ Answered 20 A (call.Chown [] 0) (answer.Reply reply.Ok) (Some 5) ∷ Answered 21 A (call.Touch [] 8) (answer.Reply reply.Ok) (Some 6)
          ∷ Answered 22 A (call.Write (codes "d" ∷ codes "a" ∷ []) 5 (codes "cz")) (answer.Reply (reply.Refused (no.NotFound 2))) None
          ∷ Answered 23 A (call.Write (codes "d" ∷ codes "a" ∷ []) 2 (codes "cc")) (answer.Reply (reply.Refused (no.NotFound 2))) None
          ∷ Durable A (5 ∷ []) ∷ Answered 25 A (call.Chown (codes "d" ∷ codes "a" ∷ []) 0) (answer.Reply (reply.Refused (no.NotFound 2))) None
          ∷ Answered 26 A (call.Write (codes "e" ∷ codes "a" ∷ []) 4 (codes "xcayc")) (answer.Reply (reply.Refused (no.NotFound 1))) None
          ∷ Answered 27 A (call.Fsync (codes "e" ∷ codes "a" ∷ [])) (answer.Reply (reply.Refused (no.NotFound 1))) None
          ∷ Answered 28 A (call.Create (codes "a" ∷ [])) (answer.Reply reply.Ok) (Some 7)
          ∷ Answered 29 A (call.SetLen (codes "a" ∷ []) 1) (answer.Reply reply.Ok) (Some 8)
          ∷ Answered 30 A (call.Fsync (codes "d" ∷ [])) (answer.Reply reply.Ok) None
          ∷ Answered 31 A (call.Rename (codes "a" ∷ []) (codes "a2" ∷ [])) (answer.Reply reply.Ok) (Some 9)
          ∷ Answered 32 A (call.Rename (codes "a2" ∷ []) (codes "a" ∷ [])) (answer.Reply reply.Ok) (Some 10)
          ∷ Answered 33 A (call.Mkdir (codes "e" ∷ [])) (answer.Reply reply.Ok) (Some 11)
          ∷ Answered 34 A (call.Stat (codes "a" ∷ [])) (answer.Reply (reply.Stat kind.File 420 0 0 1)) None
          ∷ Answered 35 A (call.Stat (codes "e" ∷ [])) (answer.Reply (reply.Stat kind.Dir 493 0 0 0)) None
          ∷ Answered 36 A (call.Create (codes "e" ∷ codes "a" ∷ [])) (answer.Reply reply.Ok) (Some 12) ∷ Durable A (6 ∷ [])
          ∷ Answered 38 A (call.Write (codes "a" ∷ []) 2 (codes "yz")) (answer.Reply reply.Ok) (Some 13)
          ∷ Answered 39 A (call.Write (codes "a" ∷ []) 4 (codes "c")) (answer.Reply reply.Ok) (Some 14)
          ∷ Answered 40 A (call.Write (codes "a" ∷ []) 0 (codes "zx")) (answer.Reply reply.Ok) (Some 15) ∷ Durable A (7 ∷ 8 ∷ 9 ∷ 10 ∷ 13 ∷ 14 ∷ [])
          ∷ [];
      status = 0;
    }

abbrev pub plain_13 : Run
plain_13 =
    record {
      lines =
          reads (line.Call B (call.Mkdir (codes "d" ∷ []))) 9 ∷ reads (line.Call B (call.Create (codes "a" ∷ []))) 10
          ∷ reads (line.Call B (call.Write (codes "a" ∷ []) 0 (codes "abcdefgh"))) 14 ∷ reads (line.Call A call.Sync) 3
          ∷ reads (line.Call B call.Sync) 3 ∷ reads (line.Call C call.Sync) 3 ∷ reads (line.Call D call.Sync) 3
          ∷ reads (line.Call B (call.Stat (codes "a" ∷ []))) 8 ∷ reads (line.Call D (call.Write (codes "a" ∷ []) 2 (codes "b"))) 14
          ∷ reads (line.Call B (call.Mkdir (codes "e" ∷ []))) 9 ∷ reads (line.Call B (call.Create (codes "a" ∷ codes "x" ∷ []))) 10
          ∷ reads (line.Call B (call.Mkdir (codes "d" ∷ []))) 9 ∷ reads (line.Push D 1) 8 ∷ reads (line.Call B (call.Mkdir (codes "d" ∷ []))) 9
          ∷ reads (line.Call B (call.Create (codes "d" ∷ codes "a" ∷ []))) 10 ∷ reads (line.Call A (call.Remove (codes "d" ∷ codes "a" ∷ []))) 10
          ∷ reads (line.Call D (call.Write (codes "a" ∷ []) 3 (codes "zxayx"))) 14 ∷ reads (line.Call A (call.List [])) 8
          ∷ reads (line.Call D (call.Rmdir [])) 9 ∷ reads (line.Call A (call.Read (codes "a" ∷ []) 1 0)) 13
          ∷ reads (line.Call B (call.Mkdir (codes "d" ∷ []))) 9 ∷ reads (line.Call C (call.Mkdir (codes "d" ∷ []))) 9
          ∷ reads (line.Call A (call.Fsync [])) 9 ∷ reads (line.Push D 2) 8 ∷ reads (line.Call A (call.Create (codes "e" ∷ codes "a" ∷ []))) 10
          ∷ reads (line.Call B (call.Write (codes "e" ∷ codes "a" ∷ []) 2 (codes "cya"))) 16
          ∷ reads (line.Call D (call.Rename (codes "d" ∷ []) (codes "d" ∷ []))) 13
          ∷ reads (line.Call A (call.Write (codes "e" ∷ codes "a" ∷ []) 0 (codes "c"))) 16
          ∷ reads (line.Call A (call.Write (codes "e" ∷ codes "a" ∷ []) 0 (codes "zy"))) 16 ∷ reads (line.Push A 4) 8
          ∷ reads (line.Call B (call.Create (codes "d" ∷ codes "a" ∷ []))) 10 ∷ reads (line.Push A 2) 8
          ∷ reads (line.Call C (call.Create (codes "e" ∷ codes "a" ∷ []))) 10 ∷ reads (line.Call C (call.Fsync [])) 9
          ∷ reads (line.Call C (call.Rename (codes "e" ∷ []) (codes "e" ∷ codes "z" ∷ []))) 13
          ∷ reads (line.Call A (call.Read (codes "d" ∷ codes "a" ∷ []) 1 9)) 15 ∷ reads (line.Call D (call.Chmod (codes "a" ∷ []) 384)) 12
          ∷ reads (line.Call C (call.Create (codes "e" ∷ codes "a" ∷ []))) 10
          ∷ reads (line.Call D (call.Write (codes "d" ∷ codes "a" ∷ []) 2 (codes "aa"))) 16
          ∷ reads (line.Call D (call.Write (codes "d" ∷ codes "a" ∷ []) 4 (codes "zz"))) 16
          ∷ reads (line.Call D (call.Write (codes "d" ∷ codes "a" ∷ []) 3 (codes "zb"))) 16 ∷ reads (line.Push D 5) 8 ∷ [];
      fates = [];
      max_objects = 1024;
      shown =
          Waits 1 B (call.Mkdir (codes "d" ∷ [])) ∷ Answered 1 B (call.Mkdir (codes "d" ∷ [])) (answer.Reply reply.Ok) (Some 1)
          ∷ Answered 2 B (call.Create (codes "a" ∷ [])) (answer.Reply reply.Ok) (Some 2)
          ∷ Answered 3 B (call.Write (codes "a" ∷ []) 0 (codes "abcdefgh")) (answer.Reply reply.Ok) (Some 3)
          ∷ Answered 4 A call.Sync (answer.Reply reply.Ok) None ∷ Waits 5 B call.Sync ∷ Durable B (1 ∷ 2 ∷ 3 ∷ [])
          ∷ Answered 5 B call.Sync (answer.Reply reply.Ok) None ∷ Answered 6 C call.Sync (answer.Reply reply.Ok) None
          ∷ Answered 7 D call.Sync (answer.Reply reply.Ok) None
          ∷ Answered 8 B (call.Stat (codes "a" ∷ [])) (answer.Reply (reply.Stat kind.File 420 0 0 8)) None
          ∷ Waits 9 D (call.Write (codes "a" ∷ []) 2 (codes "b"))
          ∷ Answered 9 D (call.Write (codes "a" ∷ []) 2 (codes "b")) (answer.Reply reply.Ok) (Some 1) ∷ Waits 10 B (call.Mkdir (codes "e" ∷ []))
          ∷ Answered 10 B (call.Mkdir (codes "e" ∷ [])) (answer.Reply reply.Ok) (Some 4) ∷ Waits 11 B (call.Create (codes "a" ∷ codes "x" ∷ []))
          ∷ Durable D (1 ∷ []) ∷ Answered 11 B (call.Create (codes "a" ∷ codes "x" ∷ [])) (answer.Reply (reply.Refused (no.NotDir 1))) None
          ∷ Answered 12 B (call.Mkdir (codes "d" ∷ [])) (answer.Reply (reply.Refused no.Exists)) None ∷ Nothing
          ∷ Answered 14 B (call.Mkdir (codes "d" ∷ [])) (answer.Reply (reply.Refused no.Exists)) None
          ∷ Answered 15 B (call.Create (codes "d" ∷ codes "a" ∷ [])) (answer.Reply reply.Ok) (Some 5)
          ∷ Waits 16 A (call.Remove (codes "d" ∷ codes "a" ∷ [])) ∷ Durable B (4 ∷ []) ∷ Durable B (5 ∷ [])
          ∷ Answered 16 A (call.Remove (codes "d" ∷ codes "a" ∷ [])) (answer.Reply reply.Ok) (Some 1)
          ∷ Waits 17 D (call.Write (codes "a" ∷ []) 3 (codes "zxayx"))
          ∷ Answered 17 D (call.Write (codes "a" ∷ []) 3 (codes "zxayx")) (answer.Reply reply.Ok) (Some 2)
          ∷ Answered 18 A (call.List []) (answer.Reply (reply.Names (codes "a" ∷ codes "d" ∷ codes "e" ∷ []))) None
          ∷ Answered 19 D (call.Rmdir []) (answer.Reply (reply.Refused no.Root)) None ∷ Waits 20 A (call.Read (codes "a" ∷ []) 1 0)
          ∷ Durable D (2 ∷ []) ∷ Answered 20 A (call.Read (codes "a" ∷ []) 1 0) (answer.Reply (reply.Data [])) None
          ∷ Answered 21 B (call.Mkdir (codes "d" ∷ [])) (answer.Reply (reply.Refused no.Exists)) None ∷ Waits 22 C (call.Mkdir (codes "d" ∷ []))
          ∷ Answered 22 C (call.Mkdir (codes "d" ∷ [])) (answer.Reply (reply.Refused no.Exists)) None
          ∷ Answered 23 A (call.Fsync []) (answer.Reply reply.Ok) None ∷ Nothing ∷ Waits 25 A (call.Create (codes "e" ∷ codes "a" ∷ []))
          ∷ Answered 25 A (call.Create (codes "e" ∷ codes "a" ∷ [])) (answer.Reply reply.Ok) (Some 2)
          ∷ Waits 26 B (call.Write (codes "e" ∷ codes "a" ∷ []) 2 (codes "cya")) ∷ Durable A (2 ∷ [])
          ∷ Answered 26 B (call.Write (codes "e" ∷ codes "a" ∷ []) 2 (codes "cya")) (answer.Reply reply.Ok) (Some 6)
          ∷ Waits 27 D (call.Rename (codes "d" ∷ []) (codes "d" ∷ [])) ∷ Durable A (1 ∷ [])
          ∷ Answered 27 D (call.Rename (codes "d" ∷ []) (codes "d" ∷ [])) (answer.Reply reply.Ok) None
          ∷ Waits 28 A (call.Write (codes "e" ∷ codes "a" ∷ []) 0 (codes "c")) ∷ Durable B (6 ∷ [])
          ∷ Answered 28 A (call.Write (codes "e" ∷ codes "a" ∷ []) 0 (codes "c")) (answer.Reply reply.Ok) (Some 3)
          ∷ Answered 29 A (call.Write (codes "e" ∷ codes "a" ∷ []) 0 (codes "zy")) (answer.Reply reply.Ok) (Some 4) ∷ Durable A (3 ∷ 4 ∷ [])
          ∷ Waits 31 B (call.Create (codes "d" ∷ codes "a" ∷ []))
          ∷ Answered 31 B (call.Create (codes "d" ∷ codes "a" ∷ [])) (answer.Reply reply.Ok) (Some 7) ∷ Nothing
          ∷ Waits 33 C (call.Create (codes "e" ∷ codes "a" ∷ []))
          ∷ Answered 33 C (call.Create (codes "e" ∷ codes "a" ∷ [])) (answer.Reply (reply.Refused no.Exists)) None
          ∷ Answered 34 C (call.Fsync []) (answer.Reply reply.Ok) None
          ∷ Answered 35 C (call.Rename (codes "e" ∷ []) (codes "e" ∷ codes "z" ∷ [])) (answer.Reply (reply.Refused no.Loop)) None
          ∷ Waits 36 A (call.Read (codes "d" ∷ codes "a" ∷ []) 1 9) ∷ Durable B (7 ∷ [])
          ∷ Answered 36 A (call.Read (codes "d" ∷ codes "a" ∷ []) 1 9) (answer.Reply (reply.Data [])) None
          ∷ Waits 37 D (call.Chmod (codes "a" ∷ []) 384) ∷ Answered 37 D (call.Chmod (codes "a" ∷ []) 384) (answer.Reply reply.Ok) (Some 3)
          ∷ Answered 38 C (call.Create (codes "e" ∷ codes "a" ∷ [])) (answer.Reply (reply.Refused no.Exists)) None
          ∷ Waits 39 D (call.Write (codes "d" ∷ codes "a" ∷ []) 2 (codes "aa"))
          ∷ Answered 39 D (call.Write (codes "d" ∷ codes "a" ∷ []) 2 (codes "aa")) (answer.Reply reply.Ok) (Some 4)
          ∷ Answered 40 D (call.Write (codes "d" ∷ codes "a" ∷ []) 4 (codes "zz")) (answer.Reply reply.Ok) (Some 5)
          ∷ Answered 41 D (call.Write (codes "d" ∷ codes "a" ∷ []) 3 (codes "zb")) (answer.Reply reply.Ok) (Some 6) ∷ Durable D (4 ∷ 5 ∷ []) ∷ [];
      status = 0;
    }

abbrev pub plain_14 : Run
plain_14 =
    record {
      lines =
          reads (line.Call A (call.Mkdir (codes "d" ∷ []))) 9 ∷ reads (line.Call B (call.Create (codes "a" ∷ []))) 10
          ∷ reads (line.Call B (call.Write (codes "a" ∷ []) 0 (codes "abcdefgh"))) 14
          ∷ reads (line.Call B (call.Create (codes "d" ∷ codes "a" ∷ []))) 10
          ∷ reads (line.Call B (call.Write (codes "d" ∷ codes "a" ∷ []) 0 (codes "abcdefgh"))) 16
          ∷ reads (line.Call B (call.Create (codes "e" ∷ codes "a" ∷ []))) 10
          ∷ reads (line.Call B (call.Write (codes "e" ∷ codes "a" ∷ []) 0 (codes "abcdefgh"))) 16
          ∷ reads (line.Call A (call.Forder ((codes "a" ∷ []) ∷ []))) 10 ∷ reads (line.Call A (call.Create (codes "e" ∷ codes "a" ∷ []))) 10
          ∷ reads (line.Call B (call.Write (codes "a" ∷ []) 2 (codes "cc"))) 14 ∷ reads (line.Call B (call.Write (codes "a" ∷ []) 4 (codes "zx"))) 14
          ∷ reads (line.Call B (call.Remove (codes "a" ∷ []))) 10 ∷ reads (line.Push A 1) 8
          ∷ reads (line.Call B (call.SetLen (codes "d" ∷ codes "a" ∷ []) 1)) 15 ∷ reads (line.Call B (call.Stat [])) 8
          ∷ reads (line.Call A (call.Remove (codes "d" ∷ codes "a" ∷ []))) 10 ∷ reads (line.Call B (call.Stat (codes "d" ∷ codes "a" ∷ []))) 8
          ∷ reads (line.Call A (call.Remove (codes "e" ∷ codes "a" ∷ []))) 10
          ∷ reads (line.Call A (call.Forder ((codes "e" ∷ codes "a" ∷ []) ∷ (codes "a" ∷ []) ∷ []))) 15
          ∷ reads (line.Call B (call.Forder ((codes "e" ∷ codes "a" ∷ []) ∷ [] ∷ []))) 15 ∷ reads (line.Call A (call.Mkdir (codes "e" ∷ []))) 9
          ∷ reads (line.Call B (call.Remove (codes "d" ∷ codes "a" ∷ []))) 10 ∷ reads (line.Call A (call.Read (codes "e" ∷ codes "a" ∷ []) 1 9)) 15
          ∷ reads (line.Call B (call.Write (codes "a" ∷ []) 3 (codes "ya"))) 14 ∷ reads (line.Call B (call.Write (codes "a" ∷ []) 0 (codes "z"))) 14
          ∷ reads (line.Call B (call.Write (codes "a" ∷ []) 5 (codes "a"))) 14 ∷ reads (line.Push B 7) 8
          ∷ reads (line.Call A (call.Write (codes "e" ∷ codes "a" ∷ []) 6 (codes "ax"))) 16 ∷ reads (line.Call A (call.Mkdir (codes "d" ∷ []))) 9
          ∷ reads (line.Call A (call.Write (codes "a" ∷ []) 0 (codes "y"))) 14 ∷ reads (line.Call B (call.Read (codes "d" ∷ codes "a" ∷ []) 1 2)) 15
          ∷ reads (line.Call B (call.Fsync [])) 9 ∷ reads (line.Call A (call.List [])) 8
          ∷ reads (line.Call B (call.Stat (codes "d" ∷ codes "a" ∷ []))) 8 ∷ reads (line.Call A (call.Remove (codes "d" ∷ codes "a" ∷ []))) 10
          ∷ reads (line.Call B (call.Write (codes "a" ∷ []) 2 (codes "za"))) 14 ∷ reads (line.Call B (call.Write (codes "a" ∷ []) 2 (codes "c"))) 14
          ∷ reads (line.Push B 7) 8 ∷ reads (line.Push B 2) 8 ∷ reads (line.Call B (call.Remove (codes "a" ∷ []))) 10 ∷ [];
      fates = [];
      max_objects = 1024;
      shown =
          Waits 1 A (call.Mkdir (codes "d" ∷ [])) ∷ Answered 1 A (call.Mkdir (codes "d" ∷ [])) (answer.Reply reply.Ok) (Some 1)
          ∷ Waits 2 B (call.Create (codes "a" ∷ [])) ∷ Durable A (1 ∷ [])
          ∷ Answered 2 B (call.Create (codes "a" ∷ [])) (answer.Reply reply.Ok) (Some 1)
          ∷ Answered 3 B (call.Write (codes "a" ∷ []) 0 (codes "abcdefgh")) (answer.Reply reply.Ok) (Some 2)
          ∷ Waits 4 B (call.Create (codes "d" ∷ codes "a" ∷ []))
          ∷ Answered 4 B (call.Create (codes "d" ∷ codes "a" ∷ [])) (answer.Reply reply.Ok) (Some 3)
          ∷ Answered 5 B (call.Write (codes "d" ∷ codes "a" ∷ []) 0 (codes "abcdefgh")) (answer.Reply reply.Ok) (Some 4)
          ∷ Answered 6 B (call.Create (codes "e" ∷ codes "a" ∷ [])) (answer.Reply (reply.Refused (no.NotFound 1))) None
          ∷ Answered 7 B (call.Write (codes "e" ∷ codes "a" ∷ []) 0 (codes "abcdefgh")) (answer.Reply (reply.Refused (no.NotFound 1))) None
          ∷ Waits 8 A (call.Forder ((codes "a" ∷ []) ∷ [])) ∷ Durable B (1 ∷ []) ∷ Durable B (2 ∷ [])
          ∷ Answered 8 A (call.Forder ((codes "a" ∷ []) ∷ [])) (answer.Reply reply.Ok) (Some 2)
          ∷ Answered 9 A (call.Create (codes "e" ∷ codes "a" ∷ [])) (answer.Reply (reply.Refused (no.NotFound 1))) None
          ∷ Waits 10 B (call.Write (codes "a" ∷ []) 2 (codes "cc")) ∷ Durable A (2 ∷ [])
          ∷ Answered 10 B (call.Write (codes "a" ∷ []) 2 (codes "cc")) (answer.Reply reply.Ok) (Some 5)
          ∷ Answered 11 B (call.Write (codes "a" ∷ []) 4 (codes "zx")) (answer.Reply reply.Ok) (Some 6) ∷ Waits 12 B (call.Remove (codes "a" ∷ []))
          ∷ Answered 12 B (call.Remove (codes "a" ∷ [])) (answer.Reply reply.Ok) (Some 7) ∷ Nothing
          ∷ Answered 14 B (call.SetLen (codes "d" ∷ codes "a" ∷ []) 1) (answer.Reply reply.Ok) (Some 8)
          ∷ Answered 15 B (call.Stat []) (answer.Reply (reply.Stat kind.Dir 493 0 0 1)) None ∷ Waits 16 A (call.Remove (codes "d" ∷ codes "a" ∷ []))
          ∷ Durable B (5 ∷ 6 ∷ 7 ∷ []) ∷ Durable B (3 ∷ []) ∷ Durable B (4 ∷ 8 ∷ [])
          ∷ Answered 16 A (call.Remove (codes "d" ∷ codes "a" ∷ [])) (answer.Reply reply.Ok) (Some 3)
          ∷ Waits 17 B (call.Stat (codes "d" ∷ codes "a" ∷ [])) ∷ Durable A (3 ∷ [])
          ∷ Answered 17 B (call.Stat (codes "d" ∷ codes "a" ∷ [])) (answer.Reply (reply.Refused (no.NotFound 2))) None
          ∷ Answered 18 A (call.Remove (codes "e" ∷ codes "a" ∷ [])) (answer.Reply (reply.Refused (no.NotFound 1))) None
          ∷ Answered 19 A (call.Forder ((codes "e" ∷ codes "a" ∷ []) ∷ (codes "a" ∷ []) ∷ [])) (answer.Reply (reply.Refused (no.NotFound 1))) None
          ∷ Answered 20 B (call.Forder ((codes "e" ∷ codes "a" ∷ []) ∷ [] ∷ [])) (answer.Reply (reply.Refused (no.NotFound 1))) None
          ∷ Waits 21 A (call.Mkdir (codes "e" ∷ [])) ∷ Answered 21 A (call.Mkdir (codes "e" ∷ [])) (answer.Reply reply.Ok) (Some 4)
          ∷ Waits 22 B (call.Remove (codes "d" ∷ codes "a" ∷ [])) ∷ Durable A (4 ∷ [])
          ∷ Answered 22 B (call.Remove (codes "d" ∷ codes "a" ∷ [])) (answer.Reply (reply.Refused (no.NotFound 2))) None
          ∷ Answered 23 A (call.Read (codes "e" ∷ codes "a" ∷ []) 1 9) (answer.Reply (reply.Refused (no.NotFound 2))) None
          ∷ Answered 24 B (call.Write (codes "a" ∷ []) 3 (codes "ya")) (answer.Reply (reply.Refused (no.NotFound 1))) None
          ∷ Answered 25 B (call.Write (codes "a" ∷ []) 0 (codes "z")) (answer.Reply (reply.Refused (no.NotFound 1))) None
          ∷ Answered 26 B (call.Write (codes "a" ∷ []) 5 (codes "a")) (answer.Reply (reply.Refused (no.NotFound 1))) None ∷ Nothing
          ∷ Answered 28 A (call.Write (codes "e" ∷ codes "a" ∷ []) 6 (codes "ax")) (answer.Reply (reply.Refused (no.NotFound 2))) None
          ∷ Answered 29 A (call.Mkdir (codes "d" ∷ [])) (answer.Reply (reply.Refused no.Exists)) None
          ∷ Answered 30 A (call.Write (codes "a" ∷ []) 0 (codes "y")) (answer.Reply (reply.Refused (no.NotFound 1))) None
          ∷ Answered 31 B (call.Read (codes "d" ∷ codes "a" ∷ []) 1 2) (answer.Reply (reply.Refused (no.NotFound 2))) None
          ∷ Answered 32 B (call.Fsync []) (answer.Reply reply.Ok) None
          ∷ Answered 33 A (call.List []) (answer.Reply (reply.Names (codes "d" ∷ codes "e" ∷ []))) None
          ∷ Answered 34 B (call.Stat (codes "d" ∷ codes "a" ∷ [])) (answer.Reply (reply.Refused (no.NotFound 2))) None
          ∷ Answered 35 A (call.Remove (codes "d" ∷ codes "a" ∷ [])) (answer.Reply (reply.Refused (no.NotFound 2))) None
          ∷ Answered 36 B (call.Write (codes "a" ∷ []) 2 (codes "za")) (answer.Reply (reply.Refused (no.NotFound 1))) None
          ∷ Answered 37 B (call.Write (codes "a" ∷ []) 2 (codes "c")) (answer.Reply (reply.Refused (no.NotFound 1))) None ∷ Nothing ∷ Nothing
          ∷ Answered 40 B (call.Remove (codes "a" ∷ [])) (answer.Reply (reply.Refused (no.NotFound 1))) None ∷ [];
      status = 0;
    }

abbrev pub plain_15 : Run
plain_15 =
    record {
      lines =
          reads (line.Call D (call.Mkdir (codes "d" ∷ []))) 9 ∷ reads (line.Call A (call.Create (codes "a" ∷ []))) 10
          ∷ reads (line.Call C (call.Create (codes "b" ∷ []))) 10 ∷ reads (line.Call A call.Sync) 3 ∷ reads (line.Call B call.Sync) 3
          ∷ reads (line.Call C call.Sync) 3 ∷ reads (line.Call D call.Sync) 3 ∷ reads (line.Call C (call.Remove (codes "b" ∷ []))) 10
          ∷ reads (line.Call C (call.Rename (codes "d" ∷ []) (codes "d" ∷ codes "e" ∷ []))) 13
          ∷ reads (line.Call C (call.Read (codes "a" ∷ []) 0 64)) 13 ∷ reads (line.Call C (call.Create (codes "d" ∷ codes "a" ∷ []))) 10
          ∷ reads (line.Call B (call.Rename (codes "d" ∷ codes "a" ∷ []) (codes "d" ∷ codes "a" ∷ []))) 15
          ∷ reads (line.Call A (call.SetLen (codes "a" ∷ []) 0)) 13 ∷ reads (line.Call A (call.Remove (codes "d" ∷ codes "a" ∷ []))) 10
          ∷ reads (line.Call D (call.Write (codes "a" ∷ []) 1 (codes "x"))) 14 ∷ reads (line.Call B (call.Mkdir (codes "d" ∷ codes "e" ∷ []))) 9
          ∷ reads (line.Call C (call.Remove (codes "a" ∷ []))) 10 ∷ reads (line.Call D (call.Remove (codes "d" ∷ codes "a" ∷ []))) 10
          ∷ reads (line.Call C (call.Touch [] 5)) 11 ∷ reads (line.Call B (call.Create (codes "d" ∷ codes "e" ∷ codes "a" ∷ []))) 10
          ∷ reads (line.Push C 2) 8 ∷ reads (line.Call A (call.Create (codes "a" ∷ []))) 10
          ∷ reads (line.Call A (call.Create (codes "d" ∷ codes "b" ∷ []))) 10 ∷ reads (line.Call D (call.Write (codes "a" ∷ []) 6 (codes "c"))) 14
          ∷ reads (line.Call A (call.SetLen (codes "a" ∷ []) 1)) 13 ∷ reads (line.Call D (call.Rename (codes "a" ∷ []) (codes "a2" ∷ []))) 13
          ∷ reads (line.Call D (call.Remove (codes "a2" ∷ []))) 10 ∷ reads (line.Call C (call.Stat (codes "d" ∷ codes "e" ∷ []))) 8
          ∷ reads (line.Call B (call.Touch (codes "d" ∷ codes "e" ∷ codes "a" ∷ []) 7)) 16 ∷ reads (line.Call C (call.Touch (codes "d" ∷ []) 7)) 12
          ∷ reads (line.Call C (call.Write (codes "d" ∷ codes "e" ∷ codes "a" ∷ []) 2 (codes "axccc"))) 18
          ∷ reads (line.Call B (call.Rename (codes "d" ∷ codes "e" ∷ codes "a" ∷ []) (codes "a" ∷ []))) 17 ∷ reads (line.Push C 4) 8
          ∷ reads (line.Call C (call.Mkdir (codes "e" ∷ []))) 9 ∷ reads (line.Call D (call.List [])) 8
          ∷ reads (line.Call C (call.Create (codes "d" ∷ codes "e" ∷ codes "a" ∷ []))) 10
          ∷ reads (line.Call B (call.Create (codes "d" ∷ codes "a" ∷ []))) 10 ∷ reads (line.Call A (call.Mkdir (codes "d" ∷ codes "k" ∷ []))) 9
          ∷ reads (line.Call B (call.Chmod [] 493)) 11
          ∷ reads (line.Call A (call.Rename (codes "d" ∷ codes "b" ∷ []) (codes "d" ∷ codes "a" ∷ []))) 15
          ∷ reads (line.Call C (call.Mkdir (codes "e" ∷ []))) 9 ∷ reads (line.Call B (call.Rename (codes "a" ∷ []) (codes "d" ∷ codes "a" ∷ []))) 13
          ∷ reads (line.Call B (call.Write (codes "d" ∷ codes "a" ∷ []) 1 (codes "z"))) 16
          ∷ reads (line.Call C (call.Write (codes "d" ∷ codes "e" ∷ codes "a" ∷ []) 6 (codes "c"))) 18
          ∷ reads (line.Call A (call.Mkdir (codes "d" ∷ []))) 9 ∷ reads (line.Call A (call.Write (codes "d" ∷ codes "a" ∷ []) 0 (codes "a"))) 16
          ∷ reads (line.Call B (call.Create (codes "b" ∷ []))) 10 ∷ reads (line.Call D (call.Rmdir (codes "d" ∷ codes "e" ∷ []))) 9
          ∷ reads (line.Call D (call.Write (codes "d" ∷ codes "e" ∷ codes "a" ∷ []) 6 (codes "yyaya"))) 18
          ∷ reads (line.Call D (call.Write (codes "d" ∷ codes "e" ∷ codes "a" ∷ []) 2 (codes "ab"))) 18
          ∷ reads (line.Call D (call.Read (codes "d" ∷ codes "e" ∷ codes "a" ∷ []) 1 64)) 17 ∷ reads (line.Call C (call.Remove (codes "b" ∷ []))) 10
          ∷ reads (line.Call B (call.Stat (codes "d" ∷ codes "e" ∷ codes "a" ∷ []))) 8 ∷ reads (line.Call A (call.Create (codes "b" ∷ []))) 10
          ∷ reads (line.Call A (call.Mkdir (codes "d" ∷ []))) 9 ∷ reads (line.Call A (call.Read (codes "d" ∷ codes "a" ∷ []) 1 9)) 15
          ∷ reads (line.Call A (call.Write (codes "d" ∷ codes "a" ∷ []) 1 (codes "x"))) 16
          ∷ reads (line.Call C (call.Write (codes "b" ∷ []) 3 (codes "x"))) 14
          ∷ reads (line.Call C (call.Write (codes "d" ∷ codes "e" ∷ codes "a" ∷ []) 3 (codes "yaacc"))) 18
          ∷ reads (line.Call C (call.Fsync (codes "e" ∷ []))) 9 ∷ [];
      fates = [];
      max_objects = 1024;
      shown =
          Waits 1 D (call.Mkdir (codes "d" ∷ [])) ∷ Answered 1 D (call.Mkdir (codes "d" ∷ [])) (answer.Reply reply.Ok) (Some 1)
          ∷ Waits 2 A (call.Create (codes "a" ∷ [])) ∷ Durable D (1 ∷ [])
          ∷ Answered 2 A (call.Create (codes "a" ∷ [])) (answer.Reply reply.Ok) (Some 1) ∷ Waits 3 C (call.Create (codes "b" ∷ []))
          ∷ Durable A (1 ∷ []) ∷ Answered 3 C (call.Create (codes "b" ∷ [])) (answer.Reply reply.Ok) (Some 1)
          ∷ Answered 4 A call.Sync (answer.Reply reply.Ok) None ∷ Answered 5 B call.Sync (answer.Reply reply.Ok) None ∷ Waits 6 C call.Sync
          ∷ Durable C (1 ∷ []) ∷ Answered 6 C call.Sync (answer.Reply reply.Ok) None ∷ Answered 7 D call.Sync (answer.Reply reply.Ok) None
          ∷ Answered 8 C (call.Remove (codes "b" ∷ [])) (answer.Reply reply.Ok) (Some 2)
          ∷ Waits 9 C (call.Rename (codes "d" ∷ []) (codes "d" ∷ codes "e" ∷ []))
          ∷ Answered 9 C (call.Rename (codes "d" ∷ []) (codes "d" ∷ codes "e" ∷ [])) (answer.Reply (reply.Refused no.Loop)) None
          ∷ Waits 10 C (call.Read (codes "a" ∷ []) 0 64) ∷ Answered 10 C (call.Read (codes "a" ∷ []) 0 64) (answer.Reply (reply.Data [])) None
          ∷ Waits 11 C (call.Create (codes "d" ∷ codes "a" ∷ []))
          ∷ Answered 11 C (call.Create (codes "d" ∷ codes "a" ∷ [])) (answer.Reply reply.Ok) (Some 3)
          ∷ Waits 12 B (call.Rename (codes "d" ∷ codes "a" ∷ []) (codes "d" ∷ codes "a" ∷ [])) ∷ Durable C (2 ∷ []) ∷ Durable C (3 ∷ [])
          ∷ Answered 12 B (call.Rename (codes "d" ∷ codes "a" ∷ []) (codes "d" ∷ codes "a" ∷ [])) (answer.Reply reply.Ok) None
          ∷ Waits 13 A (call.SetLen (codes "a" ∷ []) 0) ∷ Answered 13 A (call.SetLen (codes "a" ∷ []) 0) (answer.Reply reply.Ok) (Some 2)
          ∷ Waits 14 A (call.Remove (codes "d" ∷ codes "a" ∷ []))
          ∷ Answered 14 A (call.Remove (codes "d" ∷ codes "a" ∷ [])) (answer.Reply reply.Ok) (Some 3)
          ∷ Waits 15 D (call.Write (codes "a" ∷ []) 1 (codes "x")) ∷ Durable A (2 ∷ [])
          ∷ Answered 15 D (call.Write (codes "a" ∷ []) 1 (codes "x")) (answer.Reply reply.Ok) (Some 2)
          ∷ Waits 16 B (call.Mkdir (codes "d" ∷ codes "e" ∷ [])) ∷ Durable A (3 ∷ [])
          ∷ Answered 16 B (call.Mkdir (codes "d" ∷ codes "e" ∷ [])) (answer.Reply reply.Ok) (Some 1) ∷ Waits 17 C (call.Remove (codes "a" ∷ []))
          ∷ Durable D (2 ∷ []) ∷ Answered 17 C (call.Remove (codes "a" ∷ [])) (answer.Reply reply.Ok) (Some 4)
          ∷ Waits 18 D (call.Remove (codes "d" ∷ codes "a" ∷ [])) ∷ Durable C (4 ∷ []) ∷ Durable B (1 ∷ [])
          ∷ Answered 18 D (call.Remove (codes "d" ∷ codes "a" ∷ [])) (answer.Reply (reply.Refused (no.NotFound 2))) None
          ∷ Waits 19 C (call.Touch [] 5) ∷ Answered 19 C (call.Touch [] 5) (answer.Reply reply.Ok) (Some 5)
          ∷ Waits 20 B (call.Create (codes "d" ∷ codes "e" ∷ codes "a" ∷ [])) ∷ Durable C (5 ∷ [])
          ∷ Answered 20 B (call.Create (codes "d" ∷ codes "e" ∷ codes "a" ∷ [])) (answer.Reply reply.Ok) (Some 2) ∷ Nothing
          ∷ Waits 22 A (call.Create (codes "a" ∷ [])) ∷ Answered 22 A (call.Create (codes "a" ∷ [])) (answer.Reply reply.Ok) (Some 4)
          ∷ Waits 23 A (call.Create (codes "d" ∷ codes "b" ∷ []))
          ∷ Answered 23 A (call.Create (codes "d" ∷ codes "b" ∷ [])) (answer.Reply reply.Ok) (Some 5)
          ∷ Waits 24 D (call.Write (codes "a" ∷ []) 6 (codes "c")) ∷ Durable A (4 ∷ [])
          ∷ Answered 24 D (call.Write (codes "a" ∷ []) 6 (codes "c")) (answer.Reply reply.Ok) (Some 3) ∷ Waits 25 A (call.SetLen (codes "a" ∷ []) 1)
          ∷ Durable D (3 ∷ []) ∷ Answered 25 A (call.SetLen (codes "a" ∷ []) 1) (answer.Reply reply.Ok) (Some 6)
          ∷ Waits 26 D (call.Rename (codes "a" ∷ []) (codes "a2" ∷ [])) ∷ Durable A (6 ∷ [])
          ∷ Answered 26 D (call.Rename (codes "a" ∷ []) (codes "a2" ∷ [])) (answer.Reply reply.Ok) (Some 4)
          ∷ Answered 27 D (call.Remove (codes "a2" ∷ [])) (answer.Reply reply.Ok) (Some 5) ∷ Waits 28 C (call.Stat (codes "d" ∷ codes "e" ∷ []))
          ∷ Durable D (4 ∷ 5 ∷ []) ∷ Durable A (5 ∷ []) ∷ Durable B (2 ∷ [])
          ∷ Answered 28 C (call.Stat (codes "d" ∷ codes "e" ∷ [])) (answer.Reply (reply.Stat kind.Dir 493 0 0 1)) None
          ∷ Waits 29 B (call.Touch (codes "d" ∷ codes "e" ∷ codes "a" ∷ []) 7)
          ∷ Answered 29 B (call.Touch (codes "d" ∷ codes "e" ∷ codes "a" ∷ []) 7) (answer.Reply reply.Ok) (Some 3)
          ∷ Waits 30 C (call.Touch (codes "d" ∷ []) 7) ∷ Answered 30 C (call.Touch (codes "d" ∷ []) 7) (answer.Reply reply.Ok) (Some 6)
          ∷ Waits 31 C (call.Write (codes "d" ∷ codes "e" ∷ codes "a" ∷ []) 2 (codes "axccc")) ∷ Durable B (3 ∷ [])
          ∷ Answered 31 C (call.Write (codes "d" ∷ codes "e" ∷ codes "a" ∷ []) 2 (codes "axccc")) (answer.Reply reply.Ok) (Some 7)
          ∷ Waits 32 B (call.Rename (codes "d" ∷ codes "e" ∷ codes "a" ∷ []) (codes "a" ∷ [])) ∷ Durable C (6 ∷ []) ∷ Durable C (7 ∷ [])
          ∷ Answered 32 B (call.Rename (codes "d" ∷ codes "e" ∷ codes "a" ∷ []) (codes "a" ∷ [])) (answer.Reply reply.Ok) (Some 4) ∷ Nothing
          ∷ Waits 34 C (call.Mkdir (codes "e" ∷ [])) ∷ Durable B (4 ∷ [])
          ∷ Answered 34 C (call.Mkdir (codes "e" ∷ [])) (answer.Reply reply.Ok) (Some 8) ∷ Waits 35 D (call.List []) ∷ Durable C (8 ∷ [])
          ∷ Answered 35 D (call.List []) (answer.Reply (reply.Names (codes "a" ∷ codes "d" ∷ codes "e" ∷ []))) None
          ∷ Waits 36 C (call.Create (codes "d" ∷ codes "e" ∷ codes "a" ∷ []))
          ∷ Answered 36 C (call.Create (codes "d" ∷ codes "e" ∷ codes "a" ∷ [])) (answer.Reply reply.Ok) (Some 9)
          ∷ Waits 37 B (call.Create (codes "d" ∷ codes "a" ∷ []))
          ∷ Answered 37 B (call.Create (codes "d" ∷ codes "a" ∷ [])) (answer.Reply reply.Ok) (Some 5)
          ∷ Waits 38 A (call.Mkdir (codes "d" ∷ codes "k" ∷ [])) ∷ Durable B (5 ∷ [])
          ∷ Answered 38 A (call.Mkdir (codes "d" ∷ codes "k" ∷ [])) (answer.Reply reply.Ok) (Some 7) ∷ Waits 39 B (call.Chmod [] 493)
          ∷ Answered 39 B (call.Chmod [] 493) (answer.Reply reply.Ok) (Some 6)
          ∷ Waits 40 A (call.Rename (codes "d" ∷ codes "b" ∷ []) (codes "d" ∷ codes "a" ∷ [])) ∷ Durable B (6 ∷ [])
          ∷ Answered 40 A (call.Rename (codes "d" ∷ codes "b" ∷ []) (codes "d" ∷ codes "a" ∷ [])) (answer.Reply reply.Ok) (Some 8)
          ∷ Waits 41 C (call.Mkdir (codes "e" ∷ [])) ∷ Answered 41 C (call.Mkdir (codes "e" ∷ [])) (answer.Reply (reply.Refused no.Exists)) None
          ∷ Waits 42 B (call.Rename (codes "a" ∷ []) (codes "d" ∷ codes "a" ∷ [])) ∷ Durable A (7 ∷ 8 ∷ [])
          ∷ Answered 42 B (call.Rename (codes "a" ∷ []) (codes "d" ∷ codes "a" ∷ [])) (answer.Reply reply.Ok) (Some 7)
          ∷ Answered 43 B (call.Write (codes "d" ∷ codes "a" ∷ []) 1 (codes "z")) (answer.Reply reply.Ok) (Some 8)
          ∷ Waits 44 C (call.Write (codes "d" ∷ codes "e" ∷ codes "a" ∷ []) 6 (codes "c")) ∷ Durable B (7 ∷ [])
          ∷ Answered 44 C (call.Write (codes "d" ∷ codes "e" ∷ codes "a" ∷ []) 6 (codes "c")) (answer.Reply reply.Ok) (Some 10)
          ∷ Waits 45 A (call.Mkdir (codes "d" ∷ [])) ∷ Answered 45 A (call.Mkdir (codes "d" ∷ [])) (answer.Reply (reply.Refused no.Exists)) None
          ∷ Waits 46 A (call.Write (codes "d" ∷ codes "a" ∷ []) 0 (codes "a")) ∷ Durable B (8 ∷ [])
          ∷ Answered 46 A (call.Write (codes "d" ∷ codes "a" ∷ []) 0 (codes "a")) (answer.Reply reply.Ok) (Some 9)
          ∷ Waits 47 B (call.Create (codes "b" ∷ [])) ∷ Answered 47 B (call.Create (codes "b" ∷ [])) (answer.Reply reply.Ok) (Some 9)
          ∷ Waits 48 D (call.Rmdir (codes "d" ∷ codes "e" ∷ [])) ∷ Durable B (9 ∷ []) ∷ Durable C (9 ∷ [])
          ∷ Answered 48 D (call.Rmdir (codes "d" ∷ codes "e" ∷ [])) (answer.Reply (reply.Refused no.NotEmpty)) None
          ∷ Waits 49 D (call.Write (codes "d" ∷ codes "e" ∷ codes "a" ∷ []) 6 (codes "yyaya")) ∷ Durable C (10 ∷ [])
          ∷ Answered 49 D (call.Write (codes "d" ∷ codes "e" ∷ codes "a" ∷ []) 6 (codes "yyaya")) (answer.Reply reply.Ok) (Some 6)
          ∷ Answered 50 D (call.Write (codes "d" ∷ codes "e" ∷ codes "a" ∷ []) 2 (codes "ab")) (answer.Reply reply.Ok) (Some 7)
          ∷ Answered 51 D (call.Read (codes "d" ∷ codes "e" ∷ codes "a" ∷ []) 1 64) (answer.Reply (reply.Data (0 ∷ 97 ∷ 98 ∷ 0 ∷ 0 ∷ 121 ∷ 121 ∷ 97 ∷ 121 ∷ 97 ∷ []))) None
          ∷ Waits 52 C (call.Remove (codes "b" ∷ [])) ∷ Answered 52 C (call.Remove (codes "b" ∷ [])) (answer.Reply reply.Ok) (Some 11)
          ∷ Waits 53 B (call.Stat (codes "d" ∷ codes "e" ∷ codes "a" ∷ [])) ∷ Durable C (11 ∷ []) ∷ Durable D (6 ∷ 7 ∷ [])
          ∷ Answered 53 B (call.Stat (codes "d" ∷ codes "e" ∷ codes "a" ∷ [])) (answer.Reply (reply.Stat kind.File 420 0 0 11)) None
          ∷ Waits 54 A (call.Create (codes "b" ∷ [])) ∷ Answered 54 A (call.Create (codes "b" ∷ [])) (answer.Reply reply.Ok) (Some 10)
          ∷ Answered 55 A (call.Mkdir (codes "d" ∷ [])) (answer.Reply (reply.Refused no.Exists)) None
          ∷ Answered 56 A (call.Read (codes "d" ∷ codes "a" ∷ []) 1 9) (answer.Reply (reply.Data (codes "zaxccc"))) None
          ∷ Answered 57 A (call.Write (codes "d" ∷ codes "a" ∷ []) 1 (codes "x")) (answer.Reply reply.Ok) (Some 11)
          ∷ Waits 58 C (call.Write (codes "b" ∷ []) 3 (codes "x")) ∷ Durable A (10 ∷ [])
          ∷ Answered 58 C (call.Write (codes "b" ∷ []) 3 (codes "x")) (answer.Reply reply.Ok) (Some 12)
          ∷ Waits 59 C (call.Write (codes "d" ∷ codes "e" ∷ codes "a" ∷ []) 3 (codes "yaacc"))
          ∷ Answered 59 C (call.Write (codes "d" ∷ codes "e" ∷ codes "a" ∷ []) 3 (codes "yaacc")) (answer.Reply reply.Ok) (Some 13)
          ∷ Answered 60 C (call.Fsync (codes "e" ∷ [])) (answer.Reply reply.Ok) None ∷ [];
      status = 0;
    }
