-- Random scripts with stops of the server.
use Rattle.std.specs.Prelude.{[], ◌∷◌, None, Some, codes}
use Rattle.ec_volume.specs.declared.image.Kind.TheVariants as kind
use Rattle.ec_plain.specs.declared.call.Call.TheVariants as call
use Rattle.ec_plain.specs.declared.call.Reply.TheVariants as reply
use Rattle.ec_plain.specs.declared.call.Refusal.TheVariants as no
use Rattle.ec_history.specs.declared.entry.Answer.TheVariants as answer
use Rattle.ec_history.specs.declared.shown.Shown.TheVariants.{Waits, Answered, Durable, Ended, Told, Crashed, Stopped, Started, Nothing}
use Rattle.ec_disk.specs.declared.disk.Choice.TheVariants as choice
use Rattle.ec_wire.specs.declared.msg.MsgKind.TheVariants as msg
use Rattle.ec_protocol.specs.declared.script.Line.TheVariants as line
use Rattle.ec_protocol.specs.World.{runs, stops_without, stops_with}
use Rattle.ec_protocol.specs.Drill.{reads}
use Rattle.ec_protocol.specs.Runs.{Run, A, B, C, D}

abbrev pub stop_0 : Run
stop_0 =
    record {
      lines =
          reads (line.Call B (call.Mkdir (codes "d" ∷ []))) 9 ∷ reads (line.Call A (call.Create (codes "a" ∷ []))) 10
          ∷ reads (line.Call A (call.Write (codes "a" ∷ []) 0 (codes "abcdefgh"))) 14
          ∷ reads (line.Call B (call.Create (codes "d" ∷ codes "a" ∷ []))) 10
          ∷ reads (line.Call B (call.Write (codes "d" ∷ codes "a" ∷ []) 0 (codes "abcdefgh"))) 16 ∷ reads (line.Call B (call.Stat (codes "a" ∷ []))) 8
          ∷ reads (line.Call A (call.Stat (codes "d" ∷ []))) 8 ∷ reads (line.Call B (call.Fsync (codes "d" ∷ codes "a" ∷ []))) 9
          ∷ reads (line.Call A (call.Read (codes "d" ∷ codes "a" ∷ []) 0 64)) 15 ∷ reads (line.Call A (call.Create (codes "a" ∷ []))) 10
          ∷ reads (line.Call A (call.Read (codes "d" ∷ codes "a" ∷ []) 0 2)) 15
          ∷ reads (line.Call A (call.Write (codes "d" ∷ codes "a" ∷ []) 5 (codes "z"))) 16
          ∷ reads (line.Call A (call.Write (codes "d" ∷ codes "a" ∷ []) 4 (codes "yb"))) 16 ∷ reads (line.Push A 4) 8
          ∷ reads (line.Call A (call.Chown (codes "d" ∷ codes "a" ∷ []) 4)) 14 ∷ reads (line.Call B (call.SetLen (codes "d" ∷ codes "a" ∷ []) 2)) 15
          ∷ reads (line.Call B (call.Read (codes "a" ∷ []) 1 64)) 13 ∷ reads (line.Call B (call.Rename (codes "a" ∷ []) (codes "a2" ∷ []))) 13
          ∷ reads (line.Call A (call.Write (codes "d" ∷ codes "a" ∷ []) 2 (codes "zbx"))) 16 ∷ reads (line.Call A (call.Fsync (codes "a2" ∷ []))) 9
          ∷ reads (line.Arm 4 choice.New) 7 ∷ reads (line.Call B (call.Create (codes "a" ∷ []))) 10
          ∷ reads (line.Call B (call.Fsync (codes "a" ∷ []))) 9 ∷ reads (line.Call B (call.Read (codes "d" ∷ codes "a" ∷ []) 3 9)) 15
          ∷ reads (line.Call A (call.Read (codes "a" ∷ []) 0 9)) 13
          ∷ reads (line.Call B (call.Rename (codes "a" ∷ []) (codes "d" ∷ codes "a" ∷ []))) 13
          ∷ reads (line.Call B (call.Read (codes "a2" ∷ []) 0 9)) 14 ∷ reads (line.Call B (call.Create (codes "e" ∷ codes "a" ∷ []))) 10
          ∷ reads (line.Call A (call.Stat (codes "d" ∷ []))) 8 ∷ reads (line.Resend B) 8 ∷ reads (line.Deliver B msg.Claim 2) 17
          ∷ reads (line.Call A (call.Create (codes "e" ∷ codes "a" ∷ []))) 10 ∷ reads (line.Call A (call.Read (codes "a2" ∷ []) 0 0)) 14
          ∷ reads (line.Deliver B msg.Claim 2) 17 ∷ reads (line.Call A (call.Read (codes "d" ∷ codes "a" ∷ []) 1 9)) 15
          ∷ reads (line.Call B (call.Stat (codes "d" ∷ codes "a" ∷ []))) 8 ∷ reads (line.Call A (call.Stat [])) 8
          ∷ reads (line.Call B (call.Rename (codes "a2" ∷ []) (codes "d" ∷ codes "a" ∷ []))) 14
          ∷ reads (line.Call A (call.Create (codes "e" ∷ codes "a" ∷ []))) 10 ∷ reads (line.Call A (call.Remove (codes "a" ∷ []))) 10 ∷ [];
      fates = [] ∷ [] ∷ [] ∷ [] ∷ [] ∷ [] ∷ [] ∷ [] ∷ [] ∷ [] ∷ [] ∷ [] ∷ [] ∷ [] ∷ [] ∷ [] ∷ [] ∷ [] ∷ [] ∷ [] ∷ [] ∷ [] ∷ (runs ∷ stops_with ∷ []) ∷ [];
      max_objects = 1024;
      shown =
          Waits 1 B (call.Mkdir (codes "d" ∷ [])) ∷ Answered 1 B (call.Mkdir (codes "d" ∷ [])) (answer.Reply reply.Ok) (Some 1)
          ∷ Waits 2 A (call.Create (codes "a" ∷ [])) ∷ Durable B (1 ∷ [])
          ∷ Answered 2 A (call.Create (codes "a" ∷ [])) (answer.Reply reply.Ok) (Some 1)
          ∷ Answered 3 A (call.Write (codes "a" ∷ []) 0 (codes "abcdefgh")) (answer.Reply reply.Ok) (Some 2)
          ∷ Waits 4 B (call.Create (codes "d" ∷ codes "a" ∷ [])) ∷ Durable A (1 ∷ [])
          ∷ Answered 4 B (call.Create (codes "d" ∷ codes "a" ∷ [])) (answer.Reply reply.Ok) (Some 2)
          ∷ Answered 5 B (call.Write (codes "d" ∷ codes "a" ∷ []) 0 (codes "abcdefgh")) (answer.Reply reply.Ok) (Some 3)
          ∷ Waits 6 B (call.Stat (codes "a" ∷ [])) ∷ Durable A (2 ∷ [])
          ∷ Answered 6 B (call.Stat (codes "a" ∷ [])) (answer.Reply (reply.Stat kind.File 420 0 0 8)) None ∷ Waits 7 A (call.Stat (codes "d" ∷ []))
          ∷ Durable B (2 ∷ []) ∷ Answered 7 A (call.Stat (codes "d" ∷ [])) (answer.Reply (reply.Stat kind.Dir 493 0 0 1)) None
          ∷ Waits 8 B (call.Fsync (codes "d" ∷ codes "a" ∷ [])) ∷ Durable B (3 ∷ [])
          ∷ Answered 8 B (call.Fsync (codes "d" ∷ codes "a" ∷ [])) (answer.Reply reply.Ok) None
          ∷ Waits 9 A (call.Read (codes "d" ∷ codes "a" ∷ []) 0 64)
          ∷ Answered 9 A (call.Read (codes "d" ∷ codes "a" ∷ []) 0 64) (answer.Reply (reply.Data (codes "abcdefgh"))) None
          ∷ Answered 10 A (call.Create (codes "a" ∷ [])) (answer.Reply (reply.Refused no.Exists)) None
          ∷ Answered 11 A (call.Read (codes "d" ∷ codes "a" ∷ []) 0 2) (answer.Reply (reply.Data (codes "ab"))) None
          ∷ Waits 12 A (call.Write (codes "d" ∷ codes "a" ∷ []) 5 (codes "z"))
          ∷ Answered 12 A (call.Write (codes "d" ∷ codes "a" ∷ []) 5 (codes "z")) (answer.Reply reply.Ok) (Some 3)
          ∷ Answered 13 A (call.Write (codes "d" ∷ codes "a" ∷ []) 4 (codes "yb")) (answer.Reply reply.Ok) (Some 4) ∷ Durable A (3 ∷ 4 ∷ [])
          ∷ Answered 15 A (call.Chown (codes "d" ∷ codes "a" ∷ []) 4) (answer.Reply reply.Ok) (Some 5)
          ∷ Waits 16 B (call.SetLen (codes "d" ∷ codes "a" ∷ []) 2) ∷ Durable A (5 ∷ [])
          ∷ Answered 16 B (call.SetLen (codes "d" ∷ codes "a" ∷ []) 2) (answer.Reply reply.Ok) (Some 4)
          ∷ Answered 17 B (call.Read (codes "a" ∷ []) 1 64) (answer.Reply (reply.Data (codes "bcdefgh"))) None
          ∷ Waits 18 B (call.Rename (codes "a" ∷ []) (codes "a2" ∷ []))
          ∷ Answered 18 B (call.Rename (codes "a" ∷ []) (codes "a2" ∷ [])) (answer.Reply reply.Ok) (Some 5)
          ∷ Waits 19 A (call.Write (codes "d" ∷ codes "a" ∷ []) 2 (codes "zbx")) ∷ Durable B (5 ∷ []) ∷ Durable B (4 ∷ [])
          ∷ Answered 19 A (call.Write (codes "d" ∷ codes "a" ∷ []) 2 (codes "zbx")) (answer.Reply reply.Ok) (Some 6)
          ∷ Waits 20 A (call.Fsync (codes "a2" ∷ [])) ∷ Answered 20 A (call.Fsync (codes "a2" ∷ [])) (answer.Reply reply.Ok) None
          ∷ Waits 22 B (call.Create (codes "a" ∷ [])) ∷ Answered 22 B (call.Create (codes "a" ∷ [])) (answer.Reply reply.Ok) (Some 6)
          ∷ Waits 23 B (call.Fsync (codes "a" ∷ [])) ∷ Stopped ∷ Waits 24 B (call.Read (codes "d" ∷ codes "a" ∷ []) 3 9)
          ∷ Waits 25 A (call.Read (codes "a" ∷ []) 0 9) ∷ Waits 26 B (call.Rename (codes "a" ∷ []) (codes "d" ∷ codes "a" ∷ []))
          ∷ Answered 27 B (call.Read (codes "a2" ∷ []) 0 9) (answer.Reply (reply.Data (codes "abcdefgh"))) None
          ∷ Answered 28 B (call.Create (codes "e" ∷ codes "a" ∷ [])) (answer.Reply (reply.Refused (no.NotFound 1))) None
          ∷ Waits 29 A (call.Stat (codes "d" ∷ [])) ∷ Nothing ∷ Waits 32 A (call.Create (codes "e" ∷ codes "a" ∷ []))
          ∷ Waits 33 A (call.Read (codes "a2" ∷ []) 0 0) ∷ Nothing ∷ Waits 35 A (call.Read (codes "d" ∷ codes "a" ∷ []) 1 9)
          ∷ Waits 36 B (call.Stat (codes "d" ∷ codes "a" ∷ [])) ∷ Waits 37 A (call.Stat [])
          ∷ Waits 38 B (call.Rename (codes "a2" ∷ []) (codes "d" ∷ codes "a" ∷ [])) ∷ Waits 39 A (call.Create (codes "e" ∷ codes "a" ∷ []))
          ∷ Waits 40 A (call.Remove (codes "a" ∷ [])) ∷ Durable B (6 ∷ []) ∷ Started ∷ [];
      status = 0;
    }

abbrev pub stop_1 : Run
stop_1 =
    record {
      lines =
          reads (line.Call A (call.Mkdir (codes "d" ∷ []))) 9 ∷ reads (line.Call B (call.Create (codes "a" ∷ []))) 10
          ∷ reads (line.Call A (call.Create (codes "d" ∷ codes "a" ∷ []))) 10 ∷ reads (line.End A) 5 ∷ reads (line.Cut B) 5
          ∷ reads (line.Call B (call.Rename (codes "a" ∷ []) (codes "d" ∷ codes "a" ∷ []))) 13
          ∷ reads (line.Call B (call.Write (codes "a" ∷ []) 0 (codes "q"))) 14 ∷ reads (line.End B) 5
          ∷ reads (line.Call A (call.Read (codes "d" ∷ codes "a" ∷ []) 0 9)) 15 ∷ reads (line.Call B (call.Remove (codes "d" ∷ codes "a" ∷ []))) 10
          ∷ reads (line.Uncut B) 7 ∷ reads (line.Call B (call.List [])) 8 ∷ reads (line.Call B call.Sync) 3
          ∷ reads (line.Call B (call.Stat (codes "a2" ∷ []))) 8 ∷ reads (line.Call B (call.Write (codes "e" ∷ codes "a" ∷ []) 6 (codes "y"))) 16
          ∷ reads (line.Call B (call.Forder ((codes "d" ∷ codes "a" ∷ []) ∷ [] ∷ []))) 15 ∷ reads (line.Call A (call.Create (codes "a" ∷ []))) 10
          ∷ reads (line.Call A (call.Mkdir (codes "e" ∷ []))) 9 ∷ reads (line.Call B (call.Chown [] 8)) 11 ∷ reads (line.End C) 5
          ∷ reads (line.Call C (call.Forder ((codes "a" ∷ []) ∷ []))) 10 ∷ reads (line.Call B (call.Write (codes "a" ∷ []) 6 (codes "yxcxz"))) 14
          ∷ reads (line.Call A (call.Forder ([] ∷ []))) 10 ∷ reads (line.Call B (call.Forder ([] ∷ [] ∷ []))) 12 ∷ reads (line.Push A 3) 8
          ∷ reads (line.Push B 2) 8 ∷ reads (line.Call B (call.Chown [] 2)) 11 ∷ reads (line.Cut C) 5
          ∷ reads (line.Call C (call.Rename (codes "a" ∷ []) (codes "e" ∷ codes "a" ∷ []))) 13 ∷ reads (line.End C) 5
          ∷ reads (line.Call B (call.Read (codes "d" ∷ codes "a" ∷ []) 0 64)) 15
          ∷ reads (line.Call A (call.Write (codes "d" ∷ codes "a" ∷ []) 4 (codes "azc"))) 16 ∷ reads (line.Uncut C) 7
          ∷ reads (line.Call C (call.List [])) 8 ∷ reads (line.Call C call.Sync) 3 ∷ reads (line.Call C (call.Read (codes "a" ∷ []) 0 9)) 13
          ∷ reads (line.Call B (call.Write (codes "a" ∷ []) 2 (codes "c"))) 14 ∷ reads (line.Call B (call.Touch [] 4)) 11
          ∷ reads (line.Call B (call.List (codes "e" ∷ []))) 8 ∷ reads (line.Call C (call.Write (codes "e" ∷ codes "a" ∷ []) 3 (codes "y"))) 16
          ∷ reads (line.Resend A) 8 ∷ reads (line.Resend B) 8 ∷ reads (line.Resend C) 8 ∷ reads (line.Resend A) 8 ∷ reads (line.Resend B) 8
          ∷ reads (line.Resend C) 8 ∷ reads (line.Call A (call.List [])) 8 ∷ reads (line.Call B (call.List [])) 8
          ∷ reads (line.Call C (call.List [])) 8 ∷ reads (line.Call C (call.Read (codes "a" ∷ []) 0 64)) 13
          ∷ reads (line.Call A (call.Read (codes "d" ∷ codes "a" ∷ []) 0 64)) 15
          ∷ reads (line.Call B (call.Read (codes "e" ∷ codes "a" ∷ []) 0 64)) 15 ∷ [];
      fates = [];
      max_objects = 1024;
      shown =
          Waits 1 A (call.Mkdir (codes "d" ∷ [])) ∷ Answered 1 A (call.Mkdir (codes "d" ∷ [])) (answer.Reply reply.Ok) (Some 1)
          ∷ Waits 2 B (call.Create (codes "a" ∷ [])) ∷ Durable A (1 ∷ [])
          ∷ Answered 2 B (call.Create (codes "a" ∷ [])) (answer.Reply reply.Ok) (Some 1) ∷ Waits 3 A (call.Create (codes "d" ∷ codes "a" ∷ []))
          ∷ Durable B (1 ∷ []) ∷ Answered 3 A (call.Create (codes "d" ∷ codes "a" ∷ [])) (answer.Reply reply.Ok) (Some 2) ∷ Ended A (2 ∷ [])
          ∷ Told A (2 ∷ []) ∷ Waits 6 B (call.Rename (codes "a" ∷ []) (codes "d" ∷ codes "a" ∷ []))
          ∷ Answered 7 B (call.Write (codes "a" ∷ []) 0 (codes "q")) (answer.Reply reply.Ok) (Some 2) ∷ Ended B (2 ∷ [])
          ∷ Waits 9 A (call.Read (codes "d" ∷ codes "a" ∷ []) 0 9)
          ∷ Answered 9 A (call.Read (codes "d" ∷ codes "a" ∷ []) 0 9) (answer.Lost (2 ∷ [])) None
          ∷ Waits 10 B (call.Remove (codes "d" ∷ codes "a" ∷ [])) ∷ Told B (2 ∷ [])
          ∷ Answered 6 B (call.Rename (codes "a" ∷ []) (codes "d" ∷ codes "a" ∷ [])) (answer.Lost (2 ∷ [])) None
          ∷ Answered 10 B (call.Remove (codes "d" ∷ codes "a" ∷ [])) (answer.Reply (reply.Refused (no.NotFound 2))) None
          ∷ Answered 12 B (call.List []) (answer.Reply (reply.Names (codes "a" ∷ codes "d" ∷ []))) None
          ∷ Answered 13 B call.Sync (answer.Reply reply.Ok) None
          ∷ Answered 14 B (call.Stat (codes "a2" ∷ [])) (answer.Reply (reply.Refused (no.NotFound 1))) None
          ∷ Answered 15 B (call.Write (codes "e" ∷ codes "a" ∷ []) 6 (codes "y")) (answer.Reply (reply.Refused (no.NotFound 1))) None
          ∷ Answered 16 B (call.Forder ((codes "d" ∷ codes "a" ∷ []) ∷ [] ∷ [])) (answer.Reply (reply.Refused (no.NotFound 2))) None
          ∷ Answered 17 A (call.Create (codes "a" ∷ [])) (answer.Reply (reply.Refused no.Exists)) None ∷ Waits 18 A (call.Mkdir (codes "e" ∷ []))
          ∷ Answered 18 A (call.Mkdir (codes "e" ∷ [])) (answer.Reply reply.Ok) (Some 3) ∷ Waits 19 B (call.Chown [] 8) ∷ Durable A (3 ∷ [])
          ∷ Answered 19 B (call.Chown [] 8) (answer.Reply reply.Ok) (Some 3) ∷ Nothing ∷ Waits 21 C (call.Forder ((codes "a" ∷ []) ∷ []))
          ∷ Durable B (3 ∷ []) ∷ Answered 21 C (call.Forder ((codes "a" ∷ []) ∷ [])) (answer.Reply reply.Ok) (Some 1)
          ∷ Waits 22 B (call.Write (codes "a" ∷ []) 6 (codes "yxcxz")) ∷ Durable C (1 ∷ [])
          ∷ Answered 22 B (call.Write (codes "a" ∷ []) 6 (codes "yxcxz")) (answer.Reply reply.Ok) (Some 4) ∷ Waits 23 A (call.Forder ([] ∷ []))
          ∷ Answered 23 A (call.Forder ([] ∷ [])) (answer.Reply reply.Ok) (Some 4) ∷ Waits 24 B (call.Forder ([] ∷ [] ∷ [])) ∷ Durable A (4 ∷ [])
          ∷ Answered 24 B (call.Forder ([] ∷ [] ∷ [])) (answer.Reply reply.Ok) (Some 5) ∷ Nothing ∷ Nothing
          ∷ Answered 27 B (call.Chown [] 2) (answer.Reply reply.Ok) (Some 6) ∷ Waits 29 C (call.Rename (codes "a" ∷ []) (codes "e" ∷ codes "a" ∷ []))
          ∷ Ended C [] ∷ Answered 31 B (call.Read (codes "d" ∷ codes "a" ∷ []) 0 64) (answer.Reply (reply.Refused (no.NotFound 2))) None
          ∷ Waits 32 A (call.Write (codes "d" ∷ codes "a" ∷ []) 4 (codes "azc")) ∷ Durable B (5 ∷ 6 ∷ [])
          ∷ Answered 32 A (call.Write (codes "d" ∷ codes "a" ∷ []) 4 (codes "azc")) (answer.Reply (reply.Refused (no.NotFound 2))) None ∷ Told C []
          ∷ Durable B (4 ∷ []) ∷ Answered 29 C (call.Rename (codes "a" ∷ []) (codes "e" ∷ codes "a" ∷ [])) (answer.Reply reply.Ok) (Some 2)
          ∷ Answered 34 C (call.List []) (answer.Reply (reply.Names (codes "d" ∷ codes "e" ∷ []))) None ∷ Waits 35 C call.Sync ∷ Durable C (2 ∷ [])
          ∷ Answered 35 C call.Sync (answer.Reply reply.Ok) None
          ∷ Answered 36 C (call.Read (codes "a" ∷ []) 0 9) (answer.Reply (reply.Refused (no.NotFound 1))) None
          ∷ Waits 37 B (call.Write (codes "a" ∷ []) 2 (codes "c"))
          ∷ Answered 37 B (call.Write (codes "a" ∷ []) 2 (codes "c")) (answer.Reply (reply.Refused (no.NotFound 1))) None
          ∷ Waits 38 B (call.Touch [] 4) ∷ Answered 38 B (call.Touch [] 4) (answer.Reply reply.Ok) (Some 7) ∷ Waits 39 B (call.List (codes "e" ∷ []))
          ∷ Answered 39 B (call.List (codes "e" ∷ [])) (answer.Reply (reply.Names (codes "a" ∷ []))) None
          ∷ Waits 40 C (call.Write (codes "e" ∷ codes "a" ∷ []) 3 (codes "y")) ∷ Durable B (7 ∷ [])
          ∷ Answered 40 C (call.Write (codes "e" ∷ codes "a" ∷ []) 3 (codes "y")) (answer.Reply reply.Ok) (Some 3) ∷ Waits 47 A (call.List [])
          ∷ Answered 47 A (call.List []) (answer.Reply (reply.Names (codes "d" ∷ codes "e" ∷ []))) None
          ∷ Answered 48 B (call.List []) (answer.Reply (reply.Names (codes "d" ∷ codes "e" ∷ []))) None
          ∷ Answered 49 C (call.List []) (answer.Reply (reply.Names (codes "d" ∷ codes "e" ∷ []))) None
          ∷ Answered 50 C (call.Read (codes "a" ∷ []) 0 64) (answer.Reply (reply.Refused (no.NotFound 1))) None
          ∷ Answered 51 A (call.Read (codes "d" ∷ codes "a" ∷ []) 0 64) (answer.Reply (reply.Refused (no.NotFound 2))) None
          ∷ Waits 52 B (call.Read (codes "e" ∷ codes "a" ∷ []) 0 64) ∷ Durable C (3 ∷ [])
          ∷ Answered 52 B (call.Read (codes "e" ∷ codes "a" ∷ []) 0 64) (answer.Reply (reply.Data (0 ∷ 0 ∷ 0 ∷ 121 ∷ 0 ∷ 0 ∷ 121 ∷ 120 ∷ 99 ∷ 120 ∷ 122 ∷ []))) None
          ∷ [];
      status = 0;
    }

abbrev pub stop_2 : Run
stop_2 =
    record {
      lines =
          reads (line.Call B (call.Mkdir (codes "d" ∷ []))) 9 ∷ reads (line.Call B (call.Create (codes "a" ∷ []))) 10
          ∷ reads (line.Call B (call.Write (codes "a" ∷ []) 0 (codes "abcdefgh"))) 14
          ∷ reads (line.Call C (call.Create (codes "d" ∷ codes "a" ∷ []))) 10
          ∷ reads (line.Call C (call.Write (codes "d" ∷ codes "a" ∷ []) 0 (codes "abcdefgh"))) 16
          ∷ reads (line.Call B (call.Create (codes "e" ∷ codes "a" ∷ []))) 10
          ∷ reads (line.Call B (call.Write (codes "e" ∷ codes "a" ∷ []) 0 (codes "abcdefgh"))) 16 ∷ reads (line.Call A call.Sync) 3
          ∷ reads (line.Call B call.Sync) 3 ∷ reads (line.Call C call.Sync) 3 ∷ reads (line.Call A (call.Write (codes "a" ∷ []) 5 (codes "bz"))) 14
          ∷ reads (line.Call A (call.Write (codes "a" ∷ []) 4 (codes "a"))) 14 ∷ reads (line.Push A 1) 8
          ∷ reads (line.Call A (call.Rename (codes "a" ∷ []) (codes "d" ∷ codes "a" ∷ []))) 13
          ∷ reads (line.Call B (call.Rename (codes "d" ∷ []) (codes "d" ∷ []))) 13 ∷ reads (line.Call A (call.Stat (codes "d" ∷ []))) 8
          ∷ reads (line.Call A (call.Write (codes "d" ∷ codes "a" ∷ []) 2 (codes "x"))) 16
          ∷ reads (line.Call A (call.Write (codes "d" ∷ codes "a" ∷ []) 0 (codes "z"))) 16 ∷ reads (line.Push A 4) 8 ∷ reads (line.Cut A) 5
          ∷ reads (line.Push A 5) 8 ∷ reads (line.Deliver A msg.Flush 4) 17 ∷ reads (line.Drop A msg.Kept 4) 13
          ∷ reads (line.Call A (call.Write (codes "d" ∷ codes "a" ∷ []) 0 (codes "q"))) 16 ∷ reads (line.Crash A) 7
          ∷ reads (line.Call B (call.Write (codes "d" ∷ codes "a" ∷ []) 3 (codes "bcaxc"))) 16
          ∷ reads (line.Call A (call.Write (codes "d" ∷ codes "a" ∷ []) 2 (codes "b"))) 16
          ∷ reads (line.Call A (call.Write (codes "d" ∷ codes "a" ∷ []) 5 (codes "y"))) 16
          ∷ reads (line.Call A (call.Write (codes "d" ∷ codes "a" ∷ []) 3 (codes "xx"))) 16 ∷ reads (line.Uncut A) 7
          ∷ reads (line.Call A (call.Read (codes "d" ∷ codes "a" ∷ []) 0 9)) 15 ∷ reads (line.Call A call.Sync) 3
          ∷ reads (line.Call A (call.Stat (codes "d" ∷ codes "a2" ∷ []))) 8 ∷ reads (line.Call B (call.Read (codes "d" ∷ codes "a" ∷ []) 0 64)) 15
          ∷ reads (line.Call C (call.Write (codes "d" ∷ codes "a" ∷ []) 0 (codes "za"))) 16
          ∷ reads (line.Call C (call.Write (codes "d" ∷ codes "a" ∷ []) 5 (codes "zx"))) 16
          ∷ reads (line.Call C (call.Write (codes "d" ∷ codes "a" ∷ []) 4 (codes "z"))) 16 ∷ reads (line.Push C 5) 8
          ∷ reads (line.Call C (call.SetLen (codes "d" ∷ codes "a" ∷ []) 8)) 15 ∷ reads (line.Resend C) 8 ∷ reads (line.Resend A) 8
          ∷ reads (line.Resend B) 8 ∷ reads (line.Resend C) 8 ∷ reads (line.Resend A) 8 ∷ reads (line.Resend B) 8 ∷ reads (line.Resend C) 8
          ∷ reads (line.Call A (call.List [])) 8 ∷ reads (line.Call B (call.List [])) 8 ∷ reads (line.Call C (call.List [])) 8
          ∷ reads (line.Call A (call.Read (codes "a" ∷ []) 0 64)) 13 ∷ reads (line.Call A (call.Read (codes "d" ∷ codes "a" ∷ []) 0 64)) 15
          ∷ reads (line.Call C (call.Read (codes "e" ∷ codes "a" ∷ []) 0 64)) 15 ∷ reads (line.Call A call.Sync) 3 ∷ reads (line.Call B call.Sync) 3
          ∷ reads (line.Call C call.Sync) 3 ∷ [];
      fates = [];
      max_objects = 1024;
      shown =
          Waits 1 B (call.Mkdir (codes "d" ∷ [])) ∷ Answered 1 B (call.Mkdir (codes "d" ∷ [])) (answer.Reply reply.Ok) (Some 1)
          ∷ Answered 2 B (call.Create (codes "a" ∷ [])) (answer.Reply reply.Ok) (Some 2)
          ∷ Answered 3 B (call.Write (codes "a" ∷ []) 0 (codes "abcdefgh")) (answer.Reply reply.Ok) (Some 3)
          ∷ Waits 4 C (call.Create (codes "d" ∷ codes "a" ∷ [])) ∷ Durable B (1 ∷ 2 ∷ [])
          ∷ Answered 4 C (call.Create (codes "d" ∷ codes "a" ∷ [])) (answer.Reply reply.Ok) (Some 1)
          ∷ Answered 5 C (call.Write (codes "d" ∷ codes "a" ∷ []) 0 (codes "abcdefgh")) (answer.Reply reply.Ok) (Some 2)
          ∷ Answered 6 B (call.Create (codes "e" ∷ codes "a" ∷ [])) (answer.Reply (reply.Refused (no.NotFound 1))) None
          ∷ Answered 7 B (call.Write (codes "e" ∷ codes "a" ∷ []) 0 (codes "abcdefgh")) (answer.Reply (reply.Refused (no.NotFound 1))) None
          ∷ Answered 8 A call.Sync (answer.Reply reply.Ok) None ∷ Waits 9 B call.Sync ∷ Durable B (3 ∷ [])
          ∷ Answered 9 B call.Sync (answer.Reply reply.Ok) None ∷ Waits 10 C call.Sync ∷ Durable C (1 ∷ 2 ∷ [])
          ∷ Answered 10 C call.Sync (answer.Reply reply.Ok) None ∷ Waits 11 A (call.Write (codes "a" ∷ []) 5 (codes "bz"))
          ∷ Answered 11 A (call.Write (codes "a" ∷ []) 5 (codes "bz")) (answer.Reply reply.Ok) (Some 1)
          ∷ Answered 12 A (call.Write (codes "a" ∷ []) 4 (codes "a")) (answer.Reply reply.Ok) (Some 2) ∷ Durable A (1 ∷ [])
          ∷ Waits 14 A (call.Rename (codes "a" ∷ []) (codes "d" ∷ codes "a" ∷ []))
          ∷ Answered 14 A (call.Rename (codes "a" ∷ []) (codes "d" ∷ codes "a" ∷ [])) (answer.Reply reply.Ok) (Some 3)
          ∷ Waits 15 B (call.Rename (codes "d" ∷ []) (codes "d" ∷ [])) ∷ Durable A (2 ∷ 3 ∷ [])
          ∷ Answered 15 B (call.Rename (codes "d" ∷ []) (codes "d" ∷ [])) (answer.Reply reply.Ok) None
          ∷ Answered 16 A (call.Stat (codes "d" ∷ [])) (answer.Reply (reply.Stat kind.Dir 493 0 0 1)) None
          ∷ Answered 17 A (call.Write (codes "d" ∷ codes "a" ∷ []) 2 (codes "x")) (answer.Reply reply.Ok) (Some 4)
          ∷ Answered 18 A (call.Write (codes "d" ∷ codes "a" ∷ []) 0 (codes "z")) (answer.Reply reply.Ok) (Some 5) ∷ Durable A (4 ∷ [])
          ∷ Durable A (5 ∷ []) ∷ Answered 24 A (call.Write (codes "d" ∷ codes "a" ∷ []) 0 (codes "q")) (answer.Reply reply.Ok) (Some 6) ∷ Crashed A
          ∷ Waits 26 B (call.Write (codes "d" ∷ codes "a" ∷ []) 3 (codes "bcaxc"))
          ∷ Waits 27 A (call.Write (codes "d" ∷ codes "a" ∷ []) 2 (codes "b")) ∷ Waits 28 A (call.Write (codes "d" ∷ codes "a" ∷ []) 5 (codes "y"))
          ∷ Waits 29 A (call.Write (codes "d" ∷ codes "a" ∷ []) 3 (codes "xx")) ∷ Ended A (6 ∷ [])
          ∷ Answered 26 B (call.Write (codes "d" ∷ codes "a" ∷ []) 3 (codes "bcaxc")) (answer.Reply reply.Ok) (Some 4) ∷ Durable B (4 ∷ [])
          ∷ Answered 27 A (call.Write (codes "d" ∷ codes "a" ∷ []) 2 (codes "b")) (answer.Reply reply.Ok) (Some 1)
          ∷ Answered 28 A (call.Write (codes "d" ∷ codes "a" ∷ []) 5 (codes "y")) (answer.Reply reply.Ok) (Some 2)
          ∷ Answered 29 A (call.Write (codes "d" ∷ codes "a" ∷ []) 3 (codes "xx")) (answer.Reply reply.Ok) (Some 3)
          ∷ Answered 31 A (call.Read (codes "d" ∷ codes "a" ∷ []) 0 9) (answer.Reply (reply.Data (codes "zbbxxyxc"))) None ∷ Waits 32 A call.Sync
          ∷ Durable A (1 ∷ 2 ∷ 3 ∷ []) ∷ Answered 32 A call.Sync (answer.Reply reply.Ok) None
          ∷ Answered 33 A (call.Stat (codes "d" ∷ codes "a2" ∷ [])) (answer.Reply (reply.Refused (no.NotFound 2))) None
          ∷ Waits 34 B (call.Read (codes "d" ∷ codes "a" ∷ []) 0 64)
          ∷ Answered 34 B (call.Read (codes "d" ∷ codes "a" ∷ []) 0 64) (answer.Reply (reply.Data (codes "zbbxxyxc"))) None
          ∷ Waits 35 C (call.Write (codes "d" ∷ codes "a" ∷ []) 0 (codes "za"))
          ∷ Answered 35 C (call.Write (codes "d" ∷ codes "a" ∷ []) 0 (codes "za")) (answer.Reply reply.Ok) (Some 3)
          ∷ Answered 36 C (call.Write (codes "d" ∷ codes "a" ∷ []) 5 (codes "zx")) (answer.Reply reply.Ok) (Some 4)
          ∷ Answered 37 C (call.Write (codes "d" ∷ codes "a" ∷ []) 4 (codes "z")) (answer.Reply reply.Ok) (Some 5) ∷ Durable C (5 ∷ [])
          ∷ Answered 39 C (call.SetLen (codes "d" ∷ codes "a" ∷ []) 8) (answer.Reply reply.Ok) (Some 6)
          ∷ Answered 47 A (call.List []) (answer.Reply (reply.Names (codes "d" ∷ []))) None
          ∷ Answered 48 B (call.List []) (answer.Reply (reply.Names (codes "d" ∷ []))) None
          ∷ Answered 49 C (call.List []) (answer.Reply (reply.Names (codes "d" ∷ []))) None
          ∷ Answered 50 A (call.Read (codes "a" ∷ []) 0 64) (answer.Reply (reply.Refused (no.NotFound 1))) None
          ∷ Waits 51 A (call.Read (codes "d" ∷ codes "a" ∷ []) 0 64) ∷ Durable C (3 ∷ 4 ∷ 6 ∷ [])
          ∷ Answered 51 A (call.Read (codes "d" ∷ codes "a" ∷ []) 0 64) (answer.Reply (reply.Data (codes "zabxzzxc"))) None
          ∷ Answered 52 C (call.Read (codes "e" ∷ codes "a" ∷ []) 0 64) (answer.Reply (reply.Refused (no.NotFound 1))) None
          ∷ Answered 53 A call.Sync (answer.Reply reply.Ok) None ∷ Answered 54 B call.Sync (answer.Reply reply.Ok) None
          ∷ Answered 55 C call.Sync (answer.Reply reply.Ok) None ∷ [];
      status = 0;
    }

abbrev pub stop_3 : Run
stop_3 =
    record {
      lines =
          reads (line.Call B (call.Chown (codes "d" ∷ codes "b" ∷ []) 0)) 14
          ∷ reads (line.Call A (call.Write (codes "d" ∷ codes "a" ∷ []) 4 (codes "cbz"))) 16 ∷ reads (line.Call C (call.Create (codes "b" ∷ []))) 10
          ∷ reads (line.Arm 3 choice.Torn) 7 ∷ reads (line.Call B (call.List (codes "e" ∷ []))) 8
          ∷ reads (line.Call A (call.Create (codes "a" ∷ []))) 10 ∷ reads line.Restart 1 ∷ reads (line.Call A (call.Read (codes "b" ∷ []) 0 2)) 13
          ∷ reads (line.Call A (call.Read (codes "b" ∷ []) 1 2)) 13 ∷ reads (line.End A) 5 ∷ reads (line.Call C (call.Mkdir (codes "e" ∷ []))) 9
          ∷ reads (line.End A) 5 ∷ reads (line.Call A (call.Stat (codes "e" ∷ []))) 8 ∷ reads line.Restart 1
          ∷ reads (line.Call A (call.Write (codes "a" ∷ []) 6 (codes "xzbxb"))) 14 ∷ reads line.Restart 1
          ∷ reads (line.Call B (call.Write (codes "b" ∷ []) 0 (codes "ayy"))) 14 ∷ reads line.Stop 1 ∷ reads line.Restart 1
          ∷ reads (line.Call A (call.List (codes "e" ∷ []))) 8 ∷ reads (line.Call A (call.Write (codes "a" ∷ []) 6 (codes "aca"))) 14
          ∷ reads (line.Call C (call.Write (codes "a" ∷ []) 3 (codes "axx"))) 14 ∷ reads (line.Call C (call.Write (codes "a" ∷ []) 1 (codes "y"))) 14
          ∷ reads (line.Call B (call.Write (codes "a" ∷ []) 0 (codes "y"))) 14 ∷ reads (line.Arm 3 choice.Old) 7 ∷ reads (line.Crash B) 7
          ∷ reads (line.Resend C) 8 ∷ reads (line.Call C (call.Write (codes "b" ∷ []) 3 (codes "b"))) 14
          ∷ reads (line.Call C (call.Fsync (codes "b" ∷ []))) 9 ∷ reads (line.Call A (call.Write (codes "b" ∷ []) 2 (codes "azz"))) 14
          ∷ reads (line.Call B (call.Create (codes "e" ∷ codes "a" ∷ []))) 10 ∷ reads (line.Call A (call.Write (codes "a" ∷ []) 0 (codes "c"))) 14
          ∷ reads (line.Call B (call.Read (codes "a" ∷ []) 0 64)) 13 ∷ reads line.Restart 1
          ∷ reads (line.Call A (call.Create (codes "d" ∷ codes "a" ∷ []))) 10 ∷ reads (line.Repeat C msg.Recall 10) 17
          ∷ reads (line.Call C (call.Write (codes "a" ∷ []) 1 (codes "yybzx"))) 14 ∷ reads (line.Push A 2) 8 ∷ reads (line.Arm 7 choice.Old) 7
          ∷ reads (line.Call B (call.Stat (codes "e" ∷ codes "a" ∷ []))) 8 ∷ reads (line.Resend A) 8 ∷ reads (line.Resend B) 8
          ∷ reads (line.Resend C) 8 ∷ reads (line.Resend A) 8 ∷ reads (line.Resend B) 8 ∷ reads (line.Resend C) 8
          ∷ reads (line.Call A (call.List [])) 8 ∷ reads (line.Call B (call.List [])) 8 ∷ reads (line.Call C (call.List [])) 8
          ∷ reads (line.Call B (call.Read (codes "a" ∷ []) 0 64)) 13 ∷ reads (line.Call B (call.Read (codes "b" ∷ []) 0 64)) 13
          ∷ reads (line.Call B (call.Read (codes "d" ∷ codes "a" ∷ []) 0 64)) 15 ∷ reads (line.Call A call.Sync) 3 ∷ reads (line.Call B call.Sync) 3
          ∷ reads (line.Call C call.Sync) 3 ∷ [];
      fates = [] ∷ [] ∷ [] ∷ [] ∷ (runs ∷ runs ∷ runs ∷ stops_with ∷ []) ∷ [] ∷ [] ∷ [] ∷ [] ∷ [] ∷ [] ∷ [] ∷ [] ∷ [] ∷ [] ∷ [] ∷ [] ∷ [] ∷ [] ∷ [] ∷ []
          ∷ [] ∷ [] ∷ [] ∷ [] ∷ [] ∷ [] ∷ [] ∷ [] ∷ [] ∷ (runs ∷ stops_without ∷ []) ∷ [] ∷ [] ∷ [] ∷ [] ∷ [] ∷ [] ∷ [] ∷ [] ∷ [] ∷ [] ∷ [] ∷ [] ∷ []
          ∷ [] ∷ [] ∷ [] ∷ [] ∷ [] ∷ [] ∷ [] ∷ [] ∷ [] ∷ (runs ∷ stops_without ∷ []) ∷ [];
      max_objects = 1024;
      shown =
          Waits 1 B (call.Chown (codes "d" ∷ codes "b" ∷ []) 0)
          ∷ Answered 1 B (call.Chown (codes "d" ∷ codes "b" ∷ []) 0) (answer.Reply (reply.Refused (no.NotFound 1))) None
          ∷ Waits 2 A (call.Write (codes "d" ∷ codes "a" ∷ []) 4 (codes "cbz"))
          ∷ Answered 2 A (call.Write (codes "d" ∷ codes "a" ∷ []) 4 (codes "cbz")) (answer.Reply (reply.Refused (no.NotFound 1))) None
          ∷ Waits 3 C (call.Create (codes "b" ∷ [])) ∷ Answered 3 C (call.Create (codes "b" ∷ [])) (answer.Reply reply.Ok) (Some 1)
          ∷ Waits 5 B (call.List (codes "e" ∷ [])) ∷ Stopped ∷ Waits 6 A (call.Create (codes "a" ∷ [])) ∷ Durable C (1 ∷ []) ∷ Started
          ∷ Answered 5 B (call.List (codes "e" ∷ [])) (answer.Reply (reply.Refused (no.NotFound 1))) None
          ∷ Answered 6 A (call.Create (codes "a" ∷ [])) (answer.Reply reply.Ok) (Some 1) ∷ Waits 8 A (call.Read (codes "b" ∷ []) 0 2)
          ∷ Answered 8 A (call.Read (codes "b" ∷ []) 0 2) (answer.Reply (reply.Data [])) None
          ∷ Answered 9 A (call.Read (codes "b" ∷ []) 1 2) (answer.Reply (reply.Data [])) None ∷ Ended A (1 ∷ []) ∷ Told A (1 ∷ [])
          ∷ Waits 11 C (call.Mkdir (codes "e" ∷ [])) ∷ Answered 11 C (call.Mkdir (codes "e" ∷ [])) (answer.Reply reply.Ok) (Some 2) ∷ Ended A []
          ∷ Told A [] ∷ Waits 13 A (call.Stat (codes "e" ∷ [])) ∷ Durable C (2 ∷ [])
          ∷ Answered 13 A (call.Stat (codes "e" ∷ [])) (answer.Lost (1 ∷ [])) None ∷ Nothing
          ∷ Answered 15 A (call.Write (codes "a" ∷ []) 6 (codes "xzbxb")) (answer.Reply (reply.Refused (no.NotFound 1))) None ∷ Nothing
          ∷ Waits 17 B (call.Write (codes "b" ∷ []) 0 (codes "ayy"))
          ∷ Answered 17 B (call.Write (codes "b" ∷ []) 0 (codes "ayy")) (answer.Reply reply.Ok) (Some 1) ∷ Stopped ∷ Started
          ∷ Answered 20 A (call.List (codes "e" ∷ [])) (answer.Reply (reply.Names [])) None
          ∷ Answered 21 A (call.Write (codes "a" ∷ []) 6 (codes "aca")) (answer.Reply (reply.Refused (no.NotFound 1))) None
          ∷ Answered 22 C (call.Write (codes "a" ∷ []) 3 (codes "axx")) (answer.Reply (reply.Refused (no.NotFound 1))) None
          ∷ Answered 23 C (call.Write (codes "a" ∷ []) 1 (codes "y")) (answer.Reply (reply.Refused (no.NotFound 1))) None
          ∷ Answered 24 B (call.Write (codes "a" ∷ []) 0 (codes "y")) (answer.Reply (reply.Refused (no.NotFound 1))) None ∷ Crashed B
          ∷ Waits 28 C (call.Write (codes "b" ∷ []) 3 (codes "b")) ∷ Waits 29 C (call.Fsync (codes "b" ∷ []))
          ∷ Waits 30 A (call.Write (codes "b" ∷ []) 2 (codes "azz")) ∷ Waits 31 B (call.Create (codes "e" ∷ codes "a" ∷ [])) ∷ Stopped
          ∷ Answered 32 A (call.Write (codes "a" ∷ []) 0 (codes "c")) (answer.Reply (reply.Refused (no.NotFound 1))) None
          ∷ Waits 33 B (call.Read (codes "a" ∷ []) 0 64) ∷ Started ∷ Ended B (1 ∷ [])
          ∷ Answered 29 C (call.Fsync (codes "b" ∷ [])) (answer.Reply reply.Ok) None
          ∷ Answered 33 B (call.Read (codes "a" ∷ []) 0 64) (answer.Reply (reply.Refused (no.NotFound 1))) None
          ∷ Answered 30 A (call.Write (codes "b" ∷ []) 2 (codes "azz")) (answer.Reply reply.Ok) (Some 2) ∷ Durable A (2 ∷ [])
          ∷ Answered 28 C (call.Write (codes "b" ∷ []) 3 (codes "b")) (answer.Reply reply.Ok) (Some 3)
          ∷ Answered 31 B (call.Create (codes "e" ∷ codes "a" ∷ [])) (answer.Reply reply.Ok) (Some 1)
          ∷ Answered 35 A (call.Create (codes "d" ∷ codes "a" ∷ [])) (answer.Reply (reply.Refused (no.NotFound 1))) None
          ∷ Answered 37 C (call.Write (codes "a" ∷ []) 1 (codes "yybzx")) (answer.Reply (reply.Refused (no.NotFound 1))) None ∷ Nothing
          ∷ Answered 40 B (call.Stat (codes "e" ∷ codes "a" ∷ [])) (answer.Reply (reply.Stat kind.File 420 0 0 0)) None
          ∷ Answered 47 A (call.List []) (answer.Reply (reply.Names (codes "b" ∷ codes "e" ∷ []))) None
          ∷ Answered 48 B (call.List []) (answer.Reply (reply.Names (codes "b" ∷ codes "e" ∷ []))) None
          ∷ Answered 49 C (call.List []) (answer.Reply (reply.Names (codes "b" ∷ codes "e" ∷ []))) None
          ∷ Answered 50 B (call.Read (codes "a" ∷ []) 0 64) (answer.Reply (reply.Refused (no.NotFound 1))) None
          ∷ Waits 51 B (call.Read (codes "b" ∷ []) 0 64) ∷ Durable C (3 ∷ [])
          ∷ Answered 51 B (call.Read (codes "b" ∷ []) 0 64) (answer.Reply (reply.Data (0 ∷ 0 ∷ 97 ∷ 98 ∷ 122 ∷ []))) None
          ∷ Answered 52 B (call.Read (codes "d" ∷ codes "a" ∷ []) 0 64) (answer.Reply (reply.Refused (no.NotFound 1))) None
          ∷ Answered 53 A call.Sync (answer.Lost (1 ∷ [])) None ∷ Waits 54 B call.Sync ∷ Stopped
          ∷ Answered 55 C call.Sync (answer.Reply reply.Ok) None ∷ Started ∷ [];
      status = 0;
    }

abbrev pub stop_4 : Run
stop_4 =
    record {
      lines =
          reads (line.Call A (call.Mkdir (codes "d" ∷ []))) 9 ∷ reads (line.Call A (call.Create (codes "a" ∷ []))) 10
          ∷ reads (line.Call A (call.Write (codes "a" ∷ []) 0 (codes "abcdefgh"))) 14 ∷ reads (line.Call A call.Sync) 3
          ∷ reads (line.Call B call.Sync) 3 ∷ reads (line.Call C call.Sync) 3 ∷ reads (line.Call C (call.Write (codes "a" ∷ []) 2 (codes "c"))) 14
          ∷ reads (line.Call C (call.Write (codes "a" ∷ []) 4 (codes "ax"))) 14 ∷ reads (line.Push C 1) 8 ∷ reads (line.End C) 5
          ∷ reads (line.Call B (call.Create (codes "d" ∷ codes "a" ∷ []))) 10 ∷ reads (line.Cut A) 5
          ∷ reads (line.Call A (call.Rename (codes "a" ∷ []) (codes "d" ∷ codes "a" ∷ []))) 13
          ∷ reads (line.Call A (call.Rename (codes "a" ∷ []) (codes "a2" ∷ []))) 13 ∷ reads (line.Crash A) 7
          ∷ reads (line.Call A (call.Write (codes "a" ∷ []) 0 (codes "cyy"))) 14 ∷ reads (line.Uncut A) 7
          ∷ reads (line.Call A (call.Read (codes "a" ∷ []) 0 9)) 13 ∷ reads (line.Call A call.Sync) 3 ∷ reads (line.Call A (call.List [])) 8
          ∷ reads (line.Repeat C msg.Ended 1) 16 ∷ reads (line.Call B (call.Stat (codes "e" ∷ []))) 8
          ∷ reads (line.Call C (call.Write (codes "d" ∷ codes "a" ∷ []) 3 (codes "z"))) 16
          ∷ reads (line.Call C (call.Write (codes "d" ∷ codes "a" ∷ []) 2 (codes "b"))) 16 ∷ reads (line.Uncut B) 7
          ∷ reads (line.Call C (call.Rename (codes "a" ∷ []) (codes "e" ∷ codes "a" ∷ []))) 13
          ∷ reads (line.Call B (call.Write (codes "a" ∷ []) 3 (codes "b"))) 14 ∷ reads line.Restart 1
          ∷ reads (line.Call B (call.Create (codes "e" ∷ codes "a" ∷ []))) 10 ∷ reads (line.End A) 5
          ∷ reads (line.Call C (call.Stat (codes "a" ∷ []))) 8 ∷ reads (line.Uncut B) 7
          ∷ reads (line.Call B (call.Touch (codes "d" ∷ codes "a" ∷ []) 2)) 14 ∷ reads (line.Call C (call.Create (codes "d" ∷ codes "a" ∷ []))) 10
          ∷ reads (line.Call A (call.Write (codes "e" ∷ codes "a" ∷ []) 0 (codes "aa"))) 16 ∷ reads (line.Uncut A) 7
          ∷ reads (line.Call A (call.Rename (codes "d" ∷ codes "a" ∷ []) (codes "e" ∷ codes "a" ∷ []))) 15 ∷ reads (line.Call C call.Sync) 3
          ∷ reads (line.Call A (call.Fsync [])) 9 ∷ reads (line.Call A (call.Read (codes "a" ∷ []) 3 2)) 13 ∷ reads (line.Resend A) 8
          ∷ reads (line.Resend B) 8 ∷ reads (line.Resend C) 8 ∷ reads (line.Resend A) 8 ∷ reads (line.Resend B) 8 ∷ reads (line.Resend C) 8
          ∷ reads (line.Call A (call.List [])) 8 ∷ reads (line.Call B (call.List [])) 8 ∷ reads (line.Call C (call.List [])) 8
          ∷ reads (line.Call B (call.Read (codes "a" ∷ []) 0 64)) 13 ∷ reads (line.Call A (call.Read (codes "d" ∷ codes "a" ∷ []) 0 64)) 15
          ∷ reads (line.Call C (call.Read (codes "e" ∷ codes "a" ∷ []) 0 64)) 15 ∷ reads (line.Call A call.Sync) 3 ∷ reads (line.Call B call.Sync) 3
          ∷ reads (line.Call C call.Sync) 3 ∷ [];
      fates = [];
      max_objects = 1024;
      shown =
          Waits 1 A (call.Mkdir (codes "d" ∷ [])) ∷ Answered 1 A (call.Mkdir (codes "d" ∷ [])) (answer.Reply reply.Ok) (Some 1)
          ∷ Answered 2 A (call.Create (codes "a" ∷ [])) (answer.Reply reply.Ok) (Some 2)
          ∷ Answered 3 A (call.Write (codes "a" ∷ []) 0 (codes "abcdefgh")) (answer.Reply reply.Ok) (Some 3) ∷ Waits 4 A call.Sync
          ∷ Durable A (1 ∷ 2 ∷ 3 ∷ []) ∷ Answered 4 A call.Sync (answer.Reply reply.Ok) None ∷ Answered 5 B call.Sync (answer.Reply reply.Ok) None
          ∷ Answered 6 C call.Sync (answer.Reply reply.Ok) None ∷ Waits 7 C (call.Write (codes "a" ∷ []) 2 (codes "c"))
          ∷ Answered 7 C (call.Write (codes "a" ∷ []) 2 (codes "c")) (answer.Reply reply.Ok) (Some 1)
          ∷ Answered 8 C (call.Write (codes "a" ∷ []) 4 (codes "ax")) (answer.Reply reply.Ok) (Some 2) ∷ Durable C (1 ∷ []) ∷ Ended C (2 ∷ [])
          ∷ Told C (2 ∷ []) ∷ Waits 11 B (call.Create (codes "d" ∷ codes "a" ∷ []))
          ∷ Answered 11 B (call.Create (codes "d" ∷ codes "a" ∷ [])) (answer.Reply reply.Ok) (Some 1)
          ∷ Waits 13 A (call.Rename (codes "a" ∷ []) (codes "d" ∷ codes "a" ∷ [])) ∷ Waits 14 A (call.Rename (codes "a" ∷ []) (codes "a2" ∷ []))
          ∷ Crashed A ∷ Waits 16 A (call.Write (codes "a" ∷ []) 0 (codes "cyy")) ∷ Ended A []
          ∷ Answered 16 A (call.Write (codes "a" ∷ []) 0 (codes "cyy")) (answer.Reply reply.Ok) (Some 1)
          ∷ Answered 18 A (call.Read (codes "a" ∷ []) 0 9) (answer.Reply (reply.Data (codes "cyydefgh"))) None ∷ Waits 19 A call.Sync
          ∷ Durable A (1 ∷ []) ∷ Answered 19 A call.Sync (answer.Reply reply.Ok) None
          ∷ Answered 20 A (call.List []) (answer.Reply (reply.Names (codes "a" ∷ codes "d" ∷ []))) None
          ∷ Answered 22 B (call.Stat (codes "e" ∷ [])) (answer.Reply (reply.Refused (no.NotFound 1))) None
          ∷ Waits 23 C (call.Write (codes "d" ∷ codes "a" ∷ []) 3 (codes "z")) ∷ Durable B (1 ∷ [])
          ∷ Answered 23 C (call.Write (codes "d" ∷ codes "a" ∷ []) 3 (codes "z")) (answer.Reply reply.Ok) (Some 3)
          ∷ Answered 24 C (call.Write (codes "d" ∷ codes "a" ∷ []) 2 (codes "b")) (answer.Reply reply.Ok) (Some 4) ∷ Nothing
          ∷ Waits 26 C (call.Rename (codes "a" ∷ []) (codes "e" ∷ codes "a" ∷ []))
          ∷ Answered 26 C (call.Rename (codes "a" ∷ []) (codes "e" ∷ codes "a" ∷ [])) (answer.Lost (2 ∷ [])) None
          ∷ Waits 27 B (call.Write (codes "a" ∷ []) 3 (codes "b"))
          ∷ Answered 27 B (call.Write (codes "a" ∷ []) 3 (codes "b")) (answer.Reply reply.Ok) (Some 2) ∷ Nothing
          ∷ Answered 29 B (call.Create (codes "e" ∷ codes "a" ∷ [])) (answer.Reply (reply.Refused (no.NotFound 1))) None ∷ Ended A [] ∷ Told A []
          ∷ Waits 31 C (call.Stat (codes "a" ∷ [])) ∷ Durable B (2 ∷ [])
          ∷ Answered 31 C (call.Stat (codes "a" ∷ [])) (answer.Reply (reply.Stat kind.File 420 0 0 8)) None ∷ Nothing
          ∷ Waits 33 B (call.Touch (codes "d" ∷ codes "a" ∷ []) 2) ∷ Durable C (3 ∷ 4 ∷ [])
          ∷ Answered 33 B (call.Touch (codes "d" ∷ codes "a" ∷ []) 2) (answer.Reply reply.Ok) (Some 3)
          ∷ Answered 34 C (call.Create (codes "d" ∷ codes "a" ∷ [])) (answer.Reply (reply.Refused no.Exists)) None
          ∷ Waits 35 A (call.Write (codes "e" ∷ codes "a" ∷ []) 0 (codes "aa"))
          ∷ Answered 35 A (call.Write (codes "e" ∷ codes "a" ∷ []) 0 (codes "aa")) (answer.Reply (reply.Refused (no.NotFound 1))) None ∷ Nothing
          ∷ Waits 37 A (call.Rename (codes "d" ∷ codes "a" ∷ []) (codes "e" ∷ codes "a" ∷ [])) ∷ Durable B (3 ∷ [])
          ∷ Answered 37 A (call.Rename (codes "d" ∷ codes "a" ∷ []) (codes "e" ∷ codes "a" ∷ [])) (answer.Reply (reply.Refused (no.NotFound 1))) None
          ∷ Answered 38 C call.Sync (answer.Reply reply.Ok) None ∷ Answered 39 A (call.Fsync []) (answer.Reply reply.Ok) None
          ∷ Waits 40 A (call.Read (codes "a" ∷ []) 3 2) ∷ Answered 40 A (call.Read (codes "a" ∷ []) 3 2) (answer.Reply (reply.Data (codes "be"))) None
          ∷ Answered 47 A (call.List []) (answer.Reply (reply.Names (codes "a" ∷ codes "d" ∷ []))) None
          ∷ Answered 48 B (call.List []) (answer.Reply (reply.Names (codes "a" ∷ codes "d" ∷ []))) None
          ∷ Answered 49 C (call.List []) (answer.Reply (reply.Names (codes "a" ∷ codes "d" ∷ []))) None
          ∷ Answered 50 B (call.Read (codes "a" ∷ []) 0 64) (answer.Reply (reply.Data (codes "cyybefgh"))) None
          ∷ Answered 51 A (call.Read (codes "d" ∷ codes "a" ∷ []) 0 64) (answer.Reply (reply.Data (0 ∷ 0 ∷ 98 ∷ 122 ∷ []))) None
          ∷ Answered 52 C (call.Read (codes "e" ∷ codes "a" ∷ []) 0 64) (answer.Reply (reply.Refused (no.NotFound 1))) None
          ∷ Answered 53 A call.Sync (answer.Reply reply.Ok) None ∷ Answered 54 B call.Sync (answer.Reply reply.Ok) None
          ∷ Answered 55 C call.Sync (answer.Reply reply.Ok) None ∷ [];
      status = 0;
    }

abbrev pub stop_5 : Run
stop_5 =
    record {
      lines =
          reads (line.Call C (call.Mkdir (codes "d" ∷ []))) 9 ∷ reads (line.Call C (call.Create (codes "a" ∷ []))) 10
          ∷ reads (line.Call C (call.Write (codes "a" ∷ []) 0 (codes "abcdefgh"))) 14
          ∷ reads (line.Call C (call.Write (codes "a" ∷ []) 4 (codes "xx"))) 14
          ∷ reads (line.Call A (call.Rename (codes "a" ∷ []) (codes "d" ∷ codes "a" ∷ []))) 13
          ∷ reads (line.Call A (call.Write (codes "d" ∷ codes "a" ∷ []) 1 (codes "y"))) 16
          ∷ reads (line.Call A (call.Write (codes "d" ∷ codes "a" ∷ []) 5 (codes "a"))) 16
          ∷ reads (line.Call A (call.Write (codes "d" ∷ codes "a" ∷ []) 1 (codes "ay"))) 16 ∷ reads (line.Push A 4) 8 ∷ reads (line.Crash C) 7
          ∷ reads (line.Call B (call.Write (codes "d" ∷ codes "a" ∷ []) 4 (codes "xxcyx"))) 16 ∷ reads (line.Call A (call.Create (codes "a" ∷ []))) 10
          ∷ reads (line.Call C (call.Create (codes "a" ∷ []))) 10 ∷ reads (line.Uncut C) 7 ∷ reads (line.Cut A) 5 ∷ reads (line.End A) 5
          ∷ reads (line.Call A (call.Touch (codes "a" ∷ []) 1)) 12 ∷ reads (line.Call B (call.Touch (codes "d" ∷ []) 5)) 12 ∷ reads (line.Uncut A) 7
          ∷ reads (line.Call A (call.Read (codes "d" ∷ codes "a" ∷ []) 0 9)) 15 ∷ reads (line.Call A (call.List [])) 8
          ∷ reads (line.Call A (call.Read (codes "a" ∷ []) 0 9)) 13 ∷ reads (line.Call B (call.Create (codes "e" ∷ codes "a" ∷ []))) 10
          ∷ reads (line.Call A (call.Write (codes "d" ∷ codes "a" ∷ []) 5 (codes "xb"))) 16
          ∷ reads (line.Call A (call.Write (codes "d" ∷ codes "a" ∷ []) 3 (codes "c"))) 16 ∷ reads (line.Push A 8) 8
          ∷ reads (line.Call C (call.Read (codes "a" ∷ []) 0 64)) 13 ∷ reads (line.Call B (call.Mkdir (codes "d" ∷ []))) 9
          ∷ reads (line.Call B (call.Rename (codes "d" ∷ []) (codes "e" ∷ []))) 13
          ∷ reads (line.Call B (call.Write (codes "a" ∷ []) 2 (codes "bz"))) 14 ∷ reads (line.Call B (call.Write (codes "a" ∷ []) 0 (codes "xy"))) 14
          ∷ reads (line.Push B 5) 8 ∷ reads (line.Call B (call.Create (codes "e" ∷ codes "a" ∷ []))) 10
          ∷ reads (line.Call C (call.Read (codes "e" ∷ codes "a" ∷ []) 0 0)) 15 ∷ reads (line.Call C (call.Create (codes "d" ∷ codes "a" ∷ []))) 10
          ∷ reads (line.Call A (call.Read (codes "a" ∷ []) 0 9)) 13 ∷ reads (line.Call B (call.List [])) 8
          ∷ reads (line.Call A (call.Stat (codes "a" ∷ []))) 8 ∷ reads (line.Call A (call.Create (codes "a" ∷ []))) 10
          ∷ reads (line.Repeat A msg.Kept 5) 15 ∷ reads (line.Resend A) 8 ∷ reads (line.Resend B) 8 ∷ reads (line.Resend C) 8
          ∷ reads (line.Resend A) 8 ∷ reads (line.Resend B) 8 ∷ reads (line.Resend C) 8 ∷ reads (line.Call A (call.List [])) 8
          ∷ reads (line.Call B (call.List [])) 8 ∷ reads (line.Call C (call.List [])) 8 ∷ reads (line.Call A (call.Read (codes "a" ∷ []) 0 64)) 13
          ∷ reads (line.Call C (call.Read (codes "d" ∷ codes "a" ∷ []) 0 64)) 15
          ∷ reads (line.Call A (call.Read (codes "e" ∷ codes "a" ∷ []) 0 64)) 15 ∷ [];
      fates = [];
      max_objects = 1024;
      shown =
          Waits 1 C (call.Mkdir (codes "d" ∷ [])) ∷ Answered 1 C (call.Mkdir (codes "d" ∷ [])) (answer.Reply reply.Ok) (Some 1)
          ∷ Answered 2 C (call.Create (codes "a" ∷ [])) (answer.Reply reply.Ok) (Some 2)
          ∷ Answered 3 C (call.Write (codes "a" ∷ []) 0 (codes "abcdefgh")) (answer.Reply reply.Ok) (Some 3)
          ∷ Answered 4 C (call.Write (codes "a" ∷ []) 4 (codes "xx")) (answer.Reply reply.Ok) (Some 4)
          ∷ Waits 5 A (call.Rename (codes "a" ∷ []) (codes "d" ∷ codes "a" ∷ [])) ∷ Durable C (1 ∷ 2 ∷ []) ∷ Durable C (3 ∷ 4 ∷ [])
          ∷ Answered 5 A (call.Rename (codes "a" ∷ []) (codes "d" ∷ codes "a" ∷ [])) (answer.Reply reply.Ok) (Some 1)
          ∷ Answered 6 A (call.Write (codes "d" ∷ codes "a" ∷ []) 1 (codes "y")) (answer.Reply reply.Ok) (Some 2)
          ∷ Answered 7 A (call.Write (codes "d" ∷ codes "a" ∷ []) 5 (codes "a")) (answer.Reply reply.Ok) (Some 3)
          ∷ Answered 8 A (call.Write (codes "d" ∷ codes "a" ∷ []) 1 (codes "ay")) (answer.Reply reply.Ok) (Some 4) ∷ Durable A (1 ∷ 2 ∷ 4 ∷ [])
          ∷ Crashed C ∷ Waits 11 B (call.Write (codes "d" ∷ codes "a" ∷ []) 4 (codes "xxcyx")) ∷ Durable A (3 ∷ [])
          ∷ Answered 11 B (call.Write (codes "d" ∷ codes "a" ∷ []) 4 (codes "xxcyx")) (answer.Reply reply.Ok) (Some 1)
          ∷ Waits 12 A (call.Create (codes "a" ∷ [])) ∷ Answered 12 A (call.Create (codes "a" ∷ [])) (answer.Reply reply.Ok) (Some 5)
          ∷ Waits 13 C (call.Create (codes "a" ∷ [])) ∷ Ended C [] ∷ Durable A (5 ∷ [])
          ∷ Answered 13 C (call.Create (codes "a" ∷ [])) (answer.Reply (reply.Refused no.Exists)) None ∷ Nothing ∷ Ended A []
          ∷ Answered 17 A (call.Touch (codes "a" ∷ []) 1) (answer.Reply reply.Ok) (Some 6) ∷ Waits 18 B (call.Touch (codes "d" ∷ []) 5)
          ∷ Answered 18 B (call.Touch (codes "d" ∷ []) 5) (answer.Reply reply.Ok) (Some 2) ∷ Told A (6 ∷ [])
          ∷ Waits 20 A (call.Read (codes "d" ∷ codes "a" ∷ []) 0 9) ∷ Durable B (2 ∷ []) ∷ Durable B (1 ∷ [])
          ∷ Answered 20 A (call.Read (codes "d" ∷ codes "a" ∷ []) 0 9) (answer.Reply (reply.Data (codes "aaydxxcyx"))) None
          ∷ Answered 21 A (call.List []) (answer.Reply (reply.Names (codes "a" ∷ codes "d" ∷ []))) None ∷ Waits 22 A (call.Read (codes "a" ∷ []) 0 9)
          ∷ Answered 22 A (call.Read (codes "a" ∷ []) 0 9) (answer.Lost (6 ∷ [])) None
          ∷ Answered 23 B (call.Create (codes "e" ∷ codes "a" ∷ [])) (answer.Reply (reply.Refused (no.NotFound 1))) None
          ∷ Waits 24 A (call.Write (codes "d" ∷ codes "a" ∷ []) 5 (codes "xb"))
          ∷ Answered 24 A (call.Write (codes "d" ∷ codes "a" ∷ []) 5 (codes "xb")) (answer.Reply reply.Ok) (Some 7)
          ∷ Answered 25 A (call.Write (codes "d" ∷ codes "a" ∷ []) 3 (codes "c")) (answer.Reply reply.Ok) (Some 8) ∷ Durable A (8 ∷ [])
          ∷ Waits 27 C (call.Read (codes "a" ∷ []) 0 64) ∷ Answered 27 C (call.Read (codes "a" ∷ []) 0 64) (answer.Reply (reply.Data [])) None
          ∷ Answered 28 B (call.Mkdir (codes "d" ∷ [])) (answer.Reply (reply.Refused no.Exists)) None
          ∷ Waits 29 B (call.Rename (codes "d" ∷ []) (codes "e" ∷ []))
          ∷ Answered 29 B (call.Rename (codes "d" ∷ []) (codes "e" ∷ [])) (answer.Reply reply.Ok) (Some 3)
          ∷ Waits 30 B (call.Write (codes "a" ∷ []) 2 (codes "bz"))
          ∷ Answered 30 B (call.Write (codes "a" ∷ []) 2 (codes "bz")) (answer.Reply reply.Ok) (Some 4)
          ∷ Answered 31 B (call.Write (codes "a" ∷ []) 0 (codes "xy")) (answer.Reply reply.Ok) (Some 5) ∷ Durable B (4 ∷ 5 ∷ [])
          ∷ Answered 33 B (call.Create (codes "e" ∷ codes "a" ∷ [])) (answer.Reply (reply.Refused no.Exists)) None
          ∷ Waits 34 C (call.Read (codes "e" ∷ codes "a" ∷ []) 0 0) ∷ Durable B (3 ∷ []) ∷ Durable A (7 ∷ [])
          ∷ Answered 34 C (call.Read (codes "e" ∷ codes "a" ∷ []) 0 0) (answer.Reply (reply.Data [])) None
          ∷ Answered 35 C (call.Create (codes "d" ∷ codes "a" ∷ [])) (answer.Reply (reply.Refused (no.NotFound 1))) None
          ∷ Waits 36 A (call.Read (codes "a" ∷ []) 0 9)
          ∷ Answered 36 A (call.Read (codes "a" ∷ []) 0 9) (answer.Reply (reply.Data (codes "xybz"))) None
          ∷ Answered 37 B (call.List []) (answer.Reply (reply.Names (codes "a" ∷ codes "e" ∷ []))) None
          ∷ Answered 38 A (call.Stat (codes "a" ∷ [])) (answer.Reply (reply.Stat kind.File 420 0 0 4)) None
          ∷ Answered 39 A (call.Create (codes "a" ∷ [])) (answer.Reply (reply.Refused no.Exists)) None
          ∷ Answered 47 A (call.List []) (answer.Reply (reply.Names (codes "a" ∷ codes "e" ∷ []))) None
          ∷ Answered 48 B (call.List []) (answer.Reply (reply.Names (codes "a" ∷ codes "e" ∷ []))) None
          ∷ Answered 49 C (call.List []) (answer.Reply (reply.Names (codes "a" ∷ codes "e" ∷ []))) None
          ∷ Answered 50 A (call.Read (codes "a" ∷ []) 0 64) (answer.Reply (reply.Data (codes "xybz"))) None
          ∷ Answered 51 C (call.Read (codes "d" ∷ codes "a" ∷ []) 0 64) (answer.Reply (reply.Refused (no.NotFound 1))) None
          ∷ Waits 52 A (call.Read (codes "e" ∷ codes "a" ∷ []) 0 64)
          ∷ Answered 52 A (call.Read (codes "e" ∷ codes "a" ∷ []) 0 64) (answer.Reply (reply.Data (codes "aaycxxbyx"))) None ∷ [];
      status = 0;
    }

abbrev pub stop_6 : Run
stop_6 =
    record {
      lines =
          reads (line.Call D (call.Mkdir (codes "d" ∷ []))) 9 ∷ reads (line.Call C (call.Create (codes "a" ∷ []))) 10
          ∷ reads (line.Call A (call.Fsync (codes "d" ∷ []))) 9 ∷ reads (line.Call B (call.Write (codes "d" ∷ codes "a" ∷ []) 1 (codes "a"))) 16
          ∷ reads (line.Call B (call.Read (codes "a" ∷ []) 1 0)) 13 ∷ reads (line.Call C (call.Rename (codes "a" ∷ []) (codes "a" ∷ []))) 13
          ∷ reads (line.Call C (call.Write (codes "a" ∷ []) 0 (codes "c"))) 14 ∷ reads (line.Call D (call.Write (codes "a" ∷ []) 2 (codes "c"))) 14
          ∷ reads (line.Call C (call.Mkdir (codes "d" ∷ codes "e" ∷ []))) 9 ∷ reads (line.Call D (call.Mkdir (codes "d" ∷ codes "k" ∷ []))) 9
          ∷ reads (line.Call D (call.Forder ((codes "d" ∷ []) ∷ (codes "d" ∷ codes "e" ∷ []) ∷ []))) 13
          ∷ reads (line.Call A (call.Remove (codes "a" ∷ []))) 10 ∷ reads (line.Call B (call.Fsync (codes "d" ∷ codes "e" ∷ codes "a" ∷ []))) 9
          ∷ reads (line.Call D (call.Touch (codes "a" ∷ []) 4)) 12 ∷ reads (line.Call A (call.Write (codes "a" ∷ []) 0 (codes "yzbcy"))) 14
          ∷ reads (line.Call A (call.Remove (codes "e" ∷ codes "a" ∷ []))) 10 ∷ reads (line.Call C (call.Read (codes "e" ∷ codes "a" ∷ []) 0 64)) 15
          ∷ reads (line.Call D (call.Chown (codes "d" ∷ codes "a" ∷ []) 2)) 14
          ∷ reads (line.Call D (call.Write (codes "d" ∷ codes "b" ∷ []) 3 (codes "b"))) 16
          ∷ reads (line.Call A (call.Write (codes "d" ∷ codes "a" ∷ []) 1 (codes "zxc"))) 16
          ∷ reads (line.Call B (call.Write (codes "e" ∷ codes "a" ∷ []) 1 (codes "bxa"))) 16 ∷ reads (line.Deliver A msg.Back 2) 16
          ∷ reads (line.Call C (call.Write (codes "e" ∷ codes "a" ∷ []) 0 (codes "c"))) 16 ∷ reads (line.Call A (call.List (codes "d" ∷ []))) 8
          ∷ reads (line.Call C (call.Write (codes "d" ∷ codes "b" ∷ []) 0 (codes "cb"))) 16 ∷ reads (line.Call A (call.Chown [] 2)) 11
          ∷ reads (line.Call C (call.Mkdir (codes "e" ∷ []))) 9 ∷ reads (line.Call B (call.Write (codes "d" ∷ codes "a" ∷ []) 4 (codes "z"))) 16
          ∷ reads (line.Call B (call.Rename (codes "e" ∷ []) (codes "d" ∷ []))) 13 ∷ reads line.Restart 1 ∷ reads (line.Call B (call.Chmod [] 493)) 11
          ∷ reads (line.Call B (call.Create (codes "b" ∷ []))) 10 ∷ reads (line.Call B (call.Create (codes "d" ∷ codes "a" ∷ []))) 10
          ∷ reads (line.Call C (call.Read (codes "d" ∷ codes "a" ∷ []) 0 9)) 15 ∷ reads (line.Call B (call.Fsync (codes "e" ∷ []))) 9
          ∷ reads (line.Call D (call.Mkdir (codes "d" ∷ []))) 9 ∷ reads (line.Call C (call.Rmdir (codes "d" ∷ codes "e" ∷ []))) 9
          ∷ reads line.Restart 1 ∷ reads line.Restart 1 ∷ reads (line.Resend D) 8 ∷ reads (line.Resend A) 8 ∷ reads (line.Resend B) 8
          ∷ reads (line.Resend C) 8 ∷ reads (line.Resend D) 8 ∷ reads (line.Resend A) 8 ∷ reads (line.Resend B) 8 ∷ reads (line.Resend C) 8
          ∷ reads (line.Resend D) 8 ∷ reads (line.Call A (call.List [])) 8 ∷ reads (line.Call B (call.List [])) 8
          ∷ reads (line.Call C (call.List [])) 8 ∷ reads (line.Call D (call.List [])) 8 ∷ reads (line.Call A (call.Read (codes "a" ∷ []) 0 64)) 13
          ∷ reads (line.Call B (call.Read (codes "b" ∷ []) 0 64)) 13 ∷ reads (line.Call D (call.Read (codes "d" ∷ codes "a" ∷ []) 0 64)) 15 ∷ [];
      fates = [];
      max_objects = 1024;
      shown =
          Waits 1 D (call.Mkdir (codes "d" ∷ [])) ∷ Answered 1 D (call.Mkdir (codes "d" ∷ [])) (answer.Reply reply.Ok) (Some 1)
          ∷ Waits 2 C (call.Create (codes "a" ∷ [])) ∷ Durable D (1 ∷ [])
          ∷ Answered 2 C (call.Create (codes "a" ∷ [])) (answer.Reply reply.Ok) (Some 1) ∷ Waits 3 A (call.Fsync (codes "d" ∷ []))
          ∷ Durable C (1 ∷ []) ∷ Answered 3 A (call.Fsync (codes "d" ∷ [])) (answer.Reply reply.Ok) None
          ∷ Waits 4 B (call.Write (codes "d" ∷ codes "a" ∷ []) 1 (codes "a"))
          ∷ Answered 4 B (call.Write (codes "d" ∷ codes "a" ∷ []) 1 (codes "a")) (answer.Reply (reply.Refused (no.NotFound 2))) None
          ∷ Waits 5 B (call.Read (codes "a" ∷ []) 1 0) ∷ Answered 5 B (call.Read (codes "a" ∷ []) 1 0) (answer.Reply (reply.Data [])) None
          ∷ Answered 6 C (call.Rename (codes "a" ∷ []) (codes "a" ∷ [])) (answer.Reply reply.Ok) None
          ∷ Waits 7 C (call.Write (codes "a" ∷ []) 0 (codes "c"))
          ∷ Answered 7 C (call.Write (codes "a" ∷ []) 0 (codes "c")) (answer.Reply reply.Ok) (Some 2)
          ∷ Waits 8 D (call.Write (codes "a" ∷ []) 2 (codes "c")) ∷ Durable C (2 ∷ [])
          ∷ Answered 8 D (call.Write (codes "a" ∷ []) 2 (codes "c")) (answer.Reply reply.Ok) (Some 2)
          ∷ Waits 9 C (call.Mkdir (codes "d" ∷ codes "e" ∷ []))
          ∷ Answered 9 C (call.Mkdir (codes "d" ∷ codes "e" ∷ [])) (answer.Reply reply.Ok) (Some 3)
          ∷ Waits 10 D (call.Mkdir (codes "d" ∷ codes "k" ∷ [])) ∷ Durable C (3 ∷ [])
          ∷ Answered 10 D (call.Mkdir (codes "d" ∷ codes "k" ∷ [])) (answer.Reply reply.Ok) (Some 3)
          ∷ Waits 11 D (call.Forder ((codes "d" ∷ []) ∷ (codes "d" ∷ codes "e" ∷ []) ∷ []))
          ∷ Answered 11 D (call.Forder ((codes "d" ∷ []) ∷ (codes "d" ∷ codes "e" ∷ []) ∷ [])) (answer.Reply reply.Ok) (Some 4)
          ∷ Waits 12 A (call.Remove (codes "a" ∷ [])) ∷ Durable D (2 ∷ [])
          ∷ Answered 12 A (call.Remove (codes "a" ∷ [])) (answer.Reply reply.Ok) (Some 1)
          ∷ Waits 13 B (call.Fsync (codes "d" ∷ codes "e" ∷ codes "a" ∷ [])) ∷ Durable A (1 ∷ []) ∷ Durable D (3 ∷ 4 ∷ [])
          ∷ Answered 13 B (call.Fsync (codes "d" ∷ codes "e" ∷ codes "a" ∷ [])) (answer.Reply (reply.Refused (no.NotFound 3))) None
          ∷ Waits 14 D (call.Touch (codes "a" ∷ []) 4)
          ∷ Answered 14 D (call.Touch (codes "a" ∷ []) 4) (answer.Reply (reply.Refused (no.NotFound 1))) None
          ∷ Answered 15 A (call.Write (codes "a" ∷ []) 0 (codes "yzbcy")) (answer.Reply (reply.Refused (no.NotFound 1))) None
          ∷ Answered 16 A (call.Remove (codes "e" ∷ codes "a" ∷ [])) (answer.Reply (reply.Refused (no.NotFound 1))) None
          ∷ Waits 17 C (call.Read (codes "e" ∷ codes "a" ∷ []) 0 64)
          ∷ Answered 17 C (call.Read (codes "e" ∷ codes "a" ∷ []) 0 64) (answer.Reply (reply.Refused (no.NotFound 1))) None
          ∷ Answered 18 D (call.Chown (codes "d" ∷ codes "a" ∷ []) 2) (answer.Reply (reply.Refused (no.NotFound 2))) None
          ∷ Answered 19 D (call.Write (codes "d" ∷ codes "b" ∷ []) 3 (codes "b")) (answer.Reply (reply.Refused (no.NotFound 2))) None
          ∷ Waits 20 A (call.Write (codes "d" ∷ codes "a" ∷ []) 1 (codes "zxc"))
          ∷ Answered 20 A (call.Write (codes "d" ∷ codes "a" ∷ []) 1 (codes "zxc")) (answer.Reply (reply.Refused (no.NotFound 2))) None
          ∷ Answered 21 B (call.Write (codes "e" ∷ codes "a" ∷ []) 1 (codes "bxa")) (answer.Reply (reply.Refused (no.NotFound 1))) None
          ∷ Answered 23 C (call.Write (codes "e" ∷ codes "a" ∷ []) 0 (codes "c")) (answer.Reply (reply.Refused (no.NotFound 1))) None
          ∷ Answered 24 A (call.List (codes "d" ∷ [])) (answer.Reply (reply.Names (codes "e" ∷ codes "k" ∷ []))) None
          ∷ Waits 25 C (call.Write (codes "d" ∷ codes "b" ∷ []) 0 (codes "cb"))
          ∷ Answered 25 C (call.Write (codes "d" ∷ codes "b" ∷ []) 0 (codes "cb")) (answer.Reply (reply.Refused (no.NotFound 2))) None
          ∷ Waits 26 A (call.Chown [] 2) ∷ Answered 26 A (call.Chown [] 2) (answer.Reply reply.Ok) (Some 2) ∷ Waits 27 C (call.Mkdir (codes "e" ∷ []))
          ∷ Durable A (2 ∷ []) ∷ Answered 27 C (call.Mkdir (codes "e" ∷ [])) (answer.Reply reply.Ok) (Some 4)
          ∷ Waits 28 B (call.Write (codes "d" ∷ codes "a" ∷ []) 4 (codes "z")) ∷ Durable C (4 ∷ [])
          ∷ Answered 28 B (call.Write (codes "d" ∷ codes "a" ∷ []) 4 (codes "z")) (answer.Reply (reply.Refused (no.NotFound 2))) None
          ∷ Waits 29 B (call.Rename (codes "e" ∷ []) (codes "d" ∷ []))
          ∷ Answered 29 B (call.Rename (codes "e" ∷ []) (codes "d" ∷ [])) (answer.Reply (reply.Refused no.NotEmpty)) None ∷ Nothing
          ∷ Waits 31 B (call.Chmod [] 493) ∷ Answered 31 B (call.Chmod [] 493) (answer.Reply reply.Ok) (Some 1)
          ∷ Waits 32 B (call.Create (codes "b" ∷ [])) ∷ Answered 32 B (call.Create (codes "b" ∷ [])) (answer.Reply reply.Ok) (Some 2)
          ∷ Waits 33 B (call.Create (codes "d" ∷ codes "a" ∷ []))
          ∷ Answered 33 B (call.Create (codes "d" ∷ codes "a" ∷ [])) (answer.Reply reply.Ok) (Some 3)
          ∷ Waits 34 C (call.Read (codes "d" ∷ codes "a" ∷ []) 0 9) ∷ Durable B (1 ∷ 2 ∷ []) ∷ Durable B (3 ∷ [])
          ∷ Answered 34 C (call.Read (codes "d" ∷ codes "a" ∷ []) 0 9) (answer.Reply (reply.Data [])) None
          ∷ Answered 35 B (call.Fsync (codes "e" ∷ [])) (answer.Reply reply.Ok) None ∷ Waits 36 D (call.Mkdir (codes "d" ∷ []))
          ∷ Answered 36 D (call.Mkdir (codes "d" ∷ [])) (answer.Reply (reply.Refused no.Exists)) None
          ∷ Waits 37 C (call.Rmdir (codes "d" ∷ codes "e" ∷ []))
          ∷ Answered 37 C (call.Rmdir (codes "d" ∷ codes "e" ∷ [])) (answer.Reply reply.Ok) (Some 5) ∷ Nothing ∷ Nothing ∷ Waits 49 A (call.List [])
          ∷ Answered 49 A (call.List []) (answer.Reply (reply.Names (codes "b" ∷ codes "d" ∷ codes "e" ∷ []))) None
          ∷ Answered 50 B (call.List []) (answer.Reply (reply.Names (codes "b" ∷ codes "d" ∷ codes "e" ∷ []))) None
          ∷ Answered 51 C (call.List []) (answer.Reply (reply.Names (codes "b" ∷ codes "d" ∷ codes "e" ∷ []))) None
          ∷ Answered 52 D (call.List []) (answer.Reply (reply.Names (codes "b" ∷ codes "d" ∷ codes "e" ∷ []))) None
          ∷ Answered 53 A (call.Read (codes "a" ∷ []) 0 64) (answer.Reply (reply.Refused (no.NotFound 1))) None
          ∷ Answered 54 B (call.Read (codes "b" ∷ []) 0 64) (answer.Reply (reply.Data [])) None
          ∷ Waits 55 D (call.Read (codes "d" ∷ codes "a" ∷ []) 0 64) ∷ Durable C (5 ∷ [])
          ∷ Answered 55 D (call.Read (codes "d" ∷ codes "a" ∷ []) 0 64) (answer.Reply (reply.Data [])) None ∷ [];
      status = 0;
    }

abbrev pub stop_7 : Run
stop_7 =
    record {
      lines =
          reads (line.Call C (call.Mkdir (codes "d" ∷ []))) 9 ∷ reads (line.Call B (call.Create (codes "a" ∷ []))) 10
          ∷ reads (line.Call B (call.Write (codes "a" ∷ []) 0 (codes "abcdefgh"))) 14 ∷ reads (line.Call A call.Sync) 3
          ∷ reads (line.Call B call.Sync) 3 ∷ reads (line.Call C call.Sync) 3 ∷ reads (line.Call D call.Sync) 3
          ∷ reads (line.Call D (call.Chmod (codes "d" ∷ []) 384)) 12 ∷ reads (line.Push D 1) 8
          ∷ reads (line.Call D (call.Rename (codes "a" ∷ []) (codes "a" ∷ []))) 13 ∷ reads (line.Call A (call.Chmod (codes "d" ∷ []) 493)) 12
          ∷ reads (line.Deliver C msg.Recall 4) 18 ∷ reads (line.Push B 1) 8 ∷ reads (line.Call D (call.Forder ([] ∷ []))) 10 ∷ reads (line.End B) 5
          ∷ reads (line.Call B (call.Create (codes "a" ∷ []))) 10 ∷ reads (line.Call A (call.Write (codes "a" ∷ []) 1 (codes "z"))) 14
          ∷ reads (line.Call C (call.Fsync (codes "a" ∷ []))) 9 ∷ reads (line.Call C (call.Write (codes "a" ∷ []) 0 (codes "b"))) 14
          ∷ reads (line.Call D (call.Mkdir (codes "e" ∷ []))) 9 ∷ reads (line.Call C (call.Forder ((codes "a" ∷ []) ∷ [] ∷ []))) 13
          ∷ reads (line.Call D (call.Stat (codes "a" ∷ []))) 8 ∷ reads (line.Call B (call.List [])) 8
          ∷ reads (line.Call A (call.Write (codes "a" ∷ []) 0 (codes "bccba"))) 14 ∷ reads (line.Uncut B) 7
          ∷ reads (line.Call D (call.Stat (codes "a" ∷ []))) 8 ∷ reads (line.Call A (call.Forder ((codes "d" ∷ []) ∷ (codes "d" ∷ []) ∷ []))) 13
          ∷ reads (line.Call D (call.Remove (codes "a" ∷ []))) 10 ∷ reads (line.Call C (call.Create (codes "d" ∷ codes "b" ∷ []))) 10
          ∷ reads (line.Call D (call.Mkdir (codes "d" ∷ codes "k" ∷ []))) 9 ∷ reads (line.Crash C) 7 ∷ reads (line.Call A (call.Stat [])) 8
          ∷ reads (line.Cut C) 5 ∷ reads (line.Call B (call.Create (codes "d" ∷ codes "a" ∷ []))) 10
          ∷ reads (line.Call B (call.Create (codes "b" ∷ []))) 10 ∷ reads (line.Drop C msg.Recall 12) 15 ∷ reads (line.Cut B) 5
          ∷ reads (line.Push B 3) 8 ∷ reads (line.Deliver B msg.Flush 2) 17 ∷ reads (line.End B) 5 ∷ reads (line.Uncut B) 7
          ∷ reads (line.Call B (call.List [])) 8 ∷ reads (line.Call B (call.Stat (codes "d" ∷ codes "b2" ∷ []))) 8 ∷ reads (line.Call B call.Sync) 3
          ∷ reads (line.Uncut C) 7 ∷ reads (line.Resend A) 8 ∷ reads (line.Resend B) 8 ∷ reads (line.Resend D) 8 ∷ reads (line.Resend A) 8
          ∷ reads (line.Resend B) 8 ∷ reads (line.Resend D) 8 ∷ reads (line.Call A (call.List [])) 8 ∷ reads (line.Call B (call.List [])) 8
          ∷ reads (line.Call C (call.List [])) 8 ∷ reads (line.Call D (call.List [])) 8 ∷ reads (line.Call C (call.Read (codes "a" ∷ []) 0 64)) 13
          ∷ reads (line.Call B (call.Read (codes "b" ∷ []) 0 64)) 13 ∷ reads (line.Call D (call.Read (codes "d" ∷ codes "a" ∷ []) 0 64)) 15 ∷ [];
      fates = [];
      max_objects = 1024;
      shown =
          Waits 1 C (call.Mkdir (codes "d" ∷ [])) ∷ Answered 1 C (call.Mkdir (codes "d" ∷ [])) (answer.Reply reply.Ok) (Some 1)
          ∷ Waits 2 B (call.Create (codes "a" ∷ [])) ∷ Durable C (1 ∷ [])
          ∷ Answered 2 B (call.Create (codes "a" ∷ [])) (answer.Reply reply.Ok) (Some 1)
          ∷ Answered 3 B (call.Write (codes "a" ∷ []) 0 (codes "abcdefgh")) (answer.Reply reply.Ok) (Some 2)
          ∷ Answered 4 A call.Sync (answer.Reply reply.Ok) None ∷ Waits 5 B call.Sync ∷ Durable B (1 ∷ 2 ∷ [])
          ∷ Answered 5 B call.Sync (answer.Reply reply.Ok) None ∷ Answered 6 C call.Sync (answer.Reply reply.Ok) None
          ∷ Answered 7 D call.Sync (answer.Reply reply.Ok) None ∷ Waits 8 D (call.Chmod (codes "d" ∷ []) 384)
          ∷ Answered 8 D (call.Chmod (codes "d" ∷ []) 384) (answer.Reply reply.Ok) (Some 1) ∷ Durable D (1 ∷ [])
          ∷ Waits 10 D (call.Rename (codes "a" ∷ []) (codes "a" ∷ []))
          ∷ Answered 10 D (call.Rename (codes "a" ∷ []) (codes "a" ∷ [])) (answer.Reply reply.Ok) None ∷ Waits 11 A (call.Chmod (codes "d" ∷ []) 493)
          ∷ Answered 11 A (call.Chmod (codes "d" ∷ []) 493) (answer.Reply reply.Ok) (Some 1) ∷ Nothing ∷ Waits 14 D (call.Forder ([] ∷ []))
          ∷ Answered 14 D (call.Forder ([] ∷ [])) (answer.Reply reply.Ok) (Some 2) ∷ Ended B [] ∷ Told B []
          ∷ Waits 16 B (call.Create (codes "a" ∷ [])) ∷ Durable D (2 ∷ [])
          ∷ Answered 16 B (call.Create (codes "a" ∷ [])) (answer.Reply (reply.Refused no.Exists)) None
          ∷ Waits 17 A (call.Write (codes "a" ∷ []) 1 (codes "z"))
          ∷ Answered 17 A (call.Write (codes "a" ∷ []) 1 (codes "z")) (answer.Reply reply.Ok) (Some 2) ∷ Waits 18 C (call.Fsync (codes "a" ∷ []))
          ∷ Durable A (2 ∷ []) ∷ Answered 18 C (call.Fsync (codes "a" ∷ [])) (answer.Reply reply.Ok) None
          ∷ Waits 19 C (call.Write (codes "a" ∷ []) 0 (codes "b"))
          ∷ Answered 19 C (call.Write (codes "a" ∷ []) 0 (codes "b")) (answer.Reply reply.Ok) (Some 2) ∷ Waits 20 D (call.Mkdir (codes "e" ∷ []))
          ∷ Answered 20 D (call.Mkdir (codes "e" ∷ [])) (answer.Reply reply.Ok) (Some 3) ∷ Waits 21 C (call.Forder ((codes "a" ∷ []) ∷ [] ∷ []))
          ∷ Durable D (3 ∷ []) ∷ Answered 21 C (call.Forder ((codes "a" ∷ []) ∷ [] ∷ [])) (answer.Reply reply.Ok) (Some 3)
          ∷ Waits 22 D (call.Stat (codes "a" ∷ [])) ∷ Durable C (2 ∷ 3 ∷ [])
          ∷ Answered 22 D (call.Stat (codes "a" ∷ [])) (answer.Reply (reply.Stat kind.File 420 0 0 8)) None ∷ Waits 23 B (call.List [])
          ∷ Answered 23 B (call.List []) (answer.Reply (reply.Names (codes "a" ∷ codes "d" ∷ codes "e" ∷ []))) None
          ∷ Waits 24 A (call.Write (codes "a" ∷ []) 0 (codes "bccba"))
          ∷ Answered 24 A (call.Write (codes "a" ∷ []) 0 (codes "bccba")) (answer.Reply reply.Ok) (Some 3) ∷ Nothing
          ∷ Waits 26 D (call.Stat (codes "a" ∷ [])) ∷ Durable A (3 ∷ [])
          ∷ Answered 26 D (call.Stat (codes "a" ∷ [])) (answer.Reply (reply.Stat kind.File 420 0 0 8)) None
          ∷ Answered 27 A (call.Forder ((codes "d" ∷ []) ∷ (codes "d" ∷ []) ∷ [])) (answer.Reply reply.Ok) (Some 4)
          ∷ Waits 28 D (call.Remove (codes "a" ∷ [])) ∷ Answered 28 D (call.Remove (codes "a" ∷ [])) (answer.Reply reply.Ok) (Some 4)
          ∷ Waits 29 C (call.Create (codes "d" ∷ codes "b" ∷ [])) ∷ Durable D (4 ∷ []) ∷ Durable A (1 ∷ 4 ∷ [])
          ∷ Answered 29 C (call.Create (codes "d" ∷ codes "b" ∷ [])) (answer.Reply reply.Ok) (Some 4)
          ∷ Waits 30 D (call.Mkdir (codes "d" ∷ codes "k" ∷ [])) ∷ Durable C (4 ∷ [])
          ∷ Answered 30 D (call.Mkdir (codes "d" ∷ codes "k" ∷ [])) (answer.Reply reply.Ok) (Some 5) ∷ Crashed C ∷ Waits 32 A (call.Stat [])
          ∷ Answered 32 A (call.Stat []) (answer.Reply (reply.Stat kind.Dir 493 0 0 2)) None ∷ Waits 34 B (call.Create (codes "d" ∷ codes "a" ∷ []))
          ∷ Durable D (5 ∷ []) ∷ Answered 34 B (call.Create (codes "d" ∷ codes "a" ∷ [])) (answer.Reply reply.Ok) (Some 3)
          ∷ Waits 35 B (call.Create (codes "b" ∷ [])) ∷ Durable B (3 ∷ []) ∷ Ended B [] ∷ Told B []
          ∷ Answered 42 B (call.List []) (answer.Reply (reply.Names (codes "d" ∷ codes "e" ∷ []))) None
          ∷ Waits 43 B (call.Stat (codes "d" ∷ codes "b2" ∷ []))
          ∷ Answered 43 B (call.Stat (codes "d" ∷ codes "b2" ∷ [])) (answer.Reply (reply.Refused (no.NotFound 2))) None
          ∷ Answered 44 B call.Sync (answer.Reply reply.Ok) None ∷ Waits 52 A (call.List [])
          ∷ Answered 52 A (call.List []) (answer.Reply (reply.Names (codes "d" ∷ codes "e" ∷ []))) None
          ∷ Answered 53 B (call.List []) (answer.Reply (reply.Names (codes "d" ∷ codes "e" ∷ []))) None ∷ Waits 54 C (call.List []) ∷ Ended C []
          ∷ Answered 54 C (call.List []) (answer.Reply (reply.Names (codes "d" ∷ codes "e" ∷ []))) None
          ∷ Answered 35 B (call.Create (codes "b" ∷ [])) (answer.Reply reply.Ok) (Some 4) ∷ Waits 55 D (call.List []) ∷ Durable B (4 ∷ [])
          ∷ Answered 55 D (call.List []) (answer.Reply (reply.Names (codes "b" ∷ codes "d" ∷ codes "e" ∷ []))) None
          ∷ Waits 56 C (call.Read (codes "a" ∷ []) 0 64)
          ∷ Answered 56 C (call.Read (codes "a" ∷ []) 0 64) (answer.Reply (reply.Refused (no.NotFound 1))) None
          ∷ Answered 57 B (call.Read (codes "b" ∷ []) 0 64) (answer.Reply (reply.Data [])) None
          ∷ Waits 58 D (call.Read (codes "d" ∷ codes "a" ∷ []) 0 64)
          ∷ Answered 58 D (call.Read (codes "d" ∷ codes "a" ∷ []) 0 64) (answer.Reply (reply.Data [])) None ∷ [];
      status = 0;
    }
