-- Random scripts with lost, repeated and late messages.
use Rattle.std.specs.Prelude.{[], ◌∷◌, None, Some, codes}
use Rattle.ec_volume.specs.declared.image.Kind.TheVariants as kind
use Rattle.ec_plain.specs.declared.call.Call.TheVariants as call
use Rattle.ec_plain.specs.declared.call.Reply.TheVariants as reply
use Rattle.ec_plain.specs.declared.call.Refusal.TheVariants as no
use Rattle.ec_history.specs.declared.entry.Answer.TheVariants as answer
use Rattle.ec_history.specs.declared.shown.Shown.TheVariants.{Waits, Answered, Durable, Nothing}
use Rattle.ec_wire.specs.declared.msg.MsgKind.TheVariants as msg
use Rattle.ec_protocol.specs.declared.script.Line.TheVariants as line
use Rattle.ec_protocol.specs.Drill.{reads}
use Rattle.ec_protocol.specs.Runs.{Run, A, B, C, D}

abbrev pub net_0 : Run
net_0 =
    record {
      lines =
          reads (line.Call A (call.Mkdir (codes "d" ∷ []))) 9 ∷ reads (line.Call A (call.Create (codes "a" ∷ []))) 10
          ∷ reads (line.Call A (call.Write (codes "a" ∷ []) 0 (codes "abcdefgh"))) 14 ∷ reads (line.Call A call.Sync) 3
          ∷ reads (line.Call B call.Sync) 3 ∷ reads (line.Call B (call.Rename (codes "d" ∷ codes "b" ∷ []) (codes "a" ∷ []))) 15
          ∷ reads (line.Call B (call.Create (codes "d" ∷ codes "a" ∷ []))) 10 ∷ reads (line.Call B (call.Create (codes "b" ∷ []))) 10
          ∷ reads (line.Call B (call.Stat (codes "d" ∷ codes "a" ∷ []))) 8 ∷ reads (line.Push B 1) 8
          ∷ reads (line.Call A (call.Rename (codes "d" ∷ []) (codes "d" ∷ codes "k" ∷ []))) 13 ∷ reads (line.Uncut A) 7
          ∷ reads (line.Call A (call.Fsync [])) 9 ∷ reads (line.Repeat B msg.Room 1) 15
          ∷ reads (line.Call B (call.Create (codes "d" ∷ codes "b" ∷ []))) 10 ∷ reads (line.Repeat A msg.Back 2) 15 ∷ reads (line.Cut A) 5
          ∷ reads (line.Cut B) 5 ∷ reads (line.Call A (call.Rename (codes "b" ∷ []) (codes "b2" ∷ []))) 13
          ∷ reads (line.Call B (call.Chown (codes "d" ∷ codes "b" ∷ []) 7)) 14 ∷ reads (line.Call A (call.Mkdir (codes "e" ∷ []))) 9
          ∷ reads (line.Drop A msg.Want 5) 13 ∷ reads (line.Call B (call.Write (codes "d" ∷ codes "b" ∷ []) 3 (codes "x"))) 16
          ∷ reads (line.Call B (call.Write (codes "d" ∷ codes "b" ∷ []) 2 (codes "b"))) 16 ∷ reads (line.Cut B) 5
          ∷ reads (line.Call A (call.Write (codes "a" ∷ []) 4 (codes "abx"))) 14 ∷ reads (line.Cut B) 5
          ∷ reads (line.Call B (call.Stat (codes "d" ∷ []))) 8 ∷ reads (line.Drop A msg.Want 6) 13 ∷ reads (line.Push A 2) 8
          ∷ reads (line.Repeat B msg.Room 1) 15 ∷ reads (line.Call B (call.Forder ((codes "d" ∷ []) ∷ []))) 10 ∷ reads (line.Call A (call.Fsync [])) 9
          ∷ reads (line.Drop B msg.Room 1) 13 ∷ reads (line.Call A (call.Stat (codes "d" ∷ codes "a" ∷ []))) 8
          ∷ reads (line.Call A (call.Create (codes "d" ∷ codes "a" ∷ []))) 10 ∷ reads (line.Cut A) 5 ∷ reads (line.Call A call.Sync) 3
          ∷ reads (line.Call B (call.List (codes "d" ∷ []))) 8 ∷ reads (line.Call B (call.Write (codes "a" ∷ []) 0 (codes "c"))) 14
          ∷ reads (line.Uncut A) 7 ∷ reads (line.Uncut B) 7 ∷ reads (line.Resend A) 8 ∷ reads (line.Resend B) 8 ∷ reads (line.Resend A) 8
          ∷ reads (line.Resend B) 8 ∷ reads (line.Call A (call.List [])) 8 ∷ reads (line.Call B (call.List [])) 8
          ∷ reads (line.Call A (call.Read (codes "a" ∷ []) 0 64)) 13 ∷ reads (line.Call A (call.Read (codes "b" ∷ []) 0 64)) 13
          ∷ reads (line.Call B (call.Read (codes "d" ∷ codes "a" ∷ []) 0 64)) 15 ∷ reads (line.Call A call.Sync) 3 ∷ reads (line.Call B call.Sync) 3
          ∷ [];
      fates = [];
      max_objects = 1024;
      shown =
          Waits 1 A (call.Mkdir (codes "d" ∷ [])) ∷ Answered 1 A (call.Mkdir (codes "d" ∷ [])) (answer.Reply reply.Ok) (Some 1)
          ∷ Answered 2 A (call.Create (codes "a" ∷ [])) (answer.Reply reply.Ok) (Some 2)
          ∷ Answered 3 A (call.Write (codes "a" ∷ []) 0 (codes "abcdefgh")) (answer.Reply reply.Ok) (Some 3) ∷ Waits 4 A call.Sync
          ∷ Durable A (1 ∷ 2 ∷ 3 ∷ []) ∷ Answered 4 A call.Sync (answer.Reply reply.Ok) None ∷ Answered 5 B call.Sync (answer.Reply reply.Ok) None
          ∷ Waits 6 B (call.Rename (codes "d" ∷ codes "b" ∷ []) (codes "a" ∷ []))
          ∷ Answered 6 B (call.Rename (codes "d" ∷ codes "b" ∷ []) (codes "a" ∷ [])) (answer.Reply (reply.Refused (no.NotFound 2))) None
          ∷ Waits 7 B (call.Create (codes "d" ∷ codes "a" ∷ []))
          ∷ Answered 7 B (call.Create (codes "d" ∷ codes "a" ∷ [])) (answer.Reply reply.Ok) (Some 1) ∷ Waits 8 B (call.Create (codes "b" ∷ []))
          ∷ Answered 8 B (call.Create (codes "b" ∷ [])) (answer.Reply reply.Ok) (Some 2)
          ∷ Answered 9 B (call.Stat (codes "d" ∷ codes "a" ∷ [])) (answer.Reply (reply.Stat kind.File 420 0 0 0)) None ∷ Durable B (1 ∷ [])
          ∷ Waits 11 A (call.Rename (codes "d" ∷ []) (codes "d" ∷ codes "k" ∷ [])) ∷ Durable B (2 ∷ [])
          ∷ Answered 11 A (call.Rename (codes "d" ∷ []) (codes "d" ∷ codes "k" ∷ [])) (answer.Reply (reply.Refused no.Loop)) None ∷ Nothing
          ∷ Answered 13 A (call.Fsync []) (answer.Reply reply.Ok) None ∷ Waits 15 B (call.Create (codes "d" ∷ codes "b" ∷ []))
          ∷ Answered 15 B (call.Create (codes "d" ∷ codes "b" ∷ [])) (answer.Reply reply.Ok) (Some 3)
          ∷ Waits 19 A (call.Rename (codes "b" ∷ []) (codes "b2" ∷ []))
          ∷ Answered 20 B (call.Chown (codes "d" ∷ codes "b" ∷ []) 7) (answer.Reply reply.Ok) (Some 4) ∷ Waits 21 A (call.Mkdir (codes "e" ∷ []))
          ∷ Answered 23 B (call.Write (codes "d" ∷ codes "b" ∷ []) 3 (codes "x")) (answer.Reply reply.Ok) (Some 5)
          ∷ Answered 24 B (call.Write (codes "d" ∷ codes "b" ∷ []) 2 (codes "b")) (answer.Reply reply.Ok) (Some 6) ∷ Nothing
          ∷ Answered 26 A (call.Write (codes "a" ∷ []) 4 (codes "abx")) (answer.Reply reply.Ok) (Some 4) ∷ Nothing
          ∷ Answered 28 B (call.Stat (codes "d" ∷ [])) (answer.Reply (reply.Stat kind.Dir 493 0 0 2)) None ∷ Nothing
          ∷ Answered 32 B (call.Forder ((codes "d" ∷ []) ∷ [])) (answer.Reply reply.Ok) (Some 7)
          ∷ Answered 33 A (call.Fsync []) (answer.Reply reply.Ok) None ∷ Waits 35 A (call.Stat (codes "d" ∷ codes "a" ∷ []))
          ∷ Waits 36 A (call.Create (codes "d" ∷ codes "a" ∷ [])) ∷ Nothing ∷ Waits 38 A call.Sync
          ∷ Answered 39 B (call.List (codes "d" ∷ [])) (answer.Reply (reply.Names (codes "a" ∷ codes "b" ∷ []))) None
          ∷ Waits 40 B (call.Write (codes "a" ∷ []) 0 (codes "c")) ∷ Durable A (4 ∷ []) ∷ Answered 38 A call.Sync (answer.Reply reply.Ok) None
          ∷ Durable B (3 ∷ 7 ∷ []) ∷ Answered 36 A (call.Create (codes "d" ∷ codes "a" ∷ [])) (answer.Reply (reply.Refused no.Exists)) None
          ∷ Answered 40 B (call.Write (codes "a" ∷ []) 0 (codes "c")) (answer.Reply reply.Ok) (Some 8)
          ∷ Answered 35 A (call.Stat (codes "d" ∷ codes "a" ∷ [])) (answer.Reply (reply.Stat kind.File 420 0 0 0)) None
          ∷ Answered 21 A (call.Mkdir (codes "e" ∷ [])) (answer.Reply reply.Ok) (Some 5)
          ∷ Answered 19 A (call.Rename (codes "b" ∷ []) (codes "b2" ∷ [])) (answer.Reply reply.Ok) (Some 6)
          ∷ Answered 47 A (call.List []) (answer.Reply (reply.Names (codes "a" ∷ codes "b2" ∷ codes "d" ∷ codes "e" ∷ []))) None
          ∷ Waits 48 B (call.List []) ∷ Durable A (5 ∷ 6 ∷ [])
          ∷ Answered 48 B (call.List []) (answer.Reply (reply.Names (codes "a" ∷ codes "b2" ∷ codes "d" ∷ codes "e" ∷ []))) None
          ∷ Waits 49 A (call.Read (codes "a" ∷ []) 0 64) ∷ Durable B (8 ∷ [])
          ∷ Answered 49 A (call.Read (codes "a" ∷ []) 0 64) (answer.Reply (reply.Data (codes "cbcdabxh"))) None
          ∷ Answered 50 A (call.Read (codes "b" ∷ []) 0 64) (answer.Reply (reply.Refused (no.NotFound 1))) None
          ∷ Answered 51 B (call.Read (codes "d" ∷ codes "a" ∷ []) 0 64) (answer.Reply (reply.Data [])) None
          ∷ Answered 52 A call.Sync (answer.Reply reply.Ok) None ∷ Waits 53 B call.Sync ∷ Durable B (4 ∷ 5 ∷ 6 ∷ [])
          ∷ Answered 53 B call.Sync (answer.Reply reply.Ok) None ∷ [];
      status = 0;
    }

abbrev pub net_1 : Run
net_1 =
    record {
      lines =
          reads (line.Cut A) 5 ∷ reads (line.Call B (call.Create (codes "a" ∷ []))) 10 ∷ reads (line.Cut B) 5 ∷ reads (line.Push B 1) 8
          ∷ reads (line.Deliver B msg.Flush 1) 17 ∷ reads (line.Push B 1) 8 ∷ reads (line.Resend A) 8 ∷ reads (line.Repeat B msg.Room 1) 15
          ∷ reads (line.Repeat B msg.Opened 1) 17 ∷ reads (line.Drop B msg.Room 1) 13
          ∷ reads (line.Call B (call.Write (codes "a" ∷ []) 4 (codes "cz"))) 14 ∷ reads (line.Call B (call.Write (codes "a" ∷ []) 5 (codes "za"))) 14
          ∷ reads (line.Resend B) 8 ∷ reads (line.Resend B) 8 ∷ reads (line.Drop B msg.Flush 3) 14 ∷ reads (line.Repeat B msg.Ids 1) 14
          ∷ reads (line.Repeat B msg.Flush 3) 16 ∷ reads (line.Resend B) 8 ∷ reads (line.Call B (call.Read (codes "a" ∷ []) 3 2)) 13
          ∷ reads (line.Cut B) 5 ∷ reads (line.Drop B msg.Flush 3) 14 ∷ reads (line.Resend B) 8
          ∷ reads (line.Call A (call.Read (codes "a" ∷ []) 0 9)) 13 ∷ reads (line.Call A (call.Stat (codes "a" ∷ []))) 8
          ∷ reads (line.Call A (call.Rename (codes "a" ∷ []) (codes "a" ∷ []))) 13 ∷ reads (line.Call B (call.Create (codes "a" ∷ []))) 10
          ∷ reads (line.Deliver B msg.Ids 1) 15 ∷ reads (line.Deliver B msg.Kept 1) 16 ∷ reads (line.Uncut B) 7
          ∷ reads (line.Call B (call.Chown [] 2)) 11 ∷ reads (line.Repeat B msg.Want 2) 15
          ∷ reads (line.Call B (call.Rename (codes "e" ∷ []) (codes "e" ∷ codes "d" ∷ []))) 13 ∷ reads (line.Call A (call.Mkdir (codes "e" ∷ []))) 9
          ∷ reads (line.Call B (call.Rename (codes "a" ∷ []) (codes "a2" ∷ []))) 13 ∷ reads (line.Call B (call.Stat (codes "a2" ∷ []))) 8
          ∷ reads (line.Call A (call.Create (codes "a" ∷ []))) 10 ∷ reads (line.Deliver A msg.Hello 1) 17 ∷ reads (line.Resend B) 8
          ∷ reads (line.Call B (call.Chmod (codes "a2" ∷ []) 384)) 13 ∷ reads (line.Call B (call.Create (codes "a" ∷ []))) 10 ∷ reads (line.Uncut A) 7
          ∷ reads (line.Resend A) 8 ∷ reads (line.Resend B) 8 ∷ reads (line.Resend A) 8 ∷ reads (line.Resend B) 8
          ∷ reads (line.Call A (call.List [])) 8 ∷ reads (line.Call B (call.List [])) 8 ∷ reads (line.Call B (call.Read (codes "a" ∷ []) 0 64)) 13
          ∷ reads (line.Call B (call.Read (codes "d" ∷ codes "a" ∷ []) 0 64)) 15
          ∷ reads (line.Call A (call.Read (codes "e" ∷ codes "a" ∷ []) 0 64)) 15 ∷ [];
      fates = [];
      max_objects = 1024;
      shown =
          Waits 2 B (call.Create (codes "a" ∷ [])) ∷ Answered 2 B (call.Create (codes "a" ∷ [])) (answer.Reply reply.Ok) (Some 1) ∷ Durable B (1 ∷ [])
          ∷ Nothing ∷ Nothing ∷ Answered 11 B (call.Write (codes "a" ∷ []) 4 (codes "cz")) (answer.Reply reply.Ok) (Some 2)
          ∷ Answered 12 B (call.Write (codes "a" ∷ []) 5 (codes "za")) (answer.Reply reply.Ok) (Some 3)
          ∷ Answered 19 B (call.Read (codes "a" ∷ []) 3 2) (answer.Reply (reply.Data (0 ∷ 99 ∷ []))) None ∷ Nothing
          ∷ Waits 23 A (call.Read (codes "a" ∷ []) 0 9) ∷ Waits 24 A (call.Stat (codes "a" ∷ []))
          ∷ Waits 25 A (call.Rename (codes "a" ∷ []) (codes "a" ∷ []))
          ∷ Answered 26 B (call.Create (codes "a" ∷ [])) (answer.Reply (reply.Refused no.Exists)) None
          ∷ Answered 30 B (call.Chown [] 2) (answer.Reply reply.Ok) (Some 4)
          ∷ Answered 32 B (call.Rename (codes "e" ∷ []) (codes "e" ∷ codes "d" ∷ [])) (answer.Reply (reply.Refused (no.NotFound 1))) None
          ∷ Waits 33 A (call.Mkdir (codes "e" ∷ [])) ∷ Answered 34 B (call.Rename (codes "a" ∷ []) (codes "a2" ∷ [])) (answer.Reply reply.Ok) (Some 5)
          ∷ Answered 35 B (call.Stat (codes "a2" ∷ [])) (answer.Reply (reply.Stat kind.File 420 0 0 7)) None
          ∷ Waits 36 A (call.Create (codes "a" ∷ [])) ∷ Answered 39 B (call.Chmod (codes "a2" ∷ []) 384) (answer.Reply reply.Ok) (Some 6)
          ∷ Answered 40 B (call.Create (codes "a" ∷ [])) (answer.Reply reply.Ok) (Some 7) ∷ Durable B (2 ∷ 3 ∷ 4 ∷ 5 ∷ 7 ∷ [])
          ∷ Answered 36 A (call.Create (codes "a" ∷ [])) (answer.Reply (reply.Refused no.Exists)) None
          ∷ Answered 23 A (call.Read (codes "a" ∷ []) 0 9) (answer.Reply (reply.Data [])) None
          ∷ Answered 24 A (call.Stat (codes "a" ∷ [])) (answer.Reply (reply.Stat kind.File 420 0 0 0)) None
          ∷ Answered 25 A (call.Rename (codes "a" ∷ []) (codes "a" ∷ [])) (answer.Reply reply.Ok) None
          ∷ Answered 33 A (call.Mkdir (codes "e" ∷ [])) (answer.Reply reply.Ok) (Some 1)
          ∷ Answered 46 A (call.List []) (answer.Reply (reply.Names (codes "a" ∷ codes "a2" ∷ codes "e" ∷ []))) None ∷ Waits 47 B (call.List [])
          ∷ Durable A (1 ∷ []) ∷ Answered 47 B (call.List []) (answer.Reply (reply.Names (codes "a" ∷ codes "a2" ∷ codes "e" ∷ []))) None
          ∷ Answered 48 B (call.Read (codes "a" ∷ []) 0 64) (answer.Reply (reply.Data [])) None
          ∷ Answered 49 B (call.Read (codes "d" ∷ codes "a" ∷ []) 0 64) (answer.Reply (reply.Refused (no.NotFound 1))) None
          ∷ Answered 50 A (call.Read (codes "e" ∷ codes "a" ∷ []) 0 64) (answer.Reply (reply.Refused (no.NotFound 2))) None ∷ [];
      status = 0;
    }

abbrev pub net_2 : Run
net_2 =
    record {
      lines =
          reads (line.Call A (call.Create (codes "a" ∷ []))) 10 ∷ reads (line.Call B (call.Rename (codes "a" ∷ []) (codes "e" ∷ codes "a" ∷ []))) 13
          ∷ reads (line.Call A (call.Write (codes "e" ∷ codes "a" ∷ []) 4 (codes "yc"))) 16
          ∷ reads (line.Call A (call.Write (codes "e" ∷ codes "a" ∷ []) 3 (codes "az"))) 16
          ∷ reads (line.Call A (call.Write (codes "e" ∷ codes "a" ∷ []) 4 (codes "z"))) 16 ∷ reads (line.Resend B) 8
          ∷ reads (line.Call B (call.Read (codes "a" ∷ []) 0 2)) 13 ∷ reads (line.Cut B) 5 ∷ reads (line.Call A (call.Chmod [] 4095)) 11
          ∷ reads (line.Call B (call.Write (codes "a" ∷ []) 3 (codes "y"))) 14 ∷ reads (line.Call B (call.Write (codes "a" ∷ []) 5 (codes "zb"))) 14
          ∷ reads (line.Call B (call.Write (codes "a" ∷ []) 2 (codes "x"))) 14 ∷ reads (line.Call B (call.Write (codes "a" ∷ []) 1 (codes "b"))) 14
          ∷ reads (line.Call B (call.Write (codes "a" ∷ []) 0 (codes "bz"))) 14 ∷ reads (line.Call B (call.Write (codes "a" ∷ []) 0 (codes "c"))) 14
          ∷ reads (line.Resend B) 8 ∷ reads (line.Call B (call.Chmod (codes "d" ∷ []) 493)) 12
          ∷ reads (line.Call A (call.Write (codes "a" ∷ []) 0 (codes "ba"))) 14 ∷ reads (line.Cut A) 5 ∷ reads (line.Deliver B msg.Claim 3) 17
          ∷ reads (line.Drop B msg.Recall 1) 15 ∷ reads (line.Cut A) 5 ∷ reads (line.Call A (call.Mkdir (codes "e" ∷ []))) 9
          ∷ reads (line.Call A (call.Mkdir (codes "e" ∷ []))) 9 ∷ reads (line.Call B (call.Stat [])) 8 ∷ reads (line.Deliver B msg.Want 4) 16
          ∷ reads (line.Call B (call.Write (codes "a" ∷ []) 5 (codes "a"))) 14 ∷ reads (line.Call B (call.Write (codes "a" ∷ []) 1 (codes "ay"))) 14
          ∷ reads (line.Uncut A) 7 ∷ reads (line.Repeat B msg.Want 4) 15 ∷ reads (line.Call A (call.Write (codes "a" ∷ []) 0 (codes "xz"))) 14
          ∷ reads (line.Call A (call.Write (codes "a" ∷ []) 3 (codes "yb"))) 14 ∷ reads (line.Deliver B msg.Want 3) 16 ∷ reads (line.Push A 1) 8
          ∷ reads (line.Call B (call.Write (codes "a" ∷ []) 1 (codes "za"))) 14 ∷ reads (line.Call B (call.Write (codes "a" ∷ []) 5 (codes "zx"))) 14
          ∷ reads (line.Call B (call.Write (codes "a" ∷ []) 5 (codes "yx"))) 14 ∷ reads (line.Uncut B) 7
          ∷ reads (line.Call A (call.SetLen (codes "a" ∷ []) 0)) 13 ∷ reads (line.Call B (call.Rename (codes "a" ∷ []) (codes "a" ∷ []))) 13
          ∷ reads (line.Resend A) 8 ∷ reads (line.Resend B) 8 ∷ reads (line.Resend A) 8 ∷ reads (line.Resend B) 8
          ∷ reads (line.Call A (call.List [])) 8 ∷ reads (line.Call B (call.List [])) 8 ∷ reads (line.Call A (call.Read (codes "a" ∷ []) 0 64)) 13
          ∷ reads (line.Call B (call.Read (codes "d" ∷ codes "a" ∷ []) 0 64)) 15
          ∷ reads (line.Call A (call.Read (codes "e" ∷ codes "a" ∷ []) 0 64)) 15 ∷ [];
      fates = [];
      max_objects = 1024;
      shown =
          Waits 1 A (call.Create (codes "a" ∷ [])) ∷ Answered 1 A (call.Create (codes "a" ∷ [])) (answer.Reply reply.Ok) (Some 1)
          ∷ Waits 2 B (call.Rename (codes "a" ∷ []) (codes "e" ∷ codes "a" ∷ [])) ∷ Durable A (1 ∷ [])
          ∷ Answered 2 B (call.Rename (codes "a" ∷ []) (codes "e" ∷ codes "a" ∷ [])) (answer.Reply (reply.Refused (no.NotFound 1))) None
          ∷ Answered 3 A (call.Write (codes "e" ∷ codes "a" ∷ []) 4 (codes "yc")) (answer.Reply (reply.Refused (no.NotFound 1))) None
          ∷ Answered 4 A (call.Write (codes "e" ∷ codes "a" ∷ []) 3 (codes "az")) (answer.Reply (reply.Refused (no.NotFound 1))) None
          ∷ Answered 5 A (call.Write (codes "e" ∷ codes "a" ∷ []) 4 (codes "z")) (answer.Reply (reply.Refused (no.NotFound 1))) None
          ∷ Answered 7 B (call.Read (codes "a" ∷ []) 0 2) (answer.Reply (reply.Data [])) None ∷ Waits 9 A (call.Chmod [] 4095)
          ∷ Waits 10 B (call.Write (codes "a" ∷ []) 3 (codes "y")) ∷ Waits 11 B (call.Write (codes "a" ∷ []) 5 (codes "zb"))
          ∷ Waits 12 B (call.Write (codes "a" ∷ []) 2 (codes "x")) ∷ Waits 13 B (call.Write (codes "a" ∷ []) 1 (codes "b"))
          ∷ Waits 14 B (call.Write (codes "a" ∷ []) 0 (codes "bz")) ∷ Waits 15 B (call.Write (codes "a" ∷ []) 0 (codes "c"))
          ∷ Answered 17 B (call.Chmod (codes "d" ∷ []) 493) (answer.Reply (reply.Refused (no.NotFound 1))) None
          ∷ Waits 18 A (call.Write (codes "a" ∷ []) 0 (codes "ba")) ∷ Nothing ∷ Waits 23 A (call.Mkdir (codes "e" ∷ []))
          ∷ Waits 24 A (call.Mkdir (codes "e" ∷ [])) ∷ Answered 25 B (call.Stat []) (answer.Reply (reply.Stat kind.Dir 493 0 0 1)) None
          ∷ Waits 27 B (call.Write (codes "a" ∷ []) 5 (codes "a")) ∷ Waits 28 B (call.Write (codes "a" ∷ []) 1 (codes "ay"))
          ∷ Waits 31 A (call.Write (codes "a" ∷ []) 0 (codes "xz")) ∷ Waits 32 A (call.Write (codes "a" ∷ []) 3 (codes "yb")) ∷ Nothing
          ∷ Waits 35 B (call.Write (codes "a" ∷ []) 1 (codes "za")) ∷ Waits 36 B (call.Write (codes "a" ∷ []) 5 (codes "zx"))
          ∷ Waits 37 B (call.Write (codes "a" ∷ []) 5 (codes "yx"))
          ∷ Answered 10 B (call.Write (codes "a" ∷ []) 3 (codes "y")) (answer.Reply reply.Ok) (Some 1)
          ∷ Answered 11 B (call.Write (codes "a" ∷ []) 5 (codes "zb")) (answer.Reply reply.Ok) (Some 2)
          ∷ Answered 12 B (call.Write (codes "a" ∷ []) 2 (codes "x")) (answer.Reply reply.Ok) (Some 3)
          ∷ Answered 13 B (call.Write (codes "a" ∷ []) 1 (codes "b")) (answer.Reply reply.Ok) (Some 4)
          ∷ Answered 14 B (call.Write (codes "a" ∷ []) 0 (codes "bz")) (answer.Reply reply.Ok) (Some 5)
          ∷ Answered 15 B (call.Write (codes "a" ∷ []) 0 (codes "c")) (answer.Reply reply.Ok) (Some 6)
          ∷ Answered 27 B (call.Write (codes "a" ∷ []) 5 (codes "a")) (answer.Reply reply.Ok) (Some 7)
          ∷ Answered 28 B (call.Write (codes "a" ∷ []) 1 (codes "ay")) (answer.Reply reply.Ok) (Some 8)
          ∷ Answered 35 B (call.Write (codes "a" ∷ []) 1 (codes "za")) (answer.Reply reply.Ok) (Some 9)
          ∷ Answered 36 B (call.Write (codes "a" ∷ []) 5 (codes "zx")) (answer.Reply reply.Ok) (Some 10)
          ∷ Answered 37 B (call.Write (codes "a" ∷ []) 5 (codes "yx")) (answer.Reply reply.Ok) (Some 11)
          ∷ Durable B (1 ∷ 2 ∷ 3 ∷ 4 ∷ 5 ∷ 6 ∷ 7 ∷ 8 ∷ 9 ∷ 10 ∷ 11 ∷ [])
          ∷ Answered 18 A (call.Write (codes "a" ∷ []) 0 (codes "ba")) (answer.Reply reply.Ok) (Some 2)
          ∷ Answered 31 A (call.Write (codes "a" ∷ []) 0 (codes "xz")) (answer.Reply reply.Ok) (Some 3)
          ∷ Answered 32 A (call.Write (codes "a" ∷ []) 3 (codes "yb")) (answer.Reply reply.Ok) (Some 4)
          ∷ Answered 39 A (call.SetLen (codes "a" ∷ []) 0) (answer.Reply reply.Ok) (Some 5)
          ∷ Waits 40 B (call.Rename (codes "a" ∷ []) (codes "a" ∷ [])) ∷ Durable A (2 ∷ 3 ∷ 4 ∷ 5 ∷ [])
          ∷ Answered 40 B (call.Rename (codes "a" ∷ []) (codes "a" ∷ [])) (answer.Reply reply.Ok) None
          ∷ Answered 9 A (call.Chmod [] 4095) (answer.Reply reply.Ok) (Some 6)
          ∷ Answered 23 A (call.Mkdir (codes "e" ∷ [])) (answer.Reply reply.Ok) (Some 7)
          ∷ Answered 24 A (call.Mkdir (codes "e" ∷ [])) (answer.Reply (reply.Refused no.Exists)) None
          ∷ Answered 45 A (call.List []) (answer.Reply (reply.Names (codes "a" ∷ codes "e" ∷ []))) None ∷ Waits 46 B (call.List [])
          ∷ Durable A (6 ∷ 7 ∷ []) ∷ Answered 46 B (call.List []) (answer.Reply (reply.Names (codes "a" ∷ codes "e" ∷ []))) None
          ∷ Answered 47 A (call.Read (codes "a" ∷ []) 0 64) (answer.Reply (reply.Data [])) None
          ∷ Answered 48 B (call.Read (codes "d" ∷ codes "a" ∷ []) 0 64) (answer.Reply (reply.Refused (no.NotFound 1))) None
          ∷ Answered 49 A (call.Read (codes "e" ∷ codes "a" ∷ []) 0 64) (answer.Reply (reply.Refused (no.NotFound 2))) None ∷ [];
      status = 0;
    }

abbrev pub net_3 : Run
net_3 =
    record {
      lines =
          reads (line.Call C (call.Create (codes "b" ∷ []))) 10 ∷ reads (line.Uncut C) 7 ∷ reads (line.Call C (call.Create (codes "a" ∷ []))) 10
          ∷ reads (line.Resend A) 8 ∷ reads (line.Call A (call.Write (codes "b" ∷ []) 0 (codes "c"))) 14 ∷ reads (line.Call C (call.List [])) 8
          ∷ reads (line.Repeat C msg.Claim 1) 16 ∷ reads (line.Call A (call.Rmdir (codes "e" ∷ []))) 9
          ∷ reads (line.Call C (call.Fsync (codes "a" ∷ []))) 9 ∷ reads (line.Deliver A msg.Want 3) 16
          ∷ reads (line.Call C (call.Mkdir (codes "d" ∷ []))) 9 ∷ reads (line.Call C (call.Rename (codes "b" ∷ []) (codes "b2" ∷ []))) 13
          ∷ reads (line.Call B (call.Mkdir (codes "e" ∷ []))) 9 ∷ reads (line.Call A (call.Read (codes "a" ∷ []) 1 2)) 13
          ∷ reads (line.Repeat C msg.Grant 3) 16 ∷ reads (line.Repeat A msg.Back 1) 15 ∷ reads (line.Resend B) 8
          ∷ reads (line.Call B (call.SetLen (codes "a" ∷ []) 8)) 13
          ∷ reads (line.Call A (call.Rename (codes "a" ∷ []) (codes "d" ∷ codes "a" ∷ []))) 13
          ∷ reads (line.Call A (call.Write (codes "d" ∷ codes "a" ∷ []) 4 (codes "x"))) 16
          ∷ reads (line.Call A (call.Read (codes "d" ∷ codes "a" ∷ []) 1 9)) 15
          ∷ reads (line.Call A (call.Rename (codes "d" ∷ codes "a" ∷ []) (codes "e" ∷ codes "a" ∷ []))) 15
          ∷ reads (line.Call A (call.Chown (codes "b2" ∷ []) 8)) 13 ∷ reads (line.Deliver A msg.Grant 12) 17 ∷ reads (line.Repeat C msg.Recall 11) 17
          ∷ reads (line.Call A (call.Remove (codes "b2" ∷ []))) 10 ∷ reads (line.Call B (call.Write (codes "e" ∷ codes "a" ∷ []) 2 (codes "xyx"))) 16
          ∷ reads (line.Cut C) 5 ∷ reads (line.Uncut C) 7 ∷ reads (line.Uncut C) 7 ∷ reads (line.Uncut B) 7
          ∷ reads (line.Call B (call.Remove (codes "e" ∷ codes "a" ∷ []))) 10 ∷ reads (line.Call C call.Sync) 3 ∷ reads (line.Call C call.Sync) 3
          ∷ reads (line.Call A (call.Chown (codes "a" ∷ []) 1)) 12 ∷ reads (line.Repeat A msg.Grant 14) 16 ∷ reads (line.Repeat B msg.Grant 9) 16
          ∷ reads (line.Call A (call.Write (codes "b" ∷ []) 6 (codes "xcz"))) 14 ∷ reads (line.Call A (call.Create (codes "b" ∷ []))) 10
          ∷ reads (line.Call C (call.Rename (codes "d" ∷ codes "e" ∷ codes "a" ∷ []) (codes "b" ∷ []))) 17 ∷ reads (line.Resend A) 8
          ∷ reads (line.Resend B) 8 ∷ reads (line.Resend C) 8 ∷ reads (line.Resend A) 8 ∷ reads (line.Resend B) 8 ∷ reads (line.Resend C) 8
          ∷ reads (line.Call A (call.List [])) 8 ∷ reads (line.Call B (call.List [])) 8 ∷ reads (line.Call C (call.List [])) 8
          ∷ reads (line.Call A (call.Read (codes "a" ∷ []) 0 64)) 13 ∷ reads (line.Call A (call.Read (codes "b" ∷ []) 0 64)) 13
          ∷ reads (line.Call C (call.Read (codes "d" ∷ codes "a" ∷ []) 0 64)) 15 ∷ [];
      fates = [];
      max_objects = 1024;
      shown =
          Waits 1 C (call.Create (codes "b" ∷ [])) ∷ Answered 1 C (call.Create (codes "b" ∷ [])) (answer.Reply reply.Ok) (Some 1) ∷ Nothing
          ∷ Answered 3 C (call.Create (codes "a" ∷ [])) (answer.Reply reply.Ok) (Some 2) ∷ Nothing
          ∷ Waits 5 A (call.Write (codes "b" ∷ []) 0 (codes "c")) ∷ Durable C (1 ∷ 2 ∷ [])
          ∷ Answered 5 A (call.Write (codes "b" ∷ []) 0 (codes "c")) (answer.Reply reply.Ok) (Some 1)
          ∷ Answered 6 C (call.List []) (answer.Reply (reply.Names (codes "a" ∷ codes "b" ∷ []))) None
          ∷ Answered 8 A (call.Rmdir (codes "e" ∷ [])) (answer.Reply (reply.Refused (no.NotFound 1))) None
          ∷ Answered 9 C (call.Fsync (codes "a" ∷ [])) (answer.Reply reply.Ok) None ∷ Waits 11 C (call.Mkdir (codes "d" ∷ []))
          ∷ Answered 11 C (call.Mkdir (codes "d" ∷ [])) (answer.Reply reply.Ok) (Some 3) ∷ Waits 12 C (call.Rename (codes "b" ∷ []) (codes "b2" ∷ []))
          ∷ Durable A (1 ∷ []) ∷ Answered 12 C (call.Rename (codes "b" ∷ []) (codes "b2" ∷ [])) (answer.Reply reply.Ok) (Some 4)
          ∷ Waits 13 B (call.Mkdir (codes "e" ∷ [])) ∷ Durable C (3 ∷ 4 ∷ [])
          ∷ Answered 13 B (call.Mkdir (codes "e" ∷ [])) (answer.Reply reply.Ok) (Some 1) ∷ Waits 14 A (call.Read (codes "a" ∷ []) 1 2)
          ∷ Durable B (1 ∷ []) ∷ Answered 14 A (call.Read (codes "a" ∷ []) 1 2) (answer.Reply (reply.Data [])) None
          ∷ Waits 18 B (call.SetLen (codes "a" ∷ []) 8) ∷ Answered 18 B (call.SetLen (codes "a" ∷ []) 8) (answer.Reply reply.Ok) (Some 2)
          ∷ Waits 19 A (call.Rename (codes "a" ∷ []) (codes "d" ∷ codes "a" ∷ [])) ∷ Durable B (2 ∷ [])
          ∷ Answered 19 A (call.Rename (codes "a" ∷ []) (codes "d" ∷ codes "a" ∷ [])) (answer.Reply reply.Ok) (Some 2)
          ∷ Answered 20 A (call.Write (codes "d" ∷ codes "a" ∷ []) 4 (codes "x")) (answer.Reply reply.Ok) (Some 3)
          ∷ Answered 21 A (call.Read (codes "d" ∷ codes "a" ∷ []) 1 9) (answer.Reply (reply.Data (0 ∷ 0 ∷ 0 ∷ 120 ∷ 0 ∷ 0 ∷ 0 ∷ []))) None
          ∷ Waits 22 A (call.Rename (codes "d" ∷ codes "a" ∷ []) (codes "e" ∷ codes "a" ∷ []))
          ∷ Answered 22 A (call.Rename (codes "d" ∷ codes "a" ∷ []) (codes "e" ∷ codes "a" ∷ [])) (answer.Reply reply.Ok) (Some 4)
          ∷ Waits 23 A (call.Chown (codes "b2" ∷ []) 8) ∷ Answered 23 A (call.Chown (codes "b2" ∷ []) 8) (answer.Reply reply.Ok) (Some 5)
          ∷ Answered 26 A (call.Remove (codes "b2" ∷ [])) (answer.Reply reply.Ok) (Some 6)
          ∷ Waits 27 B (call.Write (codes "e" ∷ codes "a" ∷ []) 2 (codes "xyx")) ∷ Durable A (2 ∷ 5 ∷ 6 ∷ []) ∷ Durable A (3 ∷ 4 ∷ [])
          ∷ Answered 27 B (call.Write (codes "e" ∷ codes "a" ∷ []) 2 (codes "xyx")) (answer.Reply reply.Ok) (Some 3) ∷ Nothing ∷ Nothing
          ∷ Waits 32 B (call.Remove (codes "e" ∷ codes "a" ∷ []))
          ∷ Answered 32 B (call.Remove (codes "e" ∷ codes "a" ∷ [])) (answer.Reply reply.Ok) (Some 4)
          ∷ Answered 33 C call.Sync (answer.Reply reply.Ok) None ∷ Answered 34 C call.Sync (answer.Reply reply.Ok) None
          ∷ Answered 35 A (call.Chown (codes "a" ∷ []) 1) (answer.Reply (reply.Refused (no.NotFound 1))) None
          ∷ Answered 38 A (call.Write (codes "b" ∷ []) 6 (codes "xcz")) (answer.Reply (reply.Refused (no.NotFound 1))) None
          ∷ Waits 39 A (call.Create (codes "b" ∷ [])) ∷ Answered 39 A (call.Create (codes "b" ∷ [])) (answer.Reply reply.Ok) (Some 7)
          ∷ Waits 40 C (call.Rename (codes "d" ∷ codes "e" ∷ codes "a" ∷ []) (codes "b" ∷ [])) ∷ Durable A (7 ∷ [])
          ∷ Answered 40 C (call.Rename (codes "d" ∷ codes "e" ∷ codes "a" ∷ []) (codes "b" ∷ [])) (answer.Reply (reply.Refused (no.NotFound 2))) None
          ∷ Answered 47 A (call.List []) (answer.Reply (reply.Names (codes "b" ∷ codes "d" ∷ codes "e" ∷ []))) None ∷ Waits 48 B (call.List [])
          ∷ Answered 48 B (call.List []) (answer.Reply (reply.Names (codes "b" ∷ codes "d" ∷ codes "e" ∷ []))) None
          ∷ Answered 49 C (call.List []) (answer.Reply (reply.Names (codes "b" ∷ codes "d" ∷ codes "e" ∷ []))) None
          ∷ Answered 50 A (call.Read (codes "a" ∷ []) 0 64) (answer.Reply (reply.Refused (no.NotFound 1))) None
          ∷ Answered 51 A (call.Read (codes "b" ∷ []) 0 64) (answer.Reply (reply.Data [])) None
          ∷ Answered 52 C (call.Read (codes "d" ∷ codes "a" ∷ []) 0 64) (answer.Reply (reply.Refused (no.NotFound 2))) None ∷ [];
      status = 0;
    }

abbrev pub net_4 : Run
net_4 =
    record {
      lines =
          reads (line.Call D (call.Mkdir (codes "d" ∷ []))) 9 ∷ reads (line.Call B (call.Create (codes "a" ∷ []))) 10
          ∷ reads (line.Call B (call.Write (codes "a" ∷ []) 0 (codes "abcdefgh"))) 14 ∷ reads (line.Call C (call.Mkdir (codes "e" ∷ []))) 9
          ∷ reads (line.Call C (call.Write (codes "a" ∷ []) 0 (codes "yb"))) 14 ∷ reads (line.Call C (call.Write (codes "a" ∷ []) 3 (codes "a"))) 14
          ∷ reads (line.Push C 2) 8 ∷ reads (line.Call A (call.Rename (codes "a" ∷ []) (codes "a" ∷ []))) 13 ∷ reads (line.Uncut D) 7
          ∷ reads (line.Call D (call.Write (codes "a" ∷ []) 2 (codes "a"))) 14 ∷ reads (line.Call D (call.Write (codes "a" ∷ []) 3 (codes "xx"))) 14
          ∷ reads (line.Push D 3) 8 ∷ reads (line.Resend A) 8 ∷ reads (line.Call A (call.Fsync (codes "a" ∷ []))) 9
          ∷ reads (line.Call D (call.Rename (codes "a" ∷ []) (codes "a2" ∷ []))) 13
          ∷ reads (line.Call B (call.Write (codes "a2" ∷ []) 1 (codes "bb"))) 15 ∷ reads (line.Call B (call.Write (codes "a2" ∷ []) 1 (codes "y"))) 15
          ∷ reads (line.Push B 4) 8 ∷ reads (line.Cut A) 5 ∷ reads (line.Call A (call.Stat (codes "e" ∷ codes "a" ∷ []))) 8
          ∷ reads (line.Call C (call.Write (codes "a2" ∷ []) 5 (codes "yz"))) 15
          ∷ reads (line.Call C (call.Write (codes "a2" ∷ []) 0 (codes "zb"))) 15
          ∷ reads (line.Call C (call.Write (codes "a2" ∷ []) 0 (codes "ay"))) 15 ∷ reads (line.Push C 6) 8 ∷ reads (line.Resend D) 8
          ∷ reads (line.Call A (call.Create (codes "a" ∷ []))) 10 ∷ reads (line.Drop A msg.Want 4) 13
          ∷ reads (line.Call C (call.Fsync (codes "d" ∷ []))) 9 ∷ reads (line.Push B 3) 8
          ∷ reads (line.Call D (call.Write (codes "a2" ∷ []) 3 (codes "a"))) 15 ∷ reads (line.Call A (call.Chown (codes "e" ∷ []) 4)) 12
          ∷ reads (line.Call D call.Sync) 3 ∷ reads (line.Call A (call.Stat [])) 8 ∷ reads (line.Call C (call.Create (codes "a" ∷ []))) 10
          ∷ reads (line.Call A (call.Write (codes "a2" ∷ []) 0 (codes "az"))) 15 ∷ reads (line.Call D (call.List [])) 8
          ∷ reads (line.Call D (call.Mkdir (codes "d" ∷ []))) 9 ∷ reads (line.Push C 7) 8 ∷ reads (line.Cut C) 5
          ∷ reads (line.Call B (call.Chown (codes "d" ∷ []) 5)) 12 ∷ reads (line.Uncut A) 7 ∷ reads (line.Uncut C) 7 ∷ reads (line.Resend A) 8
          ∷ reads (line.Resend B) 8 ∷ reads (line.Resend C) 8 ∷ reads (line.Resend D) 8 ∷ reads (line.Resend A) 8 ∷ reads (line.Resend B) 8
          ∷ reads (line.Resend C) 8 ∷ reads (line.Resend D) 8 ∷ reads (line.Call A (call.List [])) 8 ∷ reads (line.Call B (call.List [])) 8
          ∷ reads (line.Call C (call.List [])) 8 ∷ reads (line.Call D (call.List [])) 8 ∷ reads (line.Call A (call.Read (codes "a" ∷ []) 0 64)) 13
          ∷ reads (line.Call D (call.Read (codes "d" ∷ codes "a" ∷ []) 0 64)) 15
          ∷ reads (line.Call C (call.Read (codes "e" ∷ codes "a" ∷ []) 0 64)) 15 ∷ [];
      fates = [];
      max_objects = 1024;
      shown =
          Waits 1 D (call.Mkdir (codes "d" ∷ [])) ∷ Answered 1 D (call.Mkdir (codes "d" ∷ [])) (answer.Reply reply.Ok) (Some 1)
          ∷ Waits 2 B (call.Create (codes "a" ∷ [])) ∷ Durable D (1 ∷ [])
          ∷ Answered 2 B (call.Create (codes "a" ∷ [])) (answer.Reply reply.Ok) (Some 1)
          ∷ Answered 3 B (call.Write (codes "a" ∷ []) 0 (codes "abcdefgh")) (answer.Reply reply.Ok) (Some 2) ∷ Waits 4 C (call.Mkdir (codes "e" ∷ []))
          ∷ Durable B (1 ∷ []) ∷ Answered 4 C (call.Mkdir (codes "e" ∷ [])) (answer.Reply reply.Ok) (Some 1)
          ∷ Waits 5 C (call.Write (codes "a" ∷ []) 0 (codes "yb")) ∷ Durable B (2 ∷ [])
          ∷ Answered 5 C (call.Write (codes "a" ∷ []) 0 (codes "yb")) (answer.Reply reply.Ok) (Some 2)
          ∷ Answered 6 C (call.Write (codes "a" ∷ []) 3 (codes "a")) (answer.Reply reply.Ok) (Some 3) ∷ Durable C (2 ∷ [])
          ∷ Waits 8 A (call.Rename (codes "a" ∷ []) (codes "a" ∷ [])) ∷ Durable C (1 ∷ []) ∷ Durable C (3 ∷ [])
          ∷ Answered 8 A (call.Rename (codes "a" ∷ []) (codes "a" ∷ [])) (answer.Reply reply.Ok) None ∷ Nothing
          ∷ Waits 10 D (call.Write (codes "a" ∷ []) 2 (codes "a"))
          ∷ Answered 10 D (call.Write (codes "a" ∷ []) 2 (codes "a")) (answer.Reply reply.Ok) (Some 2)
          ∷ Answered 11 D (call.Write (codes "a" ∷ []) 3 (codes "xx")) (answer.Reply reply.Ok) (Some 3) ∷ Durable D (3 ∷ [])
          ∷ Waits 14 A (call.Fsync (codes "a" ∷ [])) ∷ Durable D (2 ∷ []) ∷ Answered 14 A (call.Fsync (codes "a" ∷ [])) (answer.Reply reply.Ok) None
          ∷ Waits 15 D (call.Rename (codes "a" ∷ []) (codes "a2" ∷ []))
          ∷ Answered 15 D (call.Rename (codes "a" ∷ []) (codes "a2" ∷ [])) (answer.Reply reply.Ok) (Some 4)
          ∷ Waits 16 B (call.Write (codes "a2" ∷ []) 1 (codes "bb")) ∷ Durable D (4 ∷ [])
          ∷ Answered 16 B (call.Write (codes "a2" ∷ []) 1 (codes "bb")) (answer.Reply reply.Ok) (Some 3)
          ∷ Answered 17 B (call.Write (codes "a2" ∷ []) 1 (codes "y")) (answer.Reply reply.Ok) (Some 4) ∷ Durable B (3 ∷ 4 ∷ [])
          ∷ Waits 20 A (call.Stat (codes "e" ∷ codes "a" ∷ [])) ∷ Waits 21 C (call.Write (codes "a2" ∷ []) 5 (codes "yz"))
          ∷ Answered 21 C (call.Write (codes "a2" ∷ []) 5 (codes "yz")) (answer.Reply reply.Ok) (Some 4)
          ∷ Answered 22 C (call.Write (codes "a2" ∷ []) 0 (codes "zb")) (answer.Reply reply.Ok) (Some 5)
          ∷ Answered 23 C (call.Write (codes "a2" ∷ []) 0 (codes "ay")) (answer.Reply reply.Ok) (Some 6) ∷ Durable C (5 ∷ 6 ∷ [])
          ∷ Waits 26 A (call.Create (codes "a" ∷ [])) ∷ Waits 28 C (call.Fsync (codes "d" ∷ []))
          ∷ Answered 28 C (call.Fsync (codes "d" ∷ [])) (answer.Reply reply.Ok) None ∷ Nothing
          ∷ Waits 30 D (call.Write (codes "a2" ∷ []) 3 (codes "a")) ∷ Durable C (4 ∷ [])
          ∷ Answered 30 D (call.Write (codes "a2" ∷ []) 3 (codes "a")) (answer.Reply reply.Ok) (Some 5) ∷ Waits 31 A (call.Chown (codes "e" ∷ []) 4)
          ∷ Waits 32 D call.Sync ∷ Durable D (5 ∷ []) ∷ Answered 32 D call.Sync (answer.Reply reply.Ok) None ∷ Waits 33 A (call.Stat [])
          ∷ Waits 34 C (call.Create (codes "a" ∷ [])) ∷ Answered 34 C (call.Create (codes "a" ∷ [])) (answer.Reply reply.Ok) (Some 7)
          ∷ Waits 35 A (call.Write (codes "a2" ∷ []) 0 (codes "az")) ∷ Waits 36 D (call.List []) ∷ Durable C (7 ∷ [])
          ∷ Answered 36 D (call.List []) (answer.Reply (reply.Names (codes "a" ∷ codes "a2" ∷ codes "d" ∷ codes "e" ∷ []))) None
          ∷ Answered 37 D (call.Mkdir (codes "d" ∷ [])) (answer.Reply (reply.Refused no.Exists)) None ∷ Nothing
          ∷ Waits 40 B (call.Chown (codes "d" ∷ []) 5) ∷ Answered 40 B (call.Chown (codes "d" ∷ []) 5) (answer.Reply reply.Ok) (Some 5)
          ∷ Answered 26 A (call.Create (codes "a" ∷ [])) (answer.Reply (reply.Refused no.Exists)) None
          ∷ Answered 33 A (call.Stat []) (answer.Reply (reply.Stat kind.Dir 493 0 0 4)) None
          ∷ Answered 20 A (call.Stat (codes "e" ∷ codes "a" ∷ [])) (answer.Reply (reply.Refused (no.NotFound 2))) None
          ∷ Answered 31 A (call.Chown (codes "e" ∷ []) 4) (answer.Reply reply.Ok) (Some 1)
          ∷ Answered 35 A (call.Write (codes "a2" ∷ []) 0 (codes "az")) (answer.Reply reply.Ok) (Some 2)
          ∷ Answered 51 A (call.List []) (answer.Reply (reply.Names (codes "a" ∷ codes "a2" ∷ codes "d" ∷ codes "e" ∷ []))) None
          ∷ Answered 52 B (call.List []) (answer.Reply (reply.Names (codes "a" ∷ codes "a2" ∷ codes "d" ∷ codes "e" ∷ []))) None
          ∷ Answered 53 C (call.List []) (answer.Reply (reply.Names (codes "a" ∷ codes "a2" ∷ codes "d" ∷ codes "e" ∷ []))) None
          ∷ Answered 54 D (call.List []) (answer.Reply (reply.Names (codes "a" ∷ codes "a2" ∷ codes "d" ∷ codes "e" ∷ []))) None
          ∷ Waits 55 A (call.Read (codes "a" ∷ []) 0 64) ∷ Answered 55 A (call.Read (codes "a" ∷ []) 0 64) (answer.Reply (reply.Data [])) None
          ∷ Waits 56 D (call.Read (codes "d" ∷ codes "a" ∷ []) 0 64) ∷ Durable B (5 ∷ [])
          ∷ Answered 56 D (call.Read (codes "d" ∷ codes "a" ∷ []) 0 64) (answer.Reply (reply.Refused (no.NotFound 2))) None
          ∷ Waits 57 C (call.Read (codes "e" ∷ codes "a" ∷ []) 0 64) ∷ Durable A (1 ∷ [])
          ∷ Answered 57 C (call.Read (codes "e" ∷ codes "a" ∷ []) 0 64) (answer.Reply (reply.Refused (no.NotFound 2))) None ∷ [];
      status = 0;
    }

abbrev pub net_5 : Run
net_5 =
    record {
      lines =
          reads (line.Call A (call.Mkdir (codes "d" ∷ []))) 9 ∷ reads (line.Call B (call.Create (codes "a" ∷ []))) 10
          ∷ reads (line.Call A (call.Remove (codes "a" ∷ []))) 10 ∷ reads (line.Call A (call.Mkdir (codes "e" ∷ []))) 9 ∷ reads (line.Resend B) 8
          ∷ reads (line.Call B (call.SetLen (codes "d" ∷ codes "a" ∷ []) 0)) 15 ∷ reads (line.Call A (call.SetLen (codes "e" ∷ codes "a" ∷ []) 8)) 15
          ∷ reads (line.Call B (call.Chmod (codes "e" ∷ codes "a" ∷ []) 493)) 14 ∷ reads (line.Resend B) 8
          ∷ reads (line.Call A (call.Read (codes "e" ∷ codes "a" ∷ []) 3 0)) 15
          ∷ reads (line.Call A (call.Write (codes "d" ∷ codes "a" ∷ []) 6 (codes "zx"))) 16 ∷ reads (line.Call B (call.Fsync (codes "e" ∷ []))) 9
          ∷ reads (line.Uncut B) 7 ∷ reads (line.Call A (call.Stat (codes "d" ∷ codes "e" ∷ codes "a" ∷ []))) 8
          ∷ reads (line.Call A (call.Create (codes "e" ∷ codes "a" ∷ []))) 10 ∷ reads (line.Uncut B) 7
          ∷ reads (line.Call B (call.Mkdir (codes "d" ∷ codes "k" ∷ []))) 9 ∷ reads (line.Call B (call.Chown [] 0)) 11
          ∷ reads (line.Call B (call.Write (codes "e" ∷ codes "a" ∷ []) 2 (codes "ca"))) 16 ∷ reads (line.Uncut B) 7
          ∷ reads (line.Call A (call.Read (codes "e" ∷ codes "a" ∷ []) 0 0)) 15 ∷ reads (line.Push B 4) 8
          ∷ reads (line.Call A (call.Create (codes "a" ∷ []))) 10 ∷ reads (line.Call B (call.Create (codes "d" ∷ codes "a" ∷ []))) 10
          ∷ reads (line.Call A (call.Fsync (codes "d" ∷ codes "k" ∷ []))) 9 ∷ reads (line.Call B (call.Create (codes "b" ∷ []))) 10
          ∷ reads (line.Call A (call.Mkdir (codes "d" ∷ codes "e" ∷ []))) 9 ∷ reads (line.Call B (call.Read (codes "a" ∷ []) 3 9)) 13
          ∷ reads (line.Call A (call.SetLen (codes "d" ∷ codes "a" ∷ []) 1)) 15 ∷ reads (line.Call A (call.Stat (codes "d" ∷ codes "k" ∷ []))) 8
          ∷ reads (line.Call B (call.Rename [] (codes "e" ∷ codes "a" ∷ []))) 12
          ∷ reads (line.Call A (call.Write (codes "d" ∷ codes "a" ∷ []) 0 (codes "azy"))) 16 ∷ reads (line.Resend A) 8
          ∷ reads (line.Call A (call.Rename (codes "e" ∷ codes "a" ∷ []) (codes "b" ∷ []))) 15 ∷ reads (line.Push A 9) 8
          ∷ reads (line.Call A (call.Write (codes "a" ∷ []) 0 (codes "z"))) 14
          ∷ reads (line.Call B (call.Rename (codes "d" ∷ codes "e" ∷ []) (codes "e" ∷ []))) 15 ∷ reads (line.Repeat A msg.Back 20) 15
          ∷ reads (line.Push A 9) 8 ∷ reads (line.Resend A) 8 ∷ reads (line.Resend A) 8 ∷ reads (line.Resend B) 8 ∷ reads (line.Resend A) 8
          ∷ reads (line.Resend B) 8 ∷ reads (line.Call A (call.List [])) 8 ∷ reads (line.Call B (call.List [])) 8
          ∷ reads (line.Call B (call.Read (codes "a" ∷ []) 0 64)) 13 ∷ reads (line.Call A (call.Read (codes "b" ∷ []) 0 64)) 13
          ∷ reads (line.Call B (call.Read (codes "d" ∷ codes "a" ∷ []) 0 64)) 15 ∷ [];
      fates = [];
      max_objects = 1024;
      shown =
          Waits 1 A (call.Mkdir (codes "d" ∷ [])) ∷ Answered 1 A (call.Mkdir (codes "d" ∷ [])) (answer.Reply reply.Ok) (Some 1)
          ∷ Waits 2 B (call.Create (codes "a" ∷ [])) ∷ Durable A (1 ∷ [])
          ∷ Answered 2 B (call.Create (codes "a" ∷ [])) (answer.Reply reply.Ok) (Some 1) ∷ Waits 3 A (call.Remove (codes "a" ∷ []))
          ∷ Durable B (1 ∷ []) ∷ Answered 3 A (call.Remove (codes "a" ∷ [])) (answer.Reply reply.Ok) (Some 2)
          ∷ Answered 4 A (call.Mkdir (codes "e" ∷ [])) (answer.Reply reply.Ok) (Some 3) ∷ Waits 6 B (call.SetLen (codes "d" ∷ codes "a" ∷ []) 0)
          ∷ Durable A (2 ∷ 3 ∷ []) ∷ Answered 6 B (call.SetLen (codes "d" ∷ codes "a" ∷ []) 0) (answer.Reply (reply.Refused (no.NotFound 2))) None
          ∷ Answered 7 A (call.SetLen (codes "e" ∷ codes "a" ∷ []) 8) (answer.Reply (reply.Refused (no.NotFound 2))) None
          ∷ Waits 8 B (call.Chmod (codes "e" ∷ codes "a" ∷ []) 493)
          ∷ Answered 8 B (call.Chmod (codes "e" ∷ codes "a" ∷ []) 493) (answer.Reply (reply.Refused (no.NotFound 2))) None
          ∷ Answered 10 A (call.Read (codes "e" ∷ codes "a" ∷ []) 3 0) (answer.Reply (reply.Refused (no.NotFound 2))) None
          ∷ Answered 11 A (call.Write (codes "d" ∷ codes "a" ∷ []) 6 (codes "zx")) (answer.Reply (reply.Refused (no.NotFound 2))) None
          ∷ Answered 12 B (call.Fsync (codes "e" ∷ [])) (answer.Reply reply.Ok) None ∷ Nothing
          ∷ Answered 14 A (call.Stat (codes "d" ∷ codes "e" ∷ codes "a" ∷ [])) (answer.Reply (reply.Refused (no.NotFound 2))) None
          ∷ Waits 15 A (call.Create (codes "e" ∷ codes "a" ∷ []))
          ∷ Answered 15 A (call.Create (codes "e" ∷ codes "a" ∷ [])) (answer.Reply reply.Ok) (Some 4) ∷ Nothing
          ∷ Waits 17 B (call.Mkdir (codes "d" ∷ codes "k" ∷ []))
          ∷ Answered 17 B (call.Mkdir (codes "d" ∷ codes "k" ∷ [])) (answer.Reply reply.Ok) (Some 2) ∷ Waits 18 B (call.Chown [] 0)
          ∷ Answered 18 B (call.Chown [] 0) (answer.Reply reply.Ok) (Some 3) ∷ Waits 19 B (call.Write (codes "e" ∷ codes "a" ∷ []) 2 (codes "ca"))
          ∷ Durable A (4 ∷ []) ∷ Answered 19 B (call.Write (codes "e" ∷ codes "a" ∷ []) 2 (codes "ca")) (answer.Reply reply.Ok) (Some 4) ∷ Nothing
          ∷ Waits 21 A (call.Read (codes "e" ∷ codes "a" ∷ []) 0 0) ∷ Durable B (3 ∷ []) ∷ Durable B (4 ∷ [])
          ∷ Answered 21 A (call.Read (codes "e" ∷ codes "a" ∷ []) 0 0) (answer.Reply (reply.Data [])) None ∷ Nothing
          ∷ Waits 23 A (call.Create (codes "a" ∷ [])) ∷ Answered 23 A (call.Create (codes "a" ∷ [])) (answer.Reply reply.Ok) (Some 5)
          ∷ Waits 24 B (call.Create (codes "d" ∷ codes "a" ∷ [])) ∷ Durable A (5 ∷ [])
          ∷ Answered 24 B (call.Create (codes "d" ∷ codes "a" ∷ [])) (answer.Reply reply.Ok) (Some 5)
          ∷ Waits 25 A (call.Fsync (codes "d" ∷ codes "k" ∷ [])) ∷ Durable B (2 ∷ 5 ∷ [])
          ∷ Answered 25 A (call.Fsync (codes "d" ∷ codes "k" ∷ [])) (answer.Reply reply.Ok) None ∷ Waits 26 B (call.Create (codes "b" ∷ []))
          ∷ Answered 26 B (call.Create (codes "b" ∷ [])) (answer.Reply reply.Ok) (Some 6) ∷ Waits 27 A (call.Mkdir (codes "d" ∷ codes "e" ∷ []))
          ∷ Durable B (6 ∷ []) ∷ Answered 27 A (call.Mkdir (codes "d" ∷ codes "e" ∷ [])) (answer.Reply reply.Ok) (Some 6)
          ∷ Waits 28 B (call.Read (codes "a" ∷ []) 3 9) ∷ Answered 28 B (call.Read (codes "a" ∷ []) 3 9) (answer.Reply (reply.Data [])) None
          ∷ Waits 29 A (call.SetLen (codes "d" ∷ codes "a" ∷ []) 1)
          ∷ Answered 29 A (call.SetLen (codes "d" ∷ codes "a" ∷ []) 1) (answer.Reply reply.Ok) (Some 7)
          ∷ Answered 30 A (call.Stat (codes "d" ∷ codes "k" ∷ [])) (answer.Reply (reply.Stat kind.Dir 493 0 0 0)) None
          ∷ Answered 31 B (call.Rename [] (codes "e" ∷ codes "a" ∷ [])) (answer.Reply (reply.Refused no.Root)) None
          ∷ Answered 32 A (call.Write (codes "d" ∷ codes "a" ∷ []) 0 (codes "azy")) (answer.Reply reply.Ok) (Some 8)
          ∷ Waits 34 A (call.Rename (codes "e" ∷ codes "a" ∷ []) (codes "b" ∷ []))
          ∷ Answered 34 A (call.Rename (codes "e" ∷ codes "a" ∷ []) (codes "b" ∷ [])) (answer.Reply reply.Ok) (Some 9) ∷ Durable A (9 ∷ [])
          ∷ Waits 36 A (call.Write (codes "a" ∷ []) 0 (codes "z"))
          ∷ Answered 36 A (call.Write (codes "a" ∷ []) 0 (codes "z")) (answer.Reply reply.Ok) (Some 10)
          ∷ Waits 37 B (call.Rename (codes "d" ∷ codes "e" ∷ []) (codes "e" ∷ [])) ∷ Durable A (6 ∷ [])
          ∷ Answered 37 B (call.Rename (codes "d" ∷ codes "e" ∷ []) (codes "e" ∷ [])) (answer.Reply reply.Ok) (Some 7) ∷ Nothing
          ∷ Waits 45 A (call.List []) ∷ Durable B (7 ∷ [])
          ∷ Answered 45 A (call.List []) (answer.Reply (reply.Names (codes "a" ∷ codes "b" ∷ codes "d" ∷ codes "e" ∷ []))) None
          ∷ Answered 46 B (call.List []) (answer.Reply (reply.Names (codes "a" ∷ codes "b" ∷ codes "d" ∷ codes "e" ∷ []))) None
          ∷ Waits 47 B (call.Read (codes "a" ∷ []) 0 64) ∷ Durable A (10 ∷ [])
          ∷ Answered 47 B (call.Read (codes "a" ∷ []) 0 64) (answer.Reply (reply.Data (codes "z"))) None
          ∷ Answered 48 A (call.Read (codes "b" ∷ []) 0 64) (answer.Reply (reply.Data (0 ∷ 0 ∷ 99 ∷ 97 ∷ []))) None
          ∷ Waits 49 B (call.Read (codes "d" ∷ codes "a" ∷ []) 0 64) ∷ Durable A (7 ∷ 8 ∷ [])
          ∷ Answered 49 B (call.Read (codes "d" ∷ codes "a" ∷ []) 0 64) (answer.Reply (reply.Data (codes "azy"))) None ∷ [];
      status = 0;
    }

abbrev pub net_6 : Run
net_6 =
    record {
      lines =
          reads (line.Call B (call.Mkdir (codes "d" ∷ []))) 9 ∷ reads (line.Call B (call.Create (codes "a" ∷ []))) 10
          ∷ reads (line.Call B (call.Write (codes "a" ∷ []) 0 (codes "abcdefgh"))) 14
          ∷ reads (line.Call A (call.Create (codes "d" ∷ codes "a" ∷ []))) 10
          ∷ reads (line.Call A (call.Write (codes "d" ∷ codes "a" ∷ []) 0 (codes "abcdefgh"))) 16
          ∷ reads (line.Call C (call.Create (codes "e" ∷ codes "a" ∷ []))) 10
          ∷ reads (line.Call C (call.Write (codes "e" ∷ codes "a" ∷ []) 0 (codes "abcdefgh"))) 16
          ∷ reads (line.Call B (call.Rmdir (codes "d" ∷ []))) 9 ∷ reads (line.Repeat B msg.Want 1) 15
          ∷ reads (line.Call A (call.Create (codes "d" ∷ codes "a" ∷ []))) 10 ∷ reads (line.Cut C) 5 ∷ reads (line.Call A (call.Forder ([] ∷ []))) 10
          ∷ reads (line.Deliver C msg.Recall 1) 18 ∷ reads (line.Call C (call.Mkdir (codes "e" ∷ []))) 9
          ∷ reads (line.Call A (call.Create (codes "e" ∷ codes "a" ∷ []))) 10
          ∷ reads (line.Call C (call.Rename (codes "d" ∷ []) (codes "d" ∷ codes "e" ∷ codes "k" ∷ []))) 13
          ∷ reads (line.Call B (call.Create (codes "e" ∷ codes "a" ∷ []))) 10 ∷ reads (line.Deliver C msg.Back 1) 16
          ∷ reads (line.Call B (call.SetLen (codes "d" ∷ codes "a" ∷ []) 2)) 15
          ∷ reads (line.Call A (call.Write (codes "d" ∷ codes "a" ∷ []) 2 (codes "azcba"))) 16
          ∷ reads (line.Call B (call.SetLen (codes "a" ∷ []) 2)) 13 ∷ reads (line.Call B (call.SetLen (codes "d" ∷ codes "a" ∷ []) 4)) 15
          ∷ reads (line.Deliver C msg.Want 2) 16 ∷ reads (line.Deliver C msg.Grant 2) 17 ∷ reads (line.Call B (call.Touch [] 6)) 11
          ∷ reads (line.Call B (call.Rename (codes "a" ∷ []) (codes "e" ∷ codes "a" ∷ []))) 13
          ∷ reads (line.Call C (call.Read (codes "a" ∷ []) 0 64)) 13 ∷ reads (line.Call A (call.Rename (codes "d" ∷ []) (codes "e" ∷ []))) 13
          ∷ reads (line.Call A (call.Write (codes "a" ∷ []) 6 (codes "cb"))) 14 ∷ reads (line.Call C (call.Read (codes "a" ∷ []) 0 9)) 13
          ∷ reads (line.Call A (call.Rename (codes "a" ∷ []) (codes "a" ∷ []))) 13 ∷ reads (line.Call A (call.Mkdir (codes "e" ∷ []))) 9
          ∷ reads (line.Call C (call.Write (codes "d" ∷ codes "a" ∷ []) 0 (codes "cbcac"))) 16
          ∷ reads (line.Call A (call.Write (codes "d" ∷ codes "a" ∷ []) 4 (codes "z"))) 16
          ∷ reads (line.Call B (call.Write (codes "a" ∷ []) 3 (codes "bb"))) 14 ∷ reads (line.Call B (call.Write (codes "a" ∷ []) 2 (codes "xx"))) 14
          ∷ reads (line.Call B (call.Mkdir (codes "e" ∷ []))) 9 ∷ reads (line.Call A (call.Chmod (codes "e" ∷ codes "a" ∷ []) 4095)) 14
          ∷ reads (line.Call A (call.Fsync (codes "d" ∷ []))) 9 ∷ reads (line.Call B (call.Touch (codes "d" ∷ codes "a" ∷ []) 1)) 14 ∷ [];
      fates = [];
      max_objects = 1024;
      shown =
          Waits 1 B (call.Mkdir (codes "d" ∷ [])) ∷ Answered 1 B (call.Mkdir (codes "d" ∷ [])) (answer.Reply reply.Ok) (Some 1)
          ∷ Answered 2 B (call.Create (codes "a" ∷ [])) (answer.Reply reply.Ok) (Some 2)
          ∷ Answered 3 B (call.Write (codes "a" ∷ []) 0 (codes "abcdefgh")) (answer.Reply reply.Ok) (Some 3)
          ∷ Waits 4 A (call.Create (codes "d" ∷ codes "a" ∷ [])) ∷ Durable B (1 ∷ 2 ∷ [])
          ∷ Answered 4 A (call.Create (codes "d" ∷ codes "a" ∷ [])) (answer.Reply reply.Ok) (Some 1)
          ∷ Answered 5 A (call.Write (codes "d" ∷ codes "a" ∷ []) 0 (codes "abcdefgh")) (answer.Reply reply.Ok) (Some 2)
          ∷ Waits 6 C (call.Create (codes "e" ∷ codes "a" ∷ []))
          ∷ Answered 6 C (call.Create (codes "e" ∷ codes "a" ∷ [])) (answer.Reply (reply.Refused (no.NotFound 1))) None
          ∷ Answered 7 C (call.Write (codes "e" ∷ codes "a" ∷ []) 0 (codes "abcdefgh")) (answer.Reply (reply.Refused (no.NotFound 1))) None
          ∷ Waits 8 B (call.Rmdir (codes "d" ∷ [])) ∷ Durable A (1 ∷ [])
          ∷ Answered 8 B (call.Rmdir (codes "d" ∷ [])) (answer.Reply (reply.Refused no.NotEmpty)) None
          ∷ Answered 10 A (call.Create (codes "d" ∷ codes "a" ∷ [])) (answer.Reply (reply.Refused no.Exists)) None
          ∷ Waits 12 A (call.Forder ([] ∷ [])) ∷ Waits 14 C (call.Mkdir (codes "e" ∷ []))
          ∷ Answered 15 A (call.Create (codes "e" ∷ codes "a" ∷ [])) (answer.Reply (reply.Refused (no.NotFound 1))) None
          ∷ Waits 16 C (call.Rename (codes "d" ∷ []) (codes "d" ∷ codes "e" ∷ codes "k" ∷ [])) ∷ Waits 17 B (call.Create (codes "e" ∷ codes "a" ∷ []))
          ∷ Answered 17 B (call.Create (codes "e" ∷ codes "a" ∷ [])) (answer.Reply (reply.Refused (no.NotFound 1))) None
          ∷ Answered 12 A (call.Forder ([] ∷ [])) (answer.Reply reply.Ok) (Some 3) ∷ Waits 19 B (call.SetLen (codes "d" ∷ codes "a" ∷ []) 2)
          ∷ Durable A (3 ∷ []) ∷ Durable A (2 ∷ []) ∷ Answered 19 B (call.SetLen (codes "d" ∷ codes "a" ∷ []) 2) (answer.Reply reply.Ok) (Some 4)
          ∷ Waits 20 A (call.Write (codes "d" ∷ codes "a" ∷ []) 2 (codes "azcba")) ∷ Durable B (4 ∷ [])
          ∷ Answered 20 A (call.Write (codes "d" ∷ codes "a" ∷ []) 2 (codes "azcba")) (answer.Reply reply.Ok) (Some 4)
          ∷ Answered 21 B (call.SetLen (codes "a" ∷ []) 2) (answer.Reply reply.Ok) (Some 5) ∷ Waits 22 B (call.SetLen (codes "d" ∷ codes "a" ∷ []) 4)
          ∷ Durable A (4 ∷ []) ∷ Answered 22 B (call.SetLen (codes "d" ∷ codes "a" ∷ []) 4) (answer.Reply reply.Ok) (Some 6)
          ∷ Waits 25 B (call.Touch [] 6)
          ∷ Answered 26 B (call.Rename (codes "a" ∷ []) (codes "e" ∷ codes "a" ∷ [])) (answer.Reply (reply.Refused (no.NotFound 1))) None
          ∷ Waits 27 C (call.Read (codes "a" ∷ []) 0 64) ∷ Waits 28 A (call.Rename (codes "d" ∷ []) (codes "e" ∷ []))
          ∷ Waits 29 A (call.Write (codes "a" ∷ []) 6 (codes "cb")) ∷ Waits 30 C (call.Read (codes "a" ∷ []) 0 9)
          ∷ Waits 31 A (call.Rename (codes "a" ∷ []) (codes "a" ∷ [])) ∷ Waits 32 A (call.Mkdir (codes "e" ∷ []))
          ∷ Waits 33 C (call.Write (codes "d" ∷ codes "a" ∷ []) 0 (codes "cbcac"))
          ∷ Waits 34 A (call.Write (codes "d" ∷ codes "a" ∷ []) 4 (codes "z")) ∷ Waits 35 B (call.Write (codes "a" ∷ []) 3 (codes "bb"))
          ∷ Waits 36 B (call.Write (codes "a" ∷ []) 2 (codes "xx")) ∷ Waits 37 B (call.Mkdir (codes "e" ∷ []))
          ∷ Waits 38 A (call.Chmod (codes "e" ∷ codes "a" ∷ []) 4095) ∷ Waits 39 A (call.Fsync (codes "d" ∷ []))
          ∷ Waits 40 B (call.Touch (codes "d" ∷ codes "a" ∷ []) 1) ∷ [];
      status = 0;
    }

abbrev pub net_7 : Run
net_7 =
    record {
      lines =
          reads (line.Call C (call.Mkdir (codes "d" ∷ []))) 9 ∷ reads (line.Call A (call.Create (codes "a" ∷ []))) 10
          ∷ reads (line.Call A (call.Create (codes "b" ∷ []))) 10 ∷ reads (line.Call B (call.Create (codes "d" ∷ codes "a" ∷ []))) 10
          ∷ reads (line.Call A call.Sync) 3 ∷ reads (line.Call B call.Sync) 3 ∷ reads (line.Call C call.Sync) 3 ∷ reads (line.Call D call.Sync) 3
          ∷ reads (line.Resend C) 8 ∷ reads (line.Call A (call.Write (codes "b" ∷ []) 0 (codes "byb"))) 14
          ∷ reads (line.Call C (call.Forder ([] ∷ (codes "a" ∷ []) ∷ (codes "a" ∷ []) ∷ []))) 15
          ∷ reads (line.Call B (call.Rename (codes "d" ∷ []) (codes "d" ∷ []))) 13 ∷ reads (line.Repeat C msg.Want 6) 15
          ∷ reads (line.Call C (call.Read (codes "b" ∷ []) 0 9)) 13 ∷ reads (line.Call A (call.Write (codes "d" ∷ codes "a" ∷ []) 4 (codes "cb"))) 16
          ∷ reads (line.Call C (call.Mkdir (codes "d" ∷ codes "e" ∷ []))) 9 ∷ reads (line.Call B (call.Write (codes "b" ∷ []) 1 (codes "zzb"))) 14
          ∷ reads (line.Call C (call.Create (codes "d" ∷ codes "b" ∷ []))) 10 ∷ reads (line.Call C (call.Read (codes "d" ∷ codes "b" ∷ []) 0 64)) 15
          ∷ reads (line.Call A (call.Mkdir (codes "e" ∷ []))) 9 ∷ reads (line.Call D (call.Write (codes "a" ∷ []) 0 (codes "yacxa"))) 14
          ∷ reads (line.Call C (call.Chown (codes "d" ∷ []) 4)) 12 ∷ reads (line.Call D (call.Create (codes "e" ∷ codes "a" ∷ []))) 10
          ∷ reads (line.Call C (call.Create (codes "d" ∷ codes "e" ∷ codes "a" ∷ []))) 10 ∷ reads (line.Push B 1) 8
          ∷ reads (line.Call D (call.Write (codes "d" ∷ codes "b" ∷ []) 1 (codes "bx"))) 16 ∷ reads (line.Call D (call.Rmdir (codes "e" ∷ []))) 9
          ∷ reads (line.Call A (call.Rename (codes "b" ∷ []) (codes "b" ∷ []))) 13
          ∷ reads (line.Call D (call.Create (codes "d" ∷ codes "e" ∷ codes "a" ∷ []))) 10 ∷ reads (line.Cut A) 5
          ∷ reads (line.Call A (call.List (codes "e" ∷ []))) 8 ∷ reads (line.Drop A msg.Want 9) 13 ∷ reads (line.Call A (call.Fsync [])) 9
          ∷ reads (line.Push A 5) 8 ∷ reads (line.Cut A) 5 ∷ reads (line.Call A (call.Create (codes "d" ∷ codes "a" ∷ []))) 10
          ∷ reads (line.Call B (call.Create (codes "d" ∷ codes "b" ∷ []))) 10 ∷ reads (line.Deliver A msg.Want 10) 16
          ∷ reads (line.Call B (call.Mkdir (codes "d" ∷ codes "k" ∷ []))) 9 ∷ reads (line.Call C (call.Chmod (codes "d" ∷ codes "e" ∷ []) 384)) 14
          ∷ reads (line.Uncut A) 7 ∷ reads (line.Resend A) 8 ∷ reads (line.Resend B) 8 ∷ reads (line.Resend C) 8 ∷ reads (line.Resend D) 8
          ∷ reads (line.Resend A) 8 ∷ reads (line.Resend B) 8 ∷ reads (line.Resend C) 8 ∷ reads (line.Resend D) 8
          ∷ reads (line.Call A (call.List [])) 8 ∷ reads (line.Call B (call.List [])) 8 ∷ reads (line.Call C (call.List [])) 8
          ∷ reads (line.Call D (call.List [])) 8 ∷ reads (line.Call B (call.Read (codes "a" ∷ []) 0 64)) 13
          ∷ reads (line.Call C (call.Read (codes "b" ∷ []) 0 64)) 13 ∷ reads (line.Call D (call.Read (codes "d" ∷ codes "a" ∷ []) 0 64)) 15
          ∷ reads (line.Call A call.Sync) 3 ∷ reads (line.Call B call.Sync) 3 ∷ reads (line.Call C call.Sync) 3 ∷ reads (line.Call D call.Sync) 3 ∷ [];
      fates = [];
      max_objects = 1024;
      shown =
          Waits 1 C (call.Mkdir (codes "d" ∷ [])) ∷ Answered 1 C (call.Mkdir (codes "d" ∷ [])) (answer.Reply reply.Ok) (Some 1)
          ∷ Waits 2 A (call.Create (codes "a" ∷ [])) ∷ Durable C (1 ∷ [])
          ∷ Answered 2 A (call.Create (codes "a" ∷ [])) (answer.Reply reply.Ok) (Some 1)
          ∷ Answered 3 A (call.Create (codes "b" ∷ [])) (answer.Reply reply.Ok) (Some 2) ∷ Waits 4 B (call.Create (codes "d" ∷ codes "a" ∷ []))
          ∷ Durable A (1 ∷ 2 ∷ []) ∷ Answered 4 B (call.Create (codes "d" ∷ codes "a" ∷ [])) (answer.Reply reply.Ok) (Some 1)
          ∷ Answered 5 A call.Sync (answer.Reply reply.Ok) None ∷ Waits 6 B call.Sync ∷ Durable B (1 ∷ [])
          ∷ Answered 6 B call.Sync (answer.Reply reply.Ok) None ∷ Answered 7 C call.Sync (answer.Reply reply.Ok) None
          ∷ Answered 8 D call.Sync (answer.Reply reply.Ok) None
          ∷ Answered 10 A (call.Write (codes "b" ∷ []) 0 (codes "byb")) (answer.Reply reply.Ok) (Some 3)
          ∷ Waits 11 C (call.Forder ([] ∷ (codes "a" ∷ []) ∷ (codes "a" ∷ []) ∷ []))
          ∷ Answered 11 C (call.Forder ([] ∷ (codes "a" ∷ []) ∷ (codes "a" ∷ []) ∷ [])) (answer.Reply reply.Ok) (Some 2)
          ∷ Waits 12 B (call.Rename (codes "d" ∷ []) (codes "d" ∷ [])) ∷ Durable C (2 ∷ [])
          ∷ Answered 12 B (call.Rename (codes "d" ∷ []) (codes "d" ∷ [])) (answer.Reply reply.Ok) None ∷ Waits 14 C (call.Read (codes "b" ∷ []) 0 9)
          ∷ Durable A (3 ∷ []) ∷ Answered 14 C (call.Read (codes "b" ∷ []) 0 9) (answer.Reply (reply.Data (codes "byb"))) None
          ∷ Waits 15 A (call.Write (codes "d" ∷ codes "a" ∷ []) 4 (codes "cb"))
          ∷ Answered 15 A (call.Write (codes "d" ∷ codes "a" ∷ []) 4 (codes "cb")) (answer.Reply reply.Ok) (Some 4)
          ∷ Waits 16 C (call.Mkdir (codes "d" ∷ codes "e" ∷ []))
          ∷ Answered 16 C (call.Mkdir (codes "d" ∷ codes "e" ∷ [])) (answer.Reply reply.Ok) (Some 3)
          ∷ Waits 17 B (call.Write (codes "b" ∷ []) 1 (codes "zzb"))
          ∷ Answered 17 B (call.Write (codes "b" ∷ []) 1 (codes "zzb")) (answer.Reply reply.Ok) (Some 2)
          ∷ Answered 18 C (call.Create (codes "d" ∷ codes "b" ∷ [])) (answer.Reply reply.Ok) (Some 4)
          ∷ Answered 19 C (call.Read (codes "d" ∷ codes "b" ∷ []) 0 64) (answer.Reply (reply.Data [])) None ∷ Waits 20 A (call.Mkdir (codes "e" ∷ []))
          ∷ Answered 20 A (call.Mkdir (codes "e" ∷ [])) (answer.Reply reply.Ok) (Some 5) ∷ Waits 21 D (call.Write (codes "a" ∷ []) 0 (codes "yacxa"))
          ∷ Durable A (5 ∷ []) ∷ Answered 21 D (call.Write (codes "a" ∷ []) 0 (codes "yacxa")) (answer.Reply reply.Ok) (Some 1)
          ∷ Waits 22 C (call.Chown (codes "d" ∷ []) 4) ∷ Answered 22 C (call.Chown (codes "d" ∷ []) 4) (answer.Reply reply.Ok) (Some 5)
          ∷ Waits 23 D (call.Create (codes "e" ∷ codes "a" ∷ []))
          ∷ Answered 23 D (call.Create (codes "e" ∷ codes "a" ∷ [])) (answer.Reply reply.Ok) (Some 2)
          ∷ Answered 24 C (call.Create (codes "d" ∷ codes "e" ∷ codes "a" ∷ [])) (answer.Reply reply.Ok) (Some 6) ∷ Nothing
          ∷ Waits 26 D (call.Write (codes "d" ∷ codes "b" ∷ []) 1 (codes "bx")) ∷ Durable C (3 ∷ 4 ∷ 5 ∷ [])
          ∷ Answered 26 D (call.Write (codes "d" ∷ codes "b" ∷ []) 1 (codes "bx")) (answer.Reply reply.Ok) (Some 3)
          ∷ Answered 27 D (call.Rmdir (codes "e" ∷ [])) (answer.Reply (reply.Refused no.NotEmpty)) None
          ∷ Waits 28 A (call.Rename (codes "b" ∷ []) (codes "b" ∷ [])) ∷ Durable B (2 ∷ [])
          ∷ Answered 28 A (call.Rename (codes "b" ∷ []) (codes "b" ∷ [])) (answer.Reply reply.Ok) None
          ∷ Waits 29 D (call.Create (codes "d" ∷ codes "e" ∷ codes "a" ∷ [])) ∷ Durable C (6 ∷ [])
          ∷ Answered 29 D (call.Create (codes "d" ∷ codes "e" ∷ codes "a" ∷ [])) (answer.Reply (reply.Refused no.Exists)) None
          ∷ Waits 31 A (call.List (codes "e" ∷ [])) ∷ Answered 33 A (call.Fsync []) (answer.Reply reply.Ok) None ∷ Nothing ∷ Nothing
          ∷ Waits 36 A (call.Create (codes "d" ∷ codes "a" ∷ [])) ∷ Waits 37 B (call.Create (codes "d" ∷ codes "b" ∷ []))
          ∷ Answered 37 B (call.Create (codes "d" ∷ codes "b" ∷ [])) (answer.Reply (reply.Refused no.Exists)) None
          ∷ Waits 39 B (call.Mkdir (codes "d" ∷ codes "k" ∷ [])) ∷ Waits 40 C (call.Chmod (codes "d" ∷ codes "e" ∷ []) 384)
          ∷ Answered 40 C (call.Chmod (codes "d" ∷ codes "e" ∷ []) 384) (answer.Reply reply.Ok) (Some 7)
          ∷ Answered 36 A (call.Create (codes "d" ∷ codes "a" ∷ [])) (answer.Reply (reply.Refused no.Exists)) None
          ∷ Answered 39 B (call.Mkdir (codes "d" ∷ codes "k" ∷ [])) (answer.Reply reply.Ok) (Some 3) ∷ Durable D (2 ∷ [])
          ∷ Answered 31 A (call.List (codes "e" ∷ [])) (answer.Reply (reply.Names (codes "a" ∷ []))) None
          ∷ Answered 50 A (call.List []) (answer.Reply (reply.Names (codes "a" ∷ codes "b" ∷ codes "d" ∷ codes "e" ∷ []))) None
          ∷ Answered 51 B (call.List []) (answer.Reply (reply.Names (codes "a" ∷ codes "b" ∷ codes "d" ∷ codes "e" ∷ []))) None
          ∷ Answered 52 C (call.List []) (answer.Reply (reply.Names (codes "a" ∷ codes "b" ∷ codes "d" ∷ codes "e" ∷ []))) None
          ∷ Answered 53 D (call.List []) (answer.Reply (reply.Names (codes "a" ∷ codes "b" ∷ codes "d" ∷ codes "e" ∷ []))) None
          ∷ Waits 54 B (call.Read (codes "a" ∷ []) 0 64) ∷ Durable D (1 ∷ [])
          ∷ Answered 54 B (call.Read (codes "a" ∷ []) 0 64) (answer.Reply (reply.Data (codes "yacxa"))) None
          ∷ Waits 55 C (call.Read (codes "b" ∷ []) 0 64)
          ∷ Answered 55 C (call.Read (codes "b" ∷ []) 0 64) (answer.Reply (reply.Data (codes "bzzb"))) None
          ∷ Waits 56 D (call.Read (codes "d" ∷ codes "a" ∷ []) 0 64) ∷ Durable B (3 ∷ []) ∷ Durable A (4 ∷ [])
          ∷ Answered 56 D (call.Read (codes "d" ∷ codes "a" ∷ []) 0 64) (answer.Reply (reply.Data (0 ∷ 0 ∷ 0 ∷ 0 ∷ 99 ∷ 98 ∷ []))) None
          ∷ Answered 57 A call.Sync (answer.Reply reply.Ok) None ∷ Answered 58 B call.Sync (answer.Reply reply.Ok) None ∷ Waits 59 C call.Sync
          ∷ Durable C (7 ∷ []) ∷ Answered 59 C call.Sync (answer.Reply reply.Ok) None ∷ Waits 60 D call.Sync ∷ Durable D (3 ∷ [])
          ∷ Answered 60 D call.Sync (answer.Reply reply.Ok) None ∷ [];
      status = 0;
    }
