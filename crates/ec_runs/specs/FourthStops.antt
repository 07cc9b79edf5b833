-- Random scripts with stops of the server.
use Rattle.std.specs.Prelude.{[], ◌∷◌, None, Some, codes}
use Rattle.ec_volume.specs.declared.image.Kind.TheVariants as kind
use Rattle.ec_plain.specs.declared.call.Call.TheVariants as call
use Rattle.ec_plain.specs.declared.call.Reply.TheVariants as reply
use Rattle.ec_plain.specs.declared.call.Refusal.TheVariants as no
use Rattle.ec_history.specs.declared.entry.Answer.TheVariants as answer
use Rattle.ec_history.specs.declared.shown.Shown.TheVariants.{Waits, Answered, Durable, Ended, Told, Crashed, Stopped, Started, Nothing}
use Rattle.ec_disk.specs.declared.disk.Choice.TheVariants as choice
use Rattle.ec_wire.specs.declared.msg.MsgKind.TheVariants as msg
use Rattle.ec_protocol.specs.declared.script.Line.TheVariants as line
use Rattle.ec_protocol.specs.World.{runs, stops_without, stops_with}
use Rattle.ec_protocol.specs.Drill.{reads}
use Rattle.ec_protocol.specs.Runs.{Run, A, B, C, D, O}

abbrev pub stop_22 : Run
stop_22 =
    record {
      lines =
          reads (line.Call A (call.Mkdir (codes "d" ∷ []))) 9
          ∷ reads (line.Call A (call.Create (codes "a" ∷ []))) 10
          ∷ reads (line.Call B (call.Create (codes "d" ∷ codes "a" ∷ []))) 10
          ∷ reads (line.Call B (call.Create (codes "e" ∷ codes "a" ∷ []))) 10
          ∷ reads (line.Cut A) 5
          ∷ reads (line.Call B (call.Fsync [])) 9
          ∷ reads line.Restart 1
          ∷ reads (line.End A) 5
          ∷ reads (line.Call B (call.Create (codes "d" ∷ codes "a" ∷ []))) 10
          ∷ reads (line.Uncut A) 7
          ∷ reads (line.Call A call.Sync) 3
          ∷ reads (line.Call A (call.Stat (codes "a2" ∷ []))) 8
          ∷ reads (line.Call A (call.List [])) 8
          ∷ reads (line.Repeat A msg.Back 1) 15
          ∷ reads (line.Arm 3 choice.Old) 7
          ∷ reads (line.Call B (call.Chown [] 4)) 11
          ∷ reads (line.Call A (call.Mkdir (codes "e" ∷ []))) 9
          ∷ reads (line.Call B (call.Write (codes "d" ∷ codes "a" ∷ []) 0 (codes "cx"))) 16
          ∷ reads (line.Call A (call.Fsync [])) 9
          ∷ reads (line.Push B 1) 8
          ∷ reads (line.Call A (call.Remove (codes "d" ∷ codes "a" ∷ []))) 10
          ∷ reads (line.Cut B) 5
          ∷ reads (line.Push B 2) 8
          ∷ reads (line.Deliver B msg.Flush 2) 17
          ∷ reads (line.End B) 5
          ∷ reads (line.Call A (call.Rmdir (codes "d" ∷ []))) 9
          ∷ reads (line.Uncut B) 7
          ∷ reads (line.Call B (call.List [])) 8
          ∷ reads (line.Call B (call.Read (codes "d" ∷ codes "a" ∷ []) 0 9)) 15
          ∷ reads (line.Call B (call.Stat (codes "d" ∷ codes "a2" ∷ []))) 8
          ∷ reads (line.Arm 1 choice.Old) 7
          ∷ reads (line.Call B (call.Read (codes "d" ∷ codes "a" ∷ []) 0 9)) 15
          ∷ reads (line.Cut A) 5
          ∷ reads (line.Call A (call.Touch (codes "d" ∷ codes "a" ∷ []) 3)) 14
          ∷ reads (line.End A) 5
          ∷ reads (line.Call B (call.Create (codes "a" ∷ []))) 10
          ∷ reads (line.Uncut A) 7
          ∷ reads (line.Call A (call.List [])) 8
          ∷ reads (line.Call A (call.Read (codes "d" ∷ codes "a" ∷ []) 0 9)) 15
          ∷ reads (line.Call A (call.Stat (codes "d" ∷ codes "a2" ∷ []))) 8
          ∷ reads line.Restart 1
          ∷ reads (line.Call A (call.Create (codes "a" ∷ []))) 10
          ∷ reads (line.Call B (call.Write (codes "a" ∷ []) 0 (codes "czxcb"))) 14
          ∷ reads (line.Call B (call.Rename (codes "d" ∷ []) (codes "e" ∷ []))) 13
          ∷ reads (line.Push A 1) 8
          ∷ reads (line.Call A (call.Rename (codes "a" ∷ []) (codes "a2" ∷ []))) 13
          ∷ reads (line.Call B (call.Write (codes "d" ∷ codes "a" ∷ []) 1 (codes "z"))) 16
          ∷ reads (line.Call B (call.Read (codes "d" ∷ codes "a" ∷ []) 1 9)) 15
          ∷ reads (line.Call A (call.Write (codes "d" ∷ codes "a" ∷ []) 3 (codes "yzayc"))) 16
          ∷ reads (line.Call B (call.Touch (codes "d" ∷ []) 3)) 12
          ∷ reads (line.Call B (call.Write (codes "d" ∷ codes "a" ∷ []) 0 (codes "ayxbx"))) 16
          ∷ reads (line.Call B (call.Read (codes "a" ∷ []) 1 64)) 13
          ∷ reads (line.Call A (call.Rename (codes "d" ∷ []) (codes "d" ∷ codes "z" ∷ []))) 13
          ∷ reads (line.Call A (call.SetLen (codes "d" ∷ codes "a" ∷ []) 8)) 15
          ∷ reads (line.Call A (call.Chown (codes "d" ∷ codes "a" ∷ []) 8)) 14
          ∷ reads (line.Call B (call.Rename (codes "e" ∷ []) (codes "e2" ∷ []))) 13
          ∷ reads (line.Uncut A) 7
          ∷ reads (line.Call B (call.Mkdir (codes "e" ∷ []))) 9
          ∷ reads (line.Push B 1) 8
          ∷ reads line.Stop 1
          ∷ reads line.Restart 1
          ∷ reads (line.Resend A) 8
          ∷ reads (line.Resend B) 8
          ∷ reads (line.Resend A) 8
          ∷ reads (line.Resend B) 8
          ∷ reads (line.Call A (call.List [])) 8
          ∷ reads (line.Call B (call.List [])) 8
          ∷ reads (line.Call B (call.Read (codes "a" ∷ []) 0 64)) 13
          ∷ reads (line.Call A (call.Read (codes "d" ∷ codes "a" ∷ []) 0 64)) 15
          ∷ reads (line.Call B (call.Read (codes "e" ∷ codes "a" ∷ []) 0 64)) 15
          ∷ [];
      fates = ([] ∷ [] ∷ [] ∷ [] ∷ [] ∷ [] ∷ [] ∷ [] ∷ [] ∷ [] ∷ [] ∷ [] ∷ [] ∷ [] ∷ [] ∷ [] ∷ (runs ∷ runs ∷ runs ∷ stops_without ∷ []) ∷ [] ∷ [] ∷ [] ∷ [] ∷ [] ∷ [] ∷ [] ∷ [] ∷ [] ∷ [] ∷ [] ∷ [] ∷ [] ∷ [] ∷ [] ∷ [] ∷ [] ∷ [] ∷ [] ∷ [] ∷ [] ∷ [] ∷ [] ∷ (stops_without ∷ []) ∷ []);
      max_objects = 1024;
      shown =
          Waits 1 A (call.Mkdir (codes "d" ∷ []))
          ∷ Answered 1 A (call.Mkdir (codes "d" ∷ [])) (answer.Reply reply.Ok) (Some 1)
          ∷ Answered 2 A (call.Create (codes "a" ∷ [])) (answer.Reply reply.Ok) (Some 2)
          ∷ Waits 3 B (call.Create (codes "d" ∷ codes "a" ∷ []))
          ∷ Durable A (1 ∷ 2 ∷ [])
          ∷ Answered 3 B (call.Create (codes "d" ∷ codes "a" ∷ [])) (answer.Reply reply.Ok) (Some 1)
          ∷ Answered 4 B (call.Create (codes "e" ∷ codes "a" ∷ [])) (answer.Reply (reply.Refused (no.NotFound 1))) None
          ∷ Answered 6 B (call.Fsync []) (answer.Reply reply.Ok) None
          ∷ Nothing
          ∷ Ended A []
          ∷ Answered 9 B (call.Create (codes "d" ∷ codes "a" ∷ [])) (answer.Reply (reply.Refused no.Exists)) None
          ∷ Told A []
          ∷ Answered 11 A call.Sync (answer.Reply reply.Ok) None
          ∷ Waits 12 A (call.Stat (codes "a2" ∷ []))
          ∷ Answered 12 A (call.Stat (codes "a2" ∷ [])) (answer.Reply (reply.Refused (no.NotFound 1))) None
          ∷ Answered 13 A (call.List []) (answer.Reply (reply.Names (codes "a" ∷ codes "d" ∷ []))) None
          ∷ Waits 16 B (call.Chown [] 4)
          ∷ Answered 16 B (call.Chown [] 4) (answer.Reply reply.Ok) (Some 2)
          ∷ Waits 17 A (call.Mkdir (codes "e" ∷ []))
          ∷ Stopped
          ∷ Answered 18 B (call.Write (codes "d" ∷ codes "a" ∷ []) 0 (codes "cx")) (answer.Reply reply.Ok) (Some 3)
          ∷ Waits 19 A (call.Fsync [])
          ∷ Waits 21 A (call.Remove (codes "d" ∷ codes "a" ∷ []))
          ∷ Nothing
          ∷ Nothing
          ∷ Waits 26 A (call.Rmdir (codes "d" ∷ []))
          ∷ Answered 28 B (call.List []) (answer.Reply (reply.Names (codes "a" ∷ codes "d" ∷ []))) None
          ∷ Answered 29 B (call.Read (codes "d" ∷ codes "a" ∷ []) 0 9) (answer.Reply (reply.Data (codes "cx"))) None
          ∷ Answered 30 B (call.Stat (codes "d" ∷ codes "a2" ∷ [])) (answer.Reply (reply.Refused (no.NotFound 2))) None
          ∷ Answered 32 B (call.Read (codes "d" ∷ codes "a" ∷ []) 0 9) (answer.Reply (reply.Data (codes "cx"))) None
          ∷ Waits 34 A (call.Touch (codes "d" ∷ codes "a" ∷ []) 3)
          ∷ Nothing
          ∷ Answered 36 B (call.Create (codes "a" ∷ [])) (answer.Reply (reply.Refused no.Exists)) None
          ∷ Waits 38 A (call.List [])
          ∷ Waits 39 A (call.Read (codes "d" ∷ codes "a" ∷ []) 0 9)
          ∷ Waits 40 A (call.Stat (codes "d" ∷ codes "a2" ∷ []))
          ∷ Stopped
          ∷ Waits 42 A (call.Create (codes "a" ∷ []))
          ∷ Waits 43 B (call.Write (codes "a" ∷ []) 0 (codes "czxcb"))
          ∷ Waits 44 B (call.Rename (codes "d" ∷ []) (codes "e" ∷ []))
          ∷ Nothing
          ∷ Waits 46 A (call.Rename (codes "a" ∷ []) (codes "a2" ∷ []))
          ∷ Answered 47 B (call.Write (codes "d" ∷ codes "a" ∷ []) 1 (codes "z")) (answer.Reply reply.Ok) (Some 4)
          ∷ Answered 48 B (call.Read (codes "d" ∷ codes "a" ∷ []) 1 9) (answer.Reply (reply.Data (codes "z"))) None
          ∷ Waits 49 A (call.Write (codes "d" ∷ codes "a" ∷ []) 3 (codes "yzayc"))
          ∷ Answered 50 B (call.Touch (codes "d" ∷ []) 3) (answer.Reply reply.Ok) (Some 5)
          ∷ Answered 51 B (call.Write (codes "d" ∷ codes "a" ∷ []) 0 (codes "ayxbx")) (answer.Reply reply.Ok) (Some 6)
          ∷ Waits 52 B (call.Read (codes "a" ∷ []) 1 64)
          ∷ Waits 53 A (call.Rename (codes "d" ∷ []) (codes "d" ∷ codes "z" ∷ []))
          ∷ Waits 54 A (call.SetLen (codes "d" ∷ codes "a" ∷ []) 8)
          ∷ Waits 55 A (call.Chown (codes "d" ∷ codes "a" ∷ []) 8)
          ∷ Answered 56 B (call.Rename (codes "e" ∷ []) (codes "e2" ∷ [])) (answer.Reply (reply.Refused (no.NotFound 1))) None
          ∷ Nothing
          ∷ Waits 58 B (call.Mkdir (codes "e" ∷ []))
          ∷ Nothing
          ∷ Started
          ∷ Answered 44 B (call.Rename (codes "d" ∷ []) (codes "e" ∷ [])) (answer.Reply reply.Ok) (Some 7)
          ∷ Answered 58 B (call.Mkdir (codes "e" ∷ [])) (answer.Reply (reply.Refused no.Exists)) None
          ∷ Durable B (2 ∷ [])
          ∷ Durable B (1 ∷ [])
          ∷ Answered 52 B (call.Read (codes "a" ∷ []) 1 64) (answer.Reply (reply.Data [])) None
          ∷ Durable B (5 ∷ 7 ∷ [])
          ∷ Answered 43 B (call.Write (codes "a" ∷ []) 0 (codes "czxcb")) (answer.Reply reply.Ok) (Some 8)
          ∷ Answered 17 A (call.Mkdir (codes "e" ∷ [])) (answer.Reply (reply.Refused no.Exists)) None
          ∷ Answered 19 A (call.Fsync []) (answer.Reply reply.Ok) None
          ∷ Answered 21 A (call.Remove (codes "d" ∷ codes "a" ∷ [])) (answer.Reply (reply.Refused (no.NotFound 1))) None
          ∷ Answered 26 A (call.Rmdir (codes "d" ∷ [])) (answer.Reply (reply.Refused (no.NotFound 1))) None
          ∷ Answered 34 A (call.Touch (codes "d" ∷ codes "a" ∷ []) 3) (answer.Reply (reply.Refused (no.NotFound 1))) None
          ∷ Answered 38 A (call.List []) (answer.Reply (reply.Names (codes "a" ∷ codes "e" ∷ []))) None
          ∷ Answered 39 A (call.Read (codes "d" ∷ codes "a" ∷ []) 0 9) (answer.Reply (reply.Refused (no.NotFound 1))) None
          ∷ Answered 40 A (call.Stat (codes "d" ∷ codes "a2" ∷ [])) (answer.Reply (reply.Refused (no.NotFound 1))) None
          ∷ Answered 42 A (call.Create (codes "a" ∷ [])) (answer.Reply (reply.Refused no.Exists)) None
          ∷ Answered 49 A (call.Write (codes "d" ∷ codes "a" ∷ []) 3 (codes "yzayc")) (answer.Reply (reply.Refused (no.NotFound 1))) None
          ∷ Answered 53 A (call.Rename (codes "d" ∷ []) (codes "d" ∷ codes "z" ∷ [])) (answer.Reply (reply.Refused (no.NotFound 1))) None
          ∷ Answered 54 A (call.SetLen (codes "d" ∷ codes "a" ∷ []) 8) (answer.Reply (reply.Refused (no.NotFound 1))) None
          ∷ Answered 55 A (call.Chown (codes "d" ∷ codes "a" ∷ []) 8) (answer.Reply (reply.Refused (no.NotFound 1))) None
          ∷ Durable B (8 ∷ [])
          ∷ Answered 46 A (call.Rename (codes "a" ∷ []) (codes "a2" ∷ [])) (answer.Reply reply.Ok) (Some 3)
          ∷ Answered 66 A (call.List []) (answer.Reply (reply.Names (codes "a2" ∷ codes "e" ∷ []))) None
          ∷ Waits 67 B (call.List [])
          ∷ Durable A (3 ∷ [])
          ∷ Answered 67 B (call.List []) (answer.Reply (reply.Names (codes "a2" ∷ codes "e" ∷ []))) None
          ∷ Answered 68 B (call.Read (codes "a" ∷ []) 0 64) (answer.Reply (reply.Refused (no.NotFound 1))) None
          ∷ Answered 69 A (call.Read (codes "d" ∷ codes "a" ∷ []) 0 64) (answer.Reply (reply.Refused (no.NotFound 1))) None
          ∷ Answered 70 B (call.Read (codes "e" ∷ codes "a" ∷ []) 0 64) (answer.Reply (reply.Data (codes "ayxbx"))) None
          ∷ [];
      status = 0;
    }

abbrev pub stop_23 : Run
stop_23 =
    record {
      lines =
          reads (line.Cut B) 5
          ∷ reads (line.Call B call.Sync) 3
          ∷ reads (line.Call C (call.Create (codes "b" ∷ []))) 10
          ∷ reads (line.Call C (call.Rename (codes "b" ∷ []) (codes "a" ∷ []))) 13
          ∷ reads (line.End A) 5
          ∷ reads (line.Call C (call.Forder ([] ∷ []))) 10
          ∷ reads (line.Call A (call.Forder ((codes "a" ∷ []) ∷ []))) 10
          ∷ reads (line.Call A (call.Forder ((codes "e" ∷ []) ∷ (codes "d" ∷ codes "k" ∷ []) ∷ (codes "a" ∷ []) ∷ []))) 18
          ∷ reads (line.Arm 3 choice.New) 7
          ∷ reads (line.Call C (call.Rmdir (codes "d" ∷ codes "k" ∷ []))) 9
          ∷ reads (line.Deliver B msg.Hello 1) 17
          ∷ reads (line.Call B (call.Stat (codes "a" ∷ []))) 8
          ∷ reads (line.Call A (call.Read (codes "a" ∷ []) 1 9)) 13
          ∷ reads line.Restart 1
          ∷ reads (line.Call A (call.Create (codes "b" ∷ []))) 10
          ∷ reads (line.Resend C) 8
          ∷ reads (line.Call C (call.Mkdir (codes "d" ∷ []))) 9
          ∷ reads (line.Call C (call.Create (codes "b" ∷ []))) 10
          ∷ reads (line.Cut B) 5
          ∷ reads (line.Push A 1) 8
          ∷ reads (line.Call C (call.Chown (codes "a" ∷ []) 4)) 12
          ∷ reads (line.Repeat O msg.Restarted 1) 20
          ∷ reads (line.Call B (call.Stat [])) 8
          ∷ reads (line.Call B (call.Chown (codes "a" ∷ []) 2)) 12
          ∷ reads (line.Arm 5 choice.Torn) 7
          ∷ reads (line.Call B (call.Forder ((codes "a" ∷ []) ∷ (codes "a" ∷ []) ∷ []))) 13
          ∷ reads (line.Call B (call.Touch (codes "a" ∷ []) 3)) 12
          ∷ reads (line.End B) 5
          ∷ reads (line.Push A 1) 8
          ∷ reads (line.Uncut B) 7
          ∷ reads (line.Call B (call.List [])) 8
          ∷ reads (line.Call B call.Sync) 3
          ∷ reads (line.Call B (call.Read (codes "a" ∷ []) 0 9)) 13
          ∷ reads (line.Cut C) 5
          ∷ reads (line.Call C (call.Forder ((codes "b" ∷ []) ∷ [] ∷ []))) 13
          ∷ reads (line.Call A (call.Stat (codes "a" ∷ []))) 8
          ∷ reads line.Restart 1
          ∷ reads (line.Call B (call.Read (codes "a" ∷ []) 0 2)) 13
          ∷ reads (line.Call B (call.Create (codes "b" ∷ []))) 10
          ∷ reads (line.Push A 1) 8
          ∷ reads (line.Call C (call.Forder ((codes "a" ∷ []) ∷ []))) 10
          ∷ reads (line.Call B (call.Create (codes "e" ∷ codes "a" ∷ []))) 10
          ∷ reads (line.Call C (call.Touch (codes "a" ∷ []) 3)) 12
          ∷ reads (line.End C) 5
          ∷ reads (line.Uncut C) 7
          ∷ reads (line.Call C (call.Read (codes "a" ∷ []) 0 9)) 13
          ∷ reads (line.Call C call.Sync) 3
          ∷ reads (line.Call C (call.Stat (codes "a2" ∷ []))) 8
          ∷ reads (line.Call C (call.Write (codes "b" ∷ []) 3 (codes "bcc"))) 14
          ∷ reads (line.Call A (call.Read (codes "a" ∷ []) 0 9)) 13
          ∷ reads (line.Call B (call.Remove (codes "a" ∷ []))) 10
          ∷ reads (line.Call A (call.List [])) 8
          ∷ reads (line.Call B (call.Write (codes "b" ∷ []) 0 (codes "zc"))) 14
          ∷ reads (line.Call B (call.Write (codes "b" ∷ []) 1 (codes "ac"))) 14
          ∷ reads (line.Call B (call.Write (codes "b" ∷ []) 1 (codes "xy"))) 14
          ∷ reads (line.End A) 5
          ∷ reads (line.Repeat B msg.Opened 6) 17
          ∷ reads (line.Call C (call.Read (codes "b" ∷ []) 3 64)) 13
          ∷ reads (line.Uncut A) 7
          ∷ reads (line.Call C (call.Write (codes "d" ∷ codes "b" ∷ []) 0 (codes "x"))) 16
          ∷ reads (line.Call C (call.Write (codes "d" ∷ codes "b" ∷ []) 3 (codes "xz"))) 16
          ∷ reads (line.Call C (call.Write (codes "d" ∷ codes "b" ∷ []) 5 (codes "yc"))) 16
          ∷ reads (line.Push C 9) 8
          ∷ reads (line.Resend A) 8
          ∷ reads (line.Resend B) 8
          ∷ reads (line.Resend C) 8
          ∷ reads (line.Resend A) 8
          ∷ reads (line.Resend B) 8
          ∷ reads (line.Resend C) 8
          ∷ reads (line.Call A (call.List [])) 8
          ∷ reads (line.Call B (call.List [])) 8
          ∷ reads (line.Call C (call.List [])) 8
          ∷ reads (line.Call B (call.Read (codes "a" ∷ []) 0 64)) 13
          ∷ reads (line.Call A (call.Read (codes "b" ∷ []) 0 64)) 13
          ∷ reads (line.Call B (call.Read (codes "d" ∷ codes "a" ∷ []) 0 64)) 15
          ∷ reads (line.Call A call.Sync) 3
          ∷ reads (line.Call B call.Sync) 3
          ∷ reads (line.Call C call.Sync) 3
          ∷ [];
      fates = ([] ∷ [] ∷ [] ∷ [] ∷ [] ∷ [] ∷ [] ∷ [] ∷ [] ∷ [] ∷ (stops_with ∷ []) ∷ [] ∷ [] ∷ [] ∷ [] ∷ [] ∷ [] ∷ [] ∷ [] ∷ [] ∷ [] ∷ [] ∷ [] ∷ [] ∷ [] ∷ [] ∷ [] ∷ (runs ∷ runs ∷ runs ∷ runs ∷ runs ∷ runs ∷ runs ∷ runs ∷ runs ∷ runs ∷ runs ∷ runs ∷ runs ∷ runs ∷ stops_without ∷ []) ∷ []);
      max_objects = 1024;
      shown =
          Answered 2 B call.Sync (answer.Reply reply.Ok) None
          ∷ Waits 3 C (call.Create (codes "b" ∷ []))
          ∷ Answered 3 C (call.Create (codes "b" ∷ [])) (answer.Reply reply.Ok) (Some 1)
          ∷ Answered 4 C (call.Rename (codes "b" ∷ []) (codes "a" ∷ [])) (answer.Reply reply.Ok) (Some 2)
          ∷ Nothing
          ∷ Answered 6 C (call.Forder ([] ∷ [])) (answer.Reply reply.Ok) (Some 3)
          ∷ Waits 7 A (call.Forder ((codes "a" ∷ []) ∷ []))
          ∷ Durable C (1 ∷ 2 ∷ 3 ∷ [])
          ∷ Answered 7 A (call.Forder ((codes "a" ∷ []) ∷ [])) (answer.Reply reply.Ok) (Some 1)
          ∷ Answered 8 A (call.Forder ((codes "e" ∷ []) ∷ (codes "d" ∷ codes "k" ∷ []) ∷ (codes "a" ∷ []) ∷ [])) (answer.Reply (reply.Refused (no.NotFound 1))) None
          ∷ Answered 10 C (call.Rmdir (codes "d" ∷ codes "k" ∷ [])) (answer.Reply (reply.Refused (no.NotFound 1))) None
          ∷ Stopped
          ∷ Waits 12 B (call.Stat (codes "a" ∷ []))
          ∷ Answered 13 A (call.Read (codes "a" ∷ []) 1 9) (answer.Reply (reply.Data [])) None
          ∷ Started
          ∷ Waits 15 A (call.Create (codes "b" ∷ []))
          ∷ Waits 17 C (call.Mkdir (codes "d" ∷ []))
          ∷ Waits 18 C (call.Create (codes "b" ∷ []))
          ∷ Nothing
          ∷ Durable A (1 ∷ [])
          ∷ Waits 21 C (call.Chown (codes "a" ∷ []) 4)
          ∷ Waits 23 B (call.Stat [])
          ∷ Waits 24 B (call.Chown (codes "a" ∷ []) 2)
          ∷ Waits 26 B (call.Forder ((codes "a" ∷ []) ∷ (codes "a" ∷ []) ∷ []))
          ∷ Waits 27 B (call.Touch (codes "a" ∷ []) 3)
          ∷ Ended B []
          ∷ Stopped
          ∷ Nothing
          ∷ Waits 31 B (call.List [])
          ∷ Answered 32 B call.Sync (answer.Reply reply.Ok) None
          ∷ Waits 33 B (call.Read (codes "a" ∷ []) 0 9)
          ∷ Waits 35 C (call.Forder ((codes "b" ∷ []) ∷ [] ∷ []))
          ∷ Waits 36 A (call.Stat (codes "a" ∷ []))
          ∷ Started
          ∷ Told B []
          ∷ Waits 38 B (call.Read (codes "a" ∷ []) 0 2)
          ∷ Waits 39 B (call.Create (codes "b" ∷ []))
          ∷ Nothing
          ∷ Waits 41 C (call.Forder ((codes "a" ∷ []) ∷ []))
          ∷ Waits 42 B (call.Create (codes "e" ∷ codes "a" ∷ []))
          ∷ Waits 43 C (call.Touch (codes "a" ∷ []) 3)
          ∷ Ended C []
          ∷ Answered 36 A (call.Stat (codes "a" ∷ [])) (answer.Reply (reply.Stat kind.File 420 0 0 0)) None
          ∷ Answered 23 B (call.Stat []) (answer.Reply (reply.Stat kind.Dir 493 0 0 1)) None
          ∷ Answered 31 B (call.List []) (answer.Reply (reply.Names (codes "a" ∷ []))) None
          ∷ Answered 42 B (call.Create (codes "e" ∷ codes "a" ∷ [])) (answer.Reply (reply.Refused (no.NotFound 1))) None
          ∷ Answered 15 A (call.Create (codes "b" ∷ [])) (answer.Reply reply.Ok) (Some 2)
          ∷ Durable A (2 ∷ [])
          ∷ Answered 12 B (call.Stat (codes "a" ∷ [])) (answer.Reply (reply.Stat kind.File 420 0 0 0)) None
          ∷ Answered 33 B (call.Read (codes "a" ∷ []) 0 9) (answer.Reply (reply.Data [])) None
          ∷ Answered 38 B (call.Read (codes "a" ∷ []) 0 2) (answer.Reply (reply.Data [])) None
          ∷ Answered 39 B (call.Create (codes "b" ∷ [])) (answer.Reply (reply.Refused no.Exists)) None
          ∷ Answered 24 B (call.Chown (codes "a" ∷ []) 2) (answer.Reply reply.Ok) (Some 1)
          ∷ Answered 26 B (call.Forder ((codes "a" ∷ []) ∷ (codes "a" ∷ []) ∷ [])) (answer.Reply reply.Ok) (Some 2)
          ∷ Answered 27 B (call.Touch (codes "a" ∷ []) 3) (answer.Reply reply.Ok) (Some 3)
          ∷ Told C []
          ∷ Answered 18 C (call.Create (codes "b" ∷ [])) (answer.Reply (reply.Refused no.Exists)) None
          ∷ Durable B (1 ∷ 2 ∷ 3 ∷ [])
          ∷ Answered 17 C (call.Mkdir (codes "d" ∷ [])) (answer.Reply reply.Ok) (Some 4)
          ∷ Answered 35 C (call.Forder ((codes "b" ∷ []) ∷ [] ∷ [])) (answer.Reply reply.Ok) (Some 5)
          ∷ Answered 21 C (call.Chown (codes "a" ∷ []) 4) (answer.Reply reply.Ok) (Some 6)
          ∷ Answered 41 C (call.Forder ((codes "a" ∷ []) ∷ [])) (answer.Reply reply.Ok) (Some 7)
          ∷ Answered 43 C (call.Touch (codes "a" ∷ []) 3) (answer.Reply reply.Ok) (Some 8)
          ∷ Answered 46 C (call.Read (codes "a" ∷ []) 0 9) (answer.Reply (reply.Data [])) None
          ∷ Waits 47 C call.Sync
          ∷ Durable C (4 ∷ 5 ∷ 6 ∷ 7 ∷ 8 ∷ [])
          ∷ Answered 47 C call.Sync (answer.Reply reply.Ok) None
          ∷ Answered 48 C (call.Stat (codes "a2" ∷ [])) (answer.Reply (reply.Refused (no.NotFound 1))) None
          ∷ Answered 49 C (call.Write (codes "b" ∷ []) 3 (codes "bcc")) (answer.Reply reply.Ok) (Some 9)
          ∷ Waits 50 A (call.Read (codes "a" ∷ []) 0 9)
          ∷ Answered 50 A (call.Read (codes "a" ∷ []) 0 9) (answer.Reply (reply.Data [])) None
          ∷ Waits 51 B (call.Remove (codes "a" ∷ []))
          ∷ Answered 51 B (call.Remove (codes "a" ∷ [])) (answer.Reply reply.Ok) (Some 4)
          ∷ Waits 52 A (call.List [])
          ∷ Durable B (4 ∷ [])
          ∷ Answered 52 A (call.List []) (answer.Reply (reply.Names (codes "b" ∷ codes "d" ∷ []))) None
          ∷ Waits 53 B (call.Write (codes "b" ∷ []) 0 (codes "zc"))
          ∷ Durable C (9 ∷ [])
          ∷ Answered 53 B (call.Write (codes "b" ∷ []) 0 (codes "zc")) (answer.Reply reply.Ok) (Some 5)
          ∷ Answered 54 B (call.Write (codes "b" ∷ []) 1 (codes "ac")) (answer.Reply reply.Ok) (Some 6)
          ∷ Answered 55 B (call.Write (codes "b" ∷ []) 1 (codes "xy")) (answer.Reply reply.Ok) (Some 7)
          ∷ Ended A []
          ∷ Told A []
          ∷ Waits 58 C (call.Read (codes "b" ∷ []) 3 64)
          ∷ Durable B (5 ∷ 6 ∷ 7 ∷ [])
          ∷ Answered 58 C (call.Read (codes "b" ∷ []) 3 64) (answer.Reply (reply.Data (codes "bcc"))) None
          ∷ Nothing
          ∷ Answered 60 C (call.Write (codes "d" ∷ codes "b" ∷ []) 0 (codes "x")) (answer.Reply (reply.Refused (no.NotFound 2))) None
          ∷ Answered 61 C (call.Write (codes "d" ∷ codes "b" ∷ []) 3 (codes "xz")) (answer.Reply (reply.Refused (no.NotFound 2))) None
          ∷ Answered 62 C (call.Write (codes "d" ∷ codes "b" ∷ []) 5 (codes "yc")) (answer.Reply (reply.Refused (no.NotFound 2))) None
          ∷ Nothing
          ∷ Waits 70 A (call.List [])
          ∷ Answered 70 A (call.List []) (answer.Reply (reply.Names (codes "b" ∷ codes "d" ∷ []))) None
          ∷ Answered 71 B (call.List []) (answer.Reply (reply.Names (codes "b" ∷ codes "d" ∷ []))) None
          ∷ Answered 72 C (call.List []) (answer.Reply (reply.Names (codes "b" ∷ codes "d" ∷ []))) None
          ∷ Answered 73 B (call.Read (codes "a" ∷ []) 0 64) (answer.Reply (reply.Refused (no.NotFound 1))) None
          ∷ Waits 74 A (call.Read (codes "b" ∷ []) 0 64)
          ∷ Answered 74 A (call.Read (codes "b" ∷ []) 0 64) (answer.Reply (reply.Data (codes "zxybcc"))) None
          ∷ Waits 75 B (call.Read (codes "d" ∷ codes "a" ∷ []) 0 64)
          ∷ Answered 75 B (call.Read (codes "d" ∷ codes "a" ∷ []) 0 64) (answer.Reply (reply.Refused (no.NotFound 2))) None
          ∷ Answered 76 A call.Sync (answer.Reply reply.Ok) None
          ∷ Answered 77 B call.Sync (answer.Reply reply.Ok) None
          ∷ Answered 78 C call.Sync (answer.Reply reply.Ok) None
          ∷ [];
      status = 0;
    }

abbrev pub stop_24 : Run
stop_24 =
    record {
      lines =
          reads (line.Call A (call.Mkdir (codes "d" ∷ []))) 9
          ∷ reads (line.Call A (call.Create (codes "a" ∷ []))) 10
          ∷ reads (line.Call A (call.Write (codes "a" ∷ []) 0 (codes "abcdefgh"))) 14
          ∷ reads (line.Call C (call.Create (codes "b" ∷ []))) 10
          ∷ reads (line.Call C (call.Write (codes "b" ∷ []) 0 (codes "abcdefgh"))) 14
          ∷ reads (line.Call C (call.Create (codes "d" ∷ codes "b" ∷ []))) 10
          ∷ reads (line.Uncut B) 7
          ∷ reads (line.Call B (call.Rename (codes "a" ∷ []) (codes "d" ∷ codes "b" ∷ []))) 13
          ∷ reads (line.Call A (call.Write (codes "d" ∷ codes "b" ∷ []) 1 (codes "cz"))) 16
          ∷ reads (line.Call C (call.List (codes "d" ∷ []))) 8
          ∷ reads (line.Call B call.Sync) 3
          ∷ reads (line.Call D (call.SetLen (codes "b" ∷ []) 0)) 13
          ∷ reads (line.Call C (call.Stat [])) 8
          ∷ reads (line.Call D (call.Create (codes "d" ∷ codes "a" ∷ []))) 10
          ∷ reads (line.Call B (call.Write (codes "d" ∷ codes "b" ∷ []) 1 (codes "xc"))) 16
          ∷ reads (line.Call B (call.Write (codes "d" ∷ codes "b" ∷ []) 4 (codes "z"))) 16
          ∷ reads (line.Call D (call.Write (codes "d" ∷ codes "a" ∷ []) 2 (codes "yb"))) 16
          ∷ reads (line.Call A (call.List (codes "d" ∷ []))) 8
          ∷ reads (line.Call A (call.Write (codes "b" ∷ []) 1 (codes "za"))) 14
          ∷ reads (line.Call A (call.Remove (codes "b" ∷ []))) 10
          ∷ reads (line.Call B (call.Stat [])) 8
          ∷ reads (line.Cut C) 5
          ∷ reads (line.Push A 6) 8
          ∷ reads (line.Call A (call.Rename (codes "d" ∷ codes "a" ∷ []) (codes "d" ∷ codes "b" ∷ []))) 15
          ∷ reads (line.Call A (call.Read (codes "d" ∷ codes "b" ∷ []) 1 9)) 15
          ∷ reads (line.Call D (call.Write (codes "d" ∷ codes "b" ∷ []) 4 (codes "a"))) 16
          ∷ reads (line.Call D (call.Write (codes "d" ∷ codes "b" ∷ []) 5 (codes "b"))) 16
          ∷ reads (line.Call D (call.Rmdir (codes "d" ∷ []))) 9
          ∷ reads (line.Push C 1) 8
          ∷ reads (line.Call C (call.Create (codes "d" ∷ codes "b" ∷ []))) 10
          ∷ reads (line.Call D (call.Stat (codes "d" ∷ []))) 8
          ∷ reads (line.Call A (call.Mkdir (codes "d" ∷ codes "k" ∷ []))) 9
          ∷ reads (line.Call D (call.Create (codes "b" ∷ []))) 10
          ∷ reads (line.Call A (call.Write (codes "d" ∷ codes "b" ∷ []) 5 (codes "c"))) 16
          ∷ reads (line.Call A (call.Write (codes "d" ∷ codes "b" ∷ []) 3 (codes "yb"))) 16
          ∷ reads (line.Call A (call.Write (codes "d" ∷ codes "b" ∷ []) 5 (codes "yb"))) 16
          ∷ reads (line.Push A 11) 8
          ∷ reads line.Restart 1
          ∷ reads (line.Call A (call.Stat (codes "d" ∷ codes "b" ∷ []))) 8
          ∷ reads (line.End D) 5
          ∷ reads (line.Call A (call.Write (codes "b" ∷ []) 5 (codes "c"))) 14
          ∷ reads (line.Call A (call.Write (codes "b" ∷ []) 0 (codes "z"))) 14
          ∷ reads (line.Call A (call.Write (codes "b" ∷ []) 1 (codes "b"))) 14
          ∷ reads (line.Push A 14) 8
          ∷ reads (line.Call B (call.Create (codes "a" ∷ []))) 10
          ∷ reads (line.Call C (call.Remove (codes "d" ∷ codes "b" ∷ []))) 10
          ∷ reads line.Stop 1
          ∷ reads (line.Call B (call.Mkdir (codes "d" ∷ codes "e" ∷ []))) 9
          ∷ reads (line.Deliver B msg.Want 15) 16
          ∷ reads (line.Uncut C) 7
          ∷ reads (line.Call B (call.Stat [])) 8
          ∷ reads (line.Call B (call.Create (codes "d" ∷ codes "a" ∷ []))) 10
          ∷ reads (line.Call A (call.Fsync (codes "a" ∷ []))) 9
          ∷ reads (line.Call D (call.Chown (codes "d" ∷ codes "b" ∷ []) 0)) 14
          ∷ reads (line.Call C (call.Remove (codes "d" ∷ codes "b" ∷ []))) 10
          ∷ reads (line.Push B 2) 8
          ∷ reads (line.Call C (call.Rmdir (codes "d" ∷ codes "e" ∷ []))) 9
          ∷ reads (line.Call A (call.Rename (codes "a" ∷ []) (codes "d" ∷ codes "b" ∷ []))) 13
          ∷ reads (line.Push D 5) 8
          ∷ reads (line.Call B (call.Write (codes "b" ∷ []) 6 (codes "b"))) 14
          ∷ [];
      fates = [];
      max_objects = 1024;
      shown =
          Waits 1 A (call.Mkdir (codes "d" ∷ []))
          ∷ Answered 1 A (call.Mkdir (codes "d" ∷ [])) (answer.Reply reply.Ok) (Some 1)
          ∷ Answered 2 A (call.Create (codes "a" ∷ [])) (answer.Reply reply.Ok) (Some 2)
          ∷ Answered 3 A (call.Write (codes "a" ∷ []) 0 (codes "abcdefgh")) (answer.Reply reply.Ok) (Some 3)
          ∷ Waits 4 C (call.Create (codes "b" ∷ []))
          ∷ Durable A (1 ∷ 2 ∷ [])
          ∷ Answered 4 C (call.Create (codes "b" ∷ [])) (answer.Reply reply.Ok) (Some 1)
          ∷ Answered 5 C (call.Write (codes "b" ∷ []) 0 (codes "abcdefgh")) (answer.Reply reply.Ok) (Some 2)
          ∷ Waits 6 C (call.Create (codes "d" ∷ codes "b" ∷ []))
          ∷ Answered 6 C (call.Create (codes "d" ∷ codes "b" ∷ [])) (answer.Reply reply.Ok) (Some 3)
          ∷ Nothing
          ∷ Waits 8 B (call.Rename (codes "a" ∷ []) (codes "d" ∷ codes "b" ∷ []))
          ∷ Durable C (1 ∷ [])
          ∷ Durable A (3 ∷ [])
          ∷ Durable C (3 ∷ [])
          ∷ Answered 8 B (call.Rename (codes "a" ∷ []) (codes "d" ∷ codes "b" ∷ [])) (answer.Reply reply.Ok) (Some 1)
          ∷ Waits 9 A (call.Write (codes "d" ∷ codes "b" ∷ []) 1 (codes "cz"))
          ∷ Durable B (1 ∷ [])
          ∷ Answered 9 A (call.Write (codes "d" ∷ codes "b" ∷ []) 1 (codes "cz")) (answer.Reply reply.Ok) (Some 4)
          ∷ Waits 10 C (call.List (codes "d" ∷ []))
          ∷ Answered 10 C (call.List (codes "d" ∷ [])) (answer.Reply (reply.Names (codes "b" ∷ []))) None
          ∷ Answered 11 B call.Sync (answer.Reply reply.Ok) None
          ∷ Waits 12 D (call.SetLen (codes "b" ∷ []) 0)
          ∷ Durable C (2 ∷ [])
          ∷ Answered 12 D (call.SetLen (codes "b" ∷ []) 0) (answer.Reply reply.Ok) (Some 1)
          ∷ Answered 13 C (call.Stat []) (answer.Reply (reply.Stat kind.Dir 493 0 0 2)) None
          ∷ Waits 14 D (call.Create (codes "d" ∷ codes "a" ∷ []))
          ∷ Answered 14 D (call.Create (codes "d" ∷ codes "a" ∷ [])) (answer.Reply reply.Ok) (Some 2)
          ∷ Waits 15 B (call.Write (codes "d" ∷ codes "b" ∷ []) 1 (codes "xc"))
          ∷ Durable D (2 ∷ [])
          ∷ Durable A (4 ∷ [])
          ∷ Answered 15 B (call.Write (codes "d" ∷ codes "b" ∷ []) 1 (codes "xc")) (answer.Reply reply.Ok) (Some 2)
          ∷ Answered 16 B (call.Write (codes "d" ∷ codes "b" ∷ []) 4 (codes "z")) (answer.Reply reply.Ok) (Some 3)
          ∷ Answered 17 D (call.Write (codes "d" ∷ codes "a" ∷ []) 2 (codes "yb")) (answer.Reply reply.Ok) (Some 3)
          ∷ Waits 18 A (call.List (codes "d" ∷ []))
          ∷ Answered 18 A (call.List (codes "d" ∷ [])) (answer.Reply (reply.Names (codes "a" ∷ codes "b" ∷ []))) None
          ∷ Waits 19 A (call.Write (codes "b" ∷ []) 1 (codes "za"))
          ∷ Durable D (1 ∷ [])
          ∷ Answered 19 A (call.Write (codes "b" ∷ []) 1 (codes "za")) (answer.Reply reply.Ok) (Some 5)
          ∷ Waits 20 A (call.Remove (codes "b" ∷ []))
          ∷ Answered 20 A (call.Remove (codes "b" ∷ [])) (answer.Reply reply.Ok) (Some 6)
          ∷ Waits 21 B (call.Stat [])
          ∷ Durable A (5 ∷ 6 ∷ [])
          ∷ Answered 21 B (call.Stat []) (answer.Reply (reply.Stat kind.Dir 493 0 0 1)) None
          ∷ Nothing
          ∷ Waits 24 A (call.Rename (codes "d" ∷ codes "a" ∷ []) (codes "d" ∷ codes "b" ∷ []))
          ∷ Durable D (3 ∷ [])
          ∷ Durable B (2 ∷ 3 ∷ [])
          ∷ Answered 24 A (call.Rename (codes "d" ∷ codes "a" ∷ []) (codes "d" ∷ codes "b" ∷ [])) (answer.Reply reply.Ok) (Some 7)
          ∷ Answered 25 A (call.Read (codes "d" ∷ codes "b" ∷ []) 1 9) (answer.Reply (reply.Data (0 ∷ 121 ∷ 98 ∷ []))) None
          ∷ Waits 26 D (call.Write (codes "d" ∷ codes "b" ∷ []) 4 (codes "a"))
          ∷ Durable A (7 ∷ [])
          ∷ Answered 26 D (call.Write (codes "d" ∷ codes "b" ∷ []) 4 (codes "a")) (answer.Reply reply.Ok) (Some 4)
          ∷ Answered 27 D (call.Write (codes "d" ∷ codes "b" ∷ []) 5 (codes "b")) (answer.Reply reply.Ok) (Some 5)
          ∷ Answered 28 D (call.Rmdir (codes "d" ∷ [])) (answer.Reply (reply.Refused no.NotEmpty)) None
          ∷ Nothing
          ∷ Waits 30 C (call.Create (codes "d" ∷ codes "b" ∷ []))
          ∷ Answered 31 D (call.Stat (codes "d" ∷ [])) (answer.Reply (reply.Stat kind.Dir 493 0 0 1)) None
          ∷ Waits 32 A (call.Mkdir (codes "d" ∷ codes "k" ∷ []))
          ∷ Answered 32 A (call.Mkdir (codes "d" ∷ codes "k" ∷ [])) (answer.Reply reply.Ok) (Some 8)
          ∷ Waits 33 D (call.Create (codes "b" ∷ []))
          ∷ Answered 33 D (call.Create (codes "b" ∷ [])) (answer.Reply reply.Ok) (Some 6)
          ∷ Waits 34 A (call.Write (codes "d" ∷ codes "b" ∷ []) 5 (codes "c"))
          ∷ Durable D (6 ∷ [])
          ∷ Durable D (4 ∷ 5 ∷ [])
          ∷ Answered 34 A (call.Write (codes "d" ∷ codes "b" ∷ []) 5 (codes "c")) (answer.Reply reply.Ok) (Some 9)
          ∷ Answered 35 A (call.Write (codes "d" ∷ codes "b" ∷ []) 3 (codes "yb")) (answer.Reply reply.Ok) (Some 10)
          ∷ Answered 36 A (call.Write (codes "d" ∷ codes "b" ∷ []) 5 (codes "yb")) (answer.Reply reply.Ok) (Some 11)
          ∷ Durable A (9 ∷ 10 ∷ 11 ∷ [])
          ∷ Nothing
          ∷ Answered 39 A (call.Stat (codes "d" ∷ codes "b" ∷ [])) (answer.Reply (reply.Stat kind.File 420 0 0 7)) None
          ∷ Ended D []
          ∷ Told D []
          ∷ Waits 41 A (call.Write (codes "b" ∷ []) 5 (codes "c"))
          ∷ Answered 41 A (call.Write (codes "b" ∷ []) 5 (codes "c")) (answer.Reply reply.Ok) (Some 12)
          ∷ Answered 42 A (call.Write (codes "b" ∷ []) 0 (codes "z")) (answer.Reply reply.Ok) (Some 13)
          ∷ Answered 43 A (call.Write (codes "b" ∷ []) 1 (codes "b")) (answer.Reply reply.Ok) (Some 14)
          ∷ Durable A (12 ∷ 14 ∷ [])
          ∷ Waits 45 B (call.Create (codes "a" ∷ []))
          ∷ Answered 45 B (call.Create (codes "a" ∷ [])) (answer.Reply reply.Ok) (Some 4)
          ∷ Waits 46 C (call.Remove (codes "d" ∷ codes "b" ∷ []))
          ∷ Stopped
          ∷ Waits 48 B (call.Mkdir (codes "d" ∷ codes "e" ∷ []))
          ∷ Nothing
          ∷ Answered 51 B (call.Stat []) (answer.Reply (reply.Stat kind.Dir 493 0 0 3)) None
          ∷ Waits 52 B (call.Create (codes "d" ∷ codes "a" ∷ []))
          ∷ Waits 53 A (call.Fsync (codes "a" ∷ []))
          ∷ Waits 54 D (call.Chown (codes "d" ∷ codes "b" ∷ []) 0)
          ∷ Waits 55 C (call.Remove (codes "d" ∷ codes "b" ∷ []))
          ∷ Nothing
          ∷ Waits 57 C (call.Rmdir (codes "d" ∷ codes "e" ∷ []))
          ∷ Waits 58 A (call.Rename (codes "a" ∷ []) (codes "d" ∷ codes "b" ∷ []))
          ∷ Nothing
          ∷ Waits 60 B (call.Write (codes "b" ∷ []) 6 (codes "b"))
          ∷ Started
          ∷ [];
      status = 0;
    }
