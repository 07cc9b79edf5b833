-- Random scripts with leases, and lost, repeated and late messages.
use Rattle.std.specs.Prelude.{[], ◌∷◌, None, Some, codes}
use Rattle.ec_volume.specs.declared.image.Kind.TheVariants as kind
use Rattle.ec_plain.specs.declared.call.Call.TheVariants as call
use Rattle.ec_plain.specs.declared.call.Reply.TheVariants as reply
use Rattle.ec_plain.specs.declared.call.Refusal.TheVariants as no
use Rattle.ec_history.specs.declared.entry.Answer.TheVariants as answer
use Rattle.ec_history.specs.declared.shown.Shown.TheVariants.{Waits, Answered, Durable, Ended, Told, Nothing}
use Rattle.ec_wire.specs.declared.msg.MsgKind.TheVariants as msg
use Rattle.ec_protocol.specs.declared.script.Line.TheVariants as line
use Rattle.ec_protocol.specs.Runs.{A, B, C, D}
use Rattle.ec_lease_machine.specs.declared.world.LeaseShown.TheVariants.{Line, Held}
use Rattle.ec_lease_machine.specs.declared.script.LeaseLine.TheVariants.{Drill, Tick, Skew, Grant, Hand}
use Rattle.ec_lease_machine.specs.Drill.{reads}
use Rattle.ec_lease_machine.specs.Runs.{LeaseRun}

abbrev pub net_0 : LeaseRun
net_0 =
    record {
      length = 10;
      most = 0;
      lines =
          reads (Drill (line.Call B (call.Mkdir (codes "d" ∷ [])))) 9 ∷ reads (Grant A) 7
          ∷ reads (Drill (line.Call A (call.Create (codes "a" ∷ [])))) 10 ∷ reads (Grant C) 7
          ∷ reads (Drill (line.Call A (call.Write (codes "a" ∷ []) 0 (codes "abcdefgh")))) 14 ∷ reads (Drill (line.Cut A)) 5
          ∷ reads (Drill (line.Call B (call.Create (codes "d" ∷ codes "a" ∷ [])))) 10
          ∷ reads (Drill (line.Call B (call.Write (codes "d" ∷ codes "a" ∷ []) 0 (codes "abcdefgh")))) 16 ∷ reads (Drill (line.End B)) 5
          ∷ reads (Drill (line.Call A call.Sync)) 3 ∷ reads (Tick 10) 6 ∷ reads (Drill (line.Call B call.Sync)) 3
          ∷ reads (Drill (line.Call A call.Sync)) 3 ∷ reads (Drill (line.Push B 1)) 8 ∷ reads (Tick 10) 6 ∷ reads (Drill (line.Resend B)) 8
          ∷ reads (Drill (line.End A)) 5 ∷ reads (Drill (line.Call B (call.Stat (codes "d" ∷ [])))) 8
          ∷ reads (Drill (line.Call A (call.Read (codes "d" ∷ codes "a" ∷ []) 3 9))) 15 ∷ reads (Tick 4) 6
          ∷ reads (Drill (line.Call B (call.Write (codes "a" ∷ []) 6 (codes "b")))) 14
          ∷ reads (Drill (line.Call B (call.Read (codes "d" ∷ codes "a" ∷ []) 1 0))) 15
          ∷ reads (Drill (line.Call B (call.Read (codes "a" ∷ []) 1 9))) 13 ∷ reads (Drill (line.Call A (call.Mkdir (codes "e" ∷ [])))) 9
          ∷ reads (Tick 4) 6 ∷ reads (Drill (line.Cut A)) 5 ∷ reads (Drill (line.Call A (call.Touch (codes "d" ∷ codes "a" ∷ []) 5))) 14
          ∷ reads (Drill (line.Call B (call.Stat (codes "e" ∷ [])))) 8
          ∷ reads (Drill (line.Call B (call.Create (codes "e" ∷ codes "a" ∷ [])))) 10 ∷ reads (Drill (line.Uncut A)) 7
          ∷ reads (Drill (line.Resend A)) 8 ∷ reads (Drill (line.Resend B)) 8 ∷ reads (Drill (line.Resend A)) 8
          ∷ reads (Drill (line.Resend B)) 8 ∷ reads (Drill (line.Call A (call.List []))) 8 ∷ reads (Drill (line.Call B (call.List []))) 8
          ∷ reads (Drill (line.Call A (call.Read (codes "a" ∷ []) 0 64))) 13 ∷ reads (Grant B) 7
          ∷ reads (Drill (line.Call B (call.Read (codes "d" ∷ codes "a" ∷ []) 0 64))) 15
          ∷ reads (Drill (line.Call A (call.Read (codes "e" ∷ codes "a" ∷ []) 0 64))) 15 ∷ reads (Tick 20) 6
          ∷ reads (Drill (line.Call A call.Sync)) 3 ∷ reads (Tick 1) 6 ∷ reads (Drill (line.Call B call.Sync)) 3 ∷ [];
      shown =
          Line (Waits 1 B (call.Mkdir (codes "d" ∷ [])))
          ∷ Line (Answered 1 B (call.Mkdir (codes "d" ∷ [])) (answer.Reply reply.Ok) (Some 1)) ∷ Line Nothing
          ∷ Line (Waits 3 A (call.Create (codes "a" ∷ []))) ∷ Line (Durable B (1 ∷ []))
          ∷ Line (Answered 3 A (call.Create (codes "a" ∷ [])) (answer.Reply reply.Ok) (Some 1)) ∷ Line Nothing
          ∷ Line (Answered 5 A (call.Write (codes "a" ∷ []) 0 (codes "abcdefgh")) (answer.Reply reply.Ok) (Some 2))
          ∷ Line (Waits 7 B (call.Create (codes "d" ∷ codes "a" ∷ [])))
          ∷ Line (Waits 8 B (call.Write (codes "d" ∷ codes "a" ∷ []) 0 (codes "abcdefgh"))) ∷ Held B 10 ∷ Line (Waits 10 A call.Sync)
          ∷ Line (Answered 12 B call.Sync (answer.Reply reply.Ok) None) ∷ Line (Waits 13 A call.Sync) ∷ Line Nothing
          ∷ Line (Ended A (1 ∷ 2 ∷ [])) ∷ Line (Answered 7 B (call.Create (codes "d" ∷ codes "a" ∷ [])) (answer.Reply reply.Ok) (Some 2))
          ∷ Line (Answered 8 B (call.Write (codes "d" ∷ codes "a" ∷ []) 0 (codes "abcdefgh")) (answer.Reply reply.Ok) (Some 3))
          ∷ Line (Answered 18 B (call.Stat (codes "d" ∷ [])) (answer.Reply (reply.Stat kind.Dir 493 0 0 1)) None)
          ∷ Line (Waits 19 A (call.Read (codes "d" ∷ codes "a" ∷ []) 3 9))
          ∷ Line (Answered 21 B (call.Write (codes "a" ∷ []) 6 (codes "b")) (answer.Reply (reply.Refused (no.NotFound 1))) None)
          ∷ Line (Answered 22 B (call.Read (codes "d" ∷ codes "a" ∷ []) 1 0) (answer.Reply (reply.Data [])) None)
          ∷ Line (Answered 23 B (call.Read (codes "a" ∷ []) 1 9) (answer.Reply (reply.Refused (no.NotFound 1))) None)
          ∷ Line (Waits 24 A (call.Mkdir (codes "e" ∷ []))) ∷ Line Nothing ∷ Line (Waits 27 A (call.Touch (codes "d" ∷ codes "a" ∷ []) 5))
          ∷ Line (Answered 28 B (call.Stat (codes "e" ∷ [])) (answer.Reply (reply.Refused (no.NotFound 1))) None)
          ∷ Line (Answered 29 B (call.Create (codes "e" ∷ codes "a" ∷ [])) (answer.Reply (reply.Refused (no.NotFound 1))) None)
          ∷ Line (Told A (1 ∷ 2 ∷ [])) ∷ Line (Answered 10 A call.Sync (answer.Lost (1 ∷ 2 ∷ [])) None)
          ∷ Line (Answered 13 A call.Sync (answer.Reply reply.Ok) None) ∷ Line (Durable B (2 ∷ []))
          ∷ Line (Answered 24 A (call.Mkdir (codes "e" ∷ [])) (answer.Reply reply.Ok) (Some 3)) ∷ Line (Durable B (3 ∷ []))
          ∷ Line (Answered 19 A (call.Read (codes "d" ∷ codes "a" ∷ []) 3 9) (answer.Reply (reply.Data (codes "defgh"))) None)
          ∷ Line (Answered 27 A (call.Touch (codes "d" ∷ codes "a" ∷ []) 5) (answer.Reply reply.Ok) (Some 4))
          ∷ Line (Answered 35 A (call.List []) (answer.Reply (reply.Names (codes "d" ∷ codes "e" ∷ []))) None)
          ∷ Line (Waits 36 B (call.List [])) ∷ Line (Durable A (3 ∷ []))
          ∷ Line (Answered 36 B (call.List []) (answer.Reply (reply.Names (codes "d" ∷ codes "e" ∷ []))) None)
          ∷ Line (Answered 37 A (call.Read (codes "a" ∷ []) 0 64) (answer.Reply (reply.Refused (no.NotFound 1))) None)
          ∷ Line (Waits 39 B (call.Read (codes "d" ∷ codes "a" ∷ []) 0 64)) ∷ Line (Durable A (4 ∷ []))
          ∷ Line (Answered 39 B (call.Read (codes "d" ∷ codes "a" ∷ []) 0 64) (answer.Reply (reply.Data (codes "abcdefgh"))) None)
          ∷ Line (Answered 40 A (call.Read (codes "e" ∷ codes "a" ∷ []) 0 64) (answer.Reply (reply.Refused (no.NotFound 2))) None)
          ∷ Line (Answered 42 A call.Sync (answer.Reply reply.Ok) None) ∷ Line (Answered 44 B call.Sync (answer.Reply reply.Ok) None) ∷ [];
      status = 0;
    }

abbrev pub net_1 : LeaseRun
net_1 =
    record {
      length = 10;
      most = 9;
      lines =
          reads (Drill (line.Call B (call.Create (codes "a" ∷ [])))) 10 ∷ reads (Tick 20) 6
          ∷ reads (Drill (line.Call B (call.Chmod (codes "e" ∷ codes "a" ∷ []) 493))) 14
          ∷ reads (Drill (line.Call C (call.Create (codes "b" ∷ [])))) 10 ∷ reads (Drill (line.Call B (call.Stat (codes "b" ∷ [])))) 8
          ∷ reads (Drill (line.Call A (call.Write (codes "a" ∷ []) 3 (codes "ya")))) 14 ∷ reads (Tick 20) 6
          ∷ reads (Drill (line.Call A (call.Mkdir (codes "d" ∷ [])))) 9 ∷ reads (Drill (line.Cut B)) 5 ∷ reads (Drill (line.Uncut B)) 7
          ∷ reads (Drill (line.Call B (call.Write (codes "a" ∷ []) 0 (codes "b")))) 14 ∷ reads (Drill (line.Cut A)) 5
          ∷ reads (Drill (line.Call B (call.Rename (codes "b" ∷ []) (codes "b" ∷ [])))) 13 ∷ reads (Hand C 2) 8
          ∷ reads (Drill (line.Call A (call.Write (codes "d" ∷ codes "a" ∷ []) 0 (codes "bx")))) 16 ∷ reads (Drill (line.End A)) 5
          ∷ reads (Drill (line.Push B 1)) 8 ∷ reads (Tick 20) 6 ∷ reads (Drill (line.Call B (call.Fsync (codes "d" ∷ codes "b" ∷ [])))) 9
          ∷ reads (Drill (line.Call C (call.Create (codes "d" ∷ codes "a" ∷ [])))) 10 ∷ reads (Tick 4) 6
          ∷ reads (Drill (line.Drop A msg.Recall 5)) 15 ∷ reads (Tick 20) 6 ∷ reads (Drill (line.Cut C)) 5
          ∷ reads (Drill (line.Deliver A msg.Recall 4)) 18 ∷ reads (Drill (line.End A)) 5
          ∷ reads (Drill (line.Call A (call.Create (codes "d" ∷ codes "b" ∷ [])))) 10 ∷ reads (Hand C 2) 8
          ∷ reads (Drill (line.Call A (call.Chmod (codes "e" ∷ codes "a" ∷ []) 4095))) 14
          ∷ reads (Drill (line.Call A (call.Rmdir (codes "d" ∷ [])))) 9 ∷ reads (Drill (line.Uncut A)) 7 ∷ reads (Tick 1) 6
          ∷ reads (Drill (line.Uncut C)) 7 ∷ reads (Drill (line.Resend A)) 8 ∷ reads (Drill (line.Resend B)) 8 ∷ reads (Hand B 2) 8
          ∷ reads (Drill (line.Resend C)) 8 ∷ reads (Drill (line.Resend A)) 8 ∷ reads (Drill (line.Resend B)) 8
          ∷ reads (Drill (line.Resend C)) 8 ∷ reads (Drill (line.End A)) 5 ∷ reads (Drill (line.Call A (call.List []))) 8 ∷ reads (Tick 4) 6
          ∷ reads (Drill (line.Call B (call.List []))) 8 ∷ reads (Tick 10) 6 ∷ reads (Drill (line.Call C (call.List []))) 8
          ∷ reads (Drill (line.Cut A)) 5 ∷ reads (Drill (line.Call B (call.Read (codes "a" ∷ []) 0 64))) 13
          ∷ reads (Drill (line.Call C (call.Read (codes "b" ∷ []) 0 64))) 13
          ∷ reads (Drill (line.Call C (call.Read (codes "d" ∷ codes "a" ∷ []) 0 64))) 15 ∷ reads (Tick 10) 6
          ∷ reads (Drill (line.Call A call.Sync)) 3 ∷ reads (Drill (line.Call B call.Sync)) 3 ∷ reads (Tick 4) 6
          ∷ reads (Drill (line.Call C call.Sync)) 3 ∷ [];
      shown =
          Line (Waits 1 B (call.Create (codes "a" ∷ [])))
          ∷ Line (Answered 1 B (call.Create (codes "a" ∷ [])) (answer.Reply reply.Ok) (Some 1))
          ∷ Line (Answered 3 B (call.Chmod (codes "e" ∷ codes "a" ∷ []) 493) (answer.Reply (reply.Refused (no.NotFound 1))) None)
          ∷ Line (Waits 4 C (call.Create (codes "b" ∷ []))) ∷ Line (Durable B (1 ∷ []))
          ∷ Line (Answered 4 C (call.Create (codes "b" ∷ [])) (answer.Reply reply.Ok) (Some 1))
          ∷ Line (Waits 5 B (call.Stat (codes "b" ∷ []))) ∷ Line (Durable C (1 ∷ []))
          ∷ Line (Answered 5 B (call.Stat (codes "b" ∷ [])) (answer.Reply (reply.Stat kind.File 420 0 0 0)) None)
          ∷ Line (Waits 6 A (call.Write (codes "a" ∷ []) 3 (codes "ya")))
          ∷ Line (Answered 6 A (call.Write (codes "a" ∷ []) 3 (codes "ya")) (answer.Reply reply.Ok) (Some 1))
          ∷ Line (Waits 8 A (call.Mkdir (codes "d" ∷ [])))
          ∷ Line (Answered 8 A (call.Mkdir (codes "d" ∷ [])) (answer.Reply reply.Ok) (Some 2))
          ∷ Line (Waits 11 B (call.Write (codes "a" ∷ []) 0 (codes "b"))) ∷ Line (Durable A (2 ∷ [])) ∷ Line (Durable A (1 ∷ []))
          ∷ Line (Answered 11 B (call.Write (codes "a" ∷ []) 0 (codes "b")) (answer.Reply reply.Ok) (Some 2))
          ∷ Line (Answered 13 B (call.Rename (codes "b" ∷ []) (codes "b" ∷ [])) (answer.Reply reply.Ok) None) ∷ Line Nothing
          ∷ Line (Answered 15 A (call.Write (codes "d" ∷ codes "a" ∷ []) 0 (codes "bx")) (answer.Reply (reply.Refused (no.NotFound 2))) None)
          ∷ Held A 59 ∷ Line Nothing ∷ Line (Waits 19 B (call.Fsync (codes "d" ∷ codes "b" ∷ [])))
          ∷ Line (Waits 20 C (call.Create (codes "d" ∷ codes "a" ∷ []))) ∷ Line Nothing ∷ Line (Ended A [])
          ∷ Line (Answered 19 B (call.Fsync (codes "d" ∷ codes "b" ∷ [])) (answer.Reply (reply.Refused (no.NotFound 2))) None)
          ∷ Line (Waits 27 A (call.Create (codes "d" ∷ codes "b" ∷ []))) ∷ Line Nothing
          ∷ Line (Waits 29 A (call.Chmod (codes "e" ∷ codes "a" ∷ []) 4095)) ∷ Line (Waits 30 A (call.Rmdir (codes "d" ∷ [])))
          ∷ Line (Told A [])
          ∷ Line (Answered 29 A (call.Chmod (codes "e" ∷ codes "a" ∷ []) 4095) (answer.Reply (reply.Refused (no.NotFound 1))) None)
          ∷ Line (Answered 27 A (call.Create (codes "d" ∷ codes "b" ∷ [])) (answer.Reply reply.Ok) (Some 3))
          ∷ Line (Answered 30 A (call.Rmdir (codes "d" ∷ [])) (answer.Reply (reply.Refused no.NotEmpty)) None) ∷ Line (Durable A (3 ∷ []))
          ∷ Line (Answered 20 C (call.Create (codes "d" ∷ codes "a" ∷ [])) (answer.Reply reply.Ok) (Some 2)) ∷ Line Nothing ∷ Held A 104
          ∷ Line (Answered 42 A (call.List []) (answer.Reply (reply.Names (codes "a" ∷ codes "b" ∷ codes "d" ∷ []))) None)
          ∷ Line (Waits 44 B (call.List []))
          ∷ Line (Answered 44 B (call.List []) (answer.Reply (reply.Names (codes "a" ∷ codes "b" ∷ codes "d" ∷ []))) None)
          ∷ Line (Answered 46 C (call.List []) (answer.Reply (reply.Names (codes "a" ∷ codes "b" ∷ codes "d" ∷ []))) None)
          ∷ Line (Answered 48 B (call.Read (codes "a" ∷ []) 0 64) (answer.Reply (reply.Data ((98 ∷ 0 ∷ 0 ∷ 121 ∷ 97 ∷ [])))) None)
          ∷ Line (Answered 49 C (call.Read (codes "b" ∷ []) 0 64) (answer.Reply (reply.Data [])) None)
          ∷ Line (Answered 50 C (call.Read (codes "d" ∷ codes "a" ∷ []) 0 64) (answer.Reply (reply.Data [])) None)
          ∷ Line (Waits 52 A call.Sync) ∷ Line (Waits 53 B call.Sync) ∷ Line (Durable B (2 ∷ []))
          ∷ Line (Answered 53 B call.Sync (answer.Reply reply.Ok) None) ∷ Line (Waits 55 C call.Sync) ∷ Line (Durable C (2 ∷ []))
          ∷ Line (Answered 55 C call.Sync (answer.Reply reply.Ok) None) ∷ [];
      status = 0;
    }

abbrev pub net_2 : LeaseRun
net_2 =
    record {
      length = 100;
      most = 0;
      lines =
          reads (Grant B) 7 ∷ reads (Drill (line.Cut A)) 5 ∷ reads (Tick 34) 6
          ∷ reads (Drill (line.Call B (call.Remove (codes "d" ∷ codes "b" ∷ [])))) 10 ∷ reads (Drill (line.End C)) 5
          ∷ reads (Drill (line.Call B (call.Rename (codes "d" ∷ codes "b" ∷ []) (codes "d" ∷ codes "b2" ∷ [])))) 15
          ∷ reads (Drill (line.Resend A)) 8
          ∷ reads (Drill (line.Call A (call.Write (codes "d" ∷ codes "e" ∷ codes "a" ∷ []) 0 (codes "x")))) 18
          ∷ reads (Drill (line.Call B (call.Remove (codes "e" ∷ codes "a" ∷ [])))) 10 ∷ reads (Drill (line.Call A (call.Chmod [] 4095))) 11
          ∷ reads (Drill (line.End B)) 5 ∷ reads (Drill (line.Cut B)) 5 ∷ reads (Drill (line.Deliver A msg.Hello 1)) 17 ∷ reads (Grant A) 7
          ∷ reads (Drill (line.Call B (call.List (codes "d" ∷ [])))) 8
          ∷ reads (Drill (line.Call B (call.Write (codes "b" ∷ []) 0 (codes "aba")))) 14
          ∷ reads (Drill (line.Call A (call.List (codes "d" ∷ [])))) 8 ∷ reads (Drill (line.Cut C)) 5
          ∷ reads (Drill (line.Call B (call.Stat (codes "a" ∷ [])))) 8
          ∷ reads (Drill (line.Call B (call.Stat (codes "d" ∷ codes "e" ∷ codes "a" ∷ [])))) 8 ∷ reads (Tick 34) 6
          ∷ reads (Drill (line.Call B (call.Write (codes "d" ∷ codes "e" ∷ codes "a" ∷ []) 4 (codes "z")))) 18
          ∷ reads (Drill (line.Call A (call.Rename (codes "d" ∷ []) (codes "e" ∷ codes "d" ∷ [])))) 13 ∷ reads (Tick 200) 6
          ∷ reads (Drill (line.Uncut B)) 7 ∷ reads (Drill (line.Call A (call.Write (codes "b" ∷ []) 6 (codes "zczax")))) 14
          ∷ reads (Hand B 2) 8 ∷ reads (Drill (line.Call B (call.List (codes "d" ∷ codes "e" ∷ [])))) 8
          ∷ reads (Drill (line.Call B (call.Fsync (codes "a" ∷ [])))) 9 ∷ reads (Drill (line.End A)) 5 ∷ reads (Drill (line.Uncut A)) 7
          ∷ reads (Drill (line.Resend A)) 8 ∷ reads (Drill (line.Resend B)) 8 ∷ reads (Drill (line.Resend A)) 8
          ∷ reads (Drill (line.Resend B)) 8 ∷ reads (Hand B 1) 8 ∷ reads (Drill (line.Call A (call.List []))) 8
          ∷ reads (Drill (line.Call B (call.List []))) 8 ∷ reads (Tick 200) 6
          ∷ reads (Drill (line.Call A (call.Read (codes "a" ∷ []) 0 64))) 13
          ∷ reads (Drill (line.Call A (call.Read (codes "b" ∷ []) 0 64))) 13 ∷ reads (Tick 100) 6
          ∷ reads (Drill (line.Call B (call.Read (codes "d" ∷ codes "a" ∷ []) 0 64))) 15 ∷ reads (Hand A 3) 8
          ∷ reads (Drill (line.Call A call.Sync)) 3 ∷ reads (Skew A 0) 8 ∷ reads (Drill (line.Call B call.Sync)) 3 ∷ [];
      shown =
          Line Nothing ∷ Line (Waits 4 B (call.Remove (codes "d" ∷ codes "b" ∷ [])))
          ∷ Line (Answered 4 B (call.Remove (codes "d" ∷ codes "b" ∷ [])) (answer.Reply (reply.Refused (no.NotFound 1))) None)
          ∷ Line Nothing
          ∷ Line (Answered 6 B (call.Rename (codes "d" ∷ codes "b" ∷ []) (codes "d" ∷ codes "b2" ∷ [])) (answer.Reply (reply.Refused (no.NotFound 1))) None)
          ∷ Line Nothing ∷ Line (Waits 8 A (call.Write (codes "d" ∷ codes "e" ∷ codes "a" ∷ []) 0 (codes "x")))
          ∷ Line (Answered 9 B (call.Remove (codes "e" ∷ codes "a" ∷ [])) (answer.Reply (reply.Refused (no.NotFound 1))) None)
          ∷ Line (Waits 10 A (call.Chmod [] 4095)) ∷ Held B 134
          ∷ Line (Answered 15 B (call.List (codes "d" ∷ [])) (answer.Reply (reply.Refused (no.NotFound 1))) None)
          ∷ Line (Answered 16 B (call.Write (codes "b" ∷ []) 0 (codes "aba")) (answer.Reply (reply.Refused (no.NotFound 1))) None)
          ∷ Line (Waits 17 A (call.List (codes "d" ∷ [])))
          ∷ Line (Answered 19 B (call.Stat (codes "a" ∷ [])) (answer.Reply (reply.Refused (no.NotFound 1))) None)
          ∷ Line (Answered 20 B (call.Stat (codes "d" ∷ codes "e" ∷ codes "a" ∷ [])) (answer.Reply (reply.Refused (no.NotFound 1))) None)
          ∷ Line (Answered 22 B (call.Write (codes "d" ∷ codes "e" ∷ codes "a" ∷ []) 4 (codes "z")) (answer.Reply (reply.Refused (no.NotFound 1))) None)
          ∷ Line (Waits 23 A (call.Rename (codes "d" ∷ []) (codes "e" ∷ codes "d" ∷ [])))
          ∷ Line (Waits 26 A (call.Write (codes "b" ∷ []) 6 (codes "zczax"))) ∷ Line Nothing
          ∷ Line (Answered 28 B (call.List (codes "d" ∷ codes "e" ∷ [])) (answer.Reply (reply.Refused (no.NotFound 1))) None)
          ∷ Line (Answered 29 B (call.Fsync (codes "a" ∷ [])) (answer.Reply (reply.Refused (no.NotFound 1))) None) ∷ Line (Ended A [])
          ∷ Line (Told A [])
          ∷ Line (Answered 8 A (call.Write (codes "d" ∷ codes "e" ∷ codes "a" ∷ []) 0 (codes "x")) (answer.Reply (reply.Refused (no.NotFound 1))) None)
          ∷ Line (Answered 17 A (call.List (codes "d" ∷ [])) (answer.Reply (reply.Refused (no.NotFound 1))) None)
          ∷ Line (Answered 23 A (call.Rename (codes "d" ∷ []) (codes "e" ∷ codes "d" ∷ [])) (answer.Reply (reply.Refused (no.NotFound 1))) None)
          ∷ Line (Answered 26 A (call.Write (codes "b" ∷ []) 6 (codes "zczax")) (answer.Reply (reply.Refused (no.NotFound 1))) None)
          ∷ Line (Answered 10 A (call.Chmod [] 4095) (answer.Reply reply.Ok) (Some 1)) ∷ Line Nothing
          ∷ Line (Answered 37 A (call.List []) (answer.Reply (reply.Names [])) None) ∷ Line (Waits 38 B (call.List []))
          ∷ Line (Durable A (1 ∷ [])) ∷ Line (Answered 38 B (call.List []) (answer.Reply (reply.Names [])) None)
          ∷ Line (Answered 40 A (call.Read (codes "a" ∷ []) 0 64) (answer.Reply (reply.Refused (no.NotFound 1))) None)
          ∷ Line (Answered 41 A (call.Read (codes "b" ∷ []) 0 64) (answer.Reply (reply.Refused (no.NotFound 1))) None)
          ∷ Line (Answered 43 B (call.Read (codes "d" ∷ codes "a" ∷ []) 0 64) (answer.Reply (reply.Refused (no.NotFound 1))) None)
          ∷ Line Nothing ∷ Line (Answered 45 A call.Sync (answer.Reply reply.Ok) None)
          ∷ Line (Answered 47 B call.Sync (answer.Reply reply.Ok) None) ∷ [];
      status = 0;
    }

abbrev pub net_3 : LeaseRun
net_3 =
    record {
      length = 100;
      most = 0;
      lines =
          reads (Tick 1) 6 ∷ reads (Drill (line.Call C (call.Mkdir (codes "d" ∷ [])))) 9
          ∷ reads (Drill (line.Call B (call.Create (codes "a" ∷ [])))) 10 ∷ reads (Tick 1) 6 ∷ reads (Drill (line.Resend B)) 8
          ∷ reads (Tick 1) 6 ∷ reads (Drill (line.Call B (call.Fsync (codes "a" ∷ [])))) 9 ∷ reads (Skew A 0) 8
          ∷ reads (Drill (line.Call A (call.Touch [] 2))) 11 ∷ reads (Drill (line.Cut A)) 5 ∷ reads (Drill (line.Cut B)) 5
          ∷ reads (Skew C 0) 8 ∷ reads (Drill (line.Cut C)) 5 ∷ reads (Drill (line.Call A (call.List []))) 8 ∷ reads (Drill (line.Cut A)) 5
          ∷ reads (Drill (line.Uncut C)) 7 ∷ reads (Drill (line.Call B (call.Write (codes "a" ∷ []) 0 (codes "xycya")))) 14
          ∷ reads (Tick 34) 6 ∷ reads (Drill (line.Call A (call.List (codes "a" ∷ [])))) 8
          ∷ reads (Drill (line.Call A (call.Write (codes "a" ∷ []) 6 (codes "c")))) 14
          ∷ reads (Drill (line.Call A (call.Touch (codes "d" ∷ []) 4))) 12 ∷ reads (Tick 34) 6
          ∷ reads (Drill (line.Deliver A msg.Want 4)) 16 ∷ reads (Drill (line.Deliver B msg.Want 3)) 16
          ∷ reads (Drill (line.Deliver A msg.Grant 3)) 17 ∷ reads (Drill (line.Call C (call.Write (codes "a" ∷ []) 3 (codes "b")))) 14
          ∷ reads (Grant C) 7 ∷ reads (Drill (line.Deliver A msg.Want 5)) 16
          ∷ reads (Drill (line.Call A (call.Forder ((codes "a" ∷ []) ∷ (codes "a" ∷ []) ∷ [])))) 13 ∷ reads (Drill (line.Uncut A)) 7
          ∷ reads (Drill (line.Cut B)) 5 ∷ reads (Drill (line.Uncut B)) 7 ∷ reads (Drill (line.End A)) 5 ∷ reads (Drill (line.Resend A)) 8
          ∷ reads (Drill (line.Resend B)) 8 ∷ reads (Drill (line.End C)) 5 ∷ reads (Drill (line.Resend C)) 8 ∷ reads (Drill (line.Cut B)) 5
          ∷ reads (Drill (line.Resend A)) 8 ∷ reads (Drill (line.Resend B)) 8 ∷ reads (Tick 100) 6 ∷ reads (Drill (line.Resend C)) 8
          ∷ reads (Grant C) 7 ∷ reads (Drill (line.Call A (call.List []))) 8 ∷ reads (Tick 100) 6
          ∷ reads (Drill (line.Call B (call.List []))) 8 ∷ reads (Drill (line.Call C (call.List []))) 8
          ∷ reads (Drill (line.Call B (call.Read (codes "a" ∷ []) 0 64))) 13
          ∷ reads (Drill (line.Call B (call.Read (codes "b" ∷ []) 0 64))) 13
          ∷ reads (Drill (line.Call C (call.Read (codes "d" ∷ codes "a" ∷ []) 0 64))) 15 ∷ reads (Drill (line.Call A call.Sync)) 3
          ∷ reads (Drill (line.End B)) 5 ∷ reads (Drill (line.Call B call.Sync)) 3 ∷ reads (Tick 200) 6
          ∷ reads (Drill (line.Call C call.Sync)) 3 ∷ [];
      shown =
          Line (Waits 2 C (call.Mkdir (codes "d" ∷ [])))
          ∷ Line (Answered 2 C (call.Mkdir (codes "d" ∷ [])) (answer.Reply reply.Ok) (Some 1))
          ∷ Line (Waits 3 B (call.Create (codes "a" ∷ []))) ∷ Line (Durable C (1 ∷ []))
          ∷ Line (Answered 3 B (call.Create (codes "a" ∷ [])) (answer.Reply reply.Ok) (Some 1))
          ∷ Line (Waits 7 B (call.Fsync (codes "a" ∷ []))) ∷ Line (Durable B (1 ∷ []))
          ∷ Line (Answered 7 B (call.Fsync (codes "a" ∷ [])) (answer.Reply reply.Ok) None) ∷ Line (Waits 9 A (call.Touch [] 2))
          ∷ Line (Answered 9 A (call.Touch [] 2) (answer.Reply reply.Ok) (Some 1))
          ∷ Line (Answered 14 A (call.List []) (answer.Reply (reply.Names (codes "a" ∷ codes "d" ∷ []))) None) ∷ Line Nothing
          ∷ Line (Waits 17 B (call.Write (codes "a" ∷ []) 0 (codes "xycya"))) ∷ Line (Waits 19 A (call.List (codes "a" ∷ [])))
          ∷ Line (Waits 20 A (call.Write (codes "a" ∷ []) 6 (codes "c"))) ∷ Line (Waits 21 A (call.Touch (codes "d" ∷ []) 4))
          ∷ Line (Waits 26 C (call.Write (codes "a" ∷ []) 3 (codes "b")))
          ∷ Line (Waits 29 A (call.Forder ((codes "a" ∷ []) ∷ (codes "a" ∷ []) ∷ [])))
          ∷ Line (Answered 21 A (call.Touch (codes "d" ∷ []) 4) (answer.Reply reply.Ok) (Some 2)) ∷ Line (Durable A (1 ∷ [])) ∷ Line Nothing
          ∷ Line (Answered 19 A (call.List (codes "a" ∷ [])) (answer.Reply (reply.Refused (no.NotDir 1))) None)
          ∷ Line (Answered 17 B (call.Write (codes "a" ∷ []) 0 (codes "xycya")) (answer.Reply reply.Ok) (Some 2))
          ∷ Line (Durable B (2 ∷ [])) ∷ Line (Answered 20 A (call.Write (codes "a" ∷ []) 6 (codes "c")) (answer.Reply reply.Ok) (Some 3))
          ∷ Line (Answered 29 A (call.Forder ((codes "a" ∷ []) ∷ (codes "a" ∷ []) ∷ [])) (answer.Reply reply.Ok) (Some 4))
          ∷ Line (Durable A (3 ∷ 4 ∷ []))
          ∷ Line (Answered 26 C (call.Write (codes "a" ∷ []) 3 (codes "b")) (answer.Reply reply.Ok) (Some 2)) ∷ Held A 171 ∷ Held C 171
          ∷ Line (Answered 44 A (call.List []) (answer.Reply (reply.Names (codes "a" ∷ codes "d" ∷ []))) None)
          ∷ Line (Waits 46 B (call.List []))
          ∷ Line (Answered 47 C (call.List []) (answer.Reply (reply.Names (codes "a" ∷ codes "d" ∷ []))) None)
          ∷ Line (Waits 48 B (call.Read (codes "a" ∷ []) 0 64)) ∷ Line (Waits 49 B (call.Read (codes "b" ∷ []) 0 64))
          ∷ Line (Waits 50 C (call.Read (codes "d" ∷ codes "a" ∷ []) 0 64)) ∷ Line (Durable A (2 ∷ []))
          ∷ Line (Answered 50 C (call.Read (codes "d" ∷ codes "a" ∷ []) 0 64) (answer.Reply (reply.Refused (no.NotFound 2))) None)
          ∷ Line (Answered 51 A call.Sync (answer.Reply reply.Ok) None) ∷ Line (Ended B []) ∷ Line (Waits 53 B call.Sync)
          ∷ Line (Waits 55 C call.Sync) ∷ Line (Durable C (2 ∷ [])) ∷ Line (Answered 55 C call.Sync (answer.Reply reply.Ok) None) ∷ [];
      status = 0;
    }

abbrev pub net_4 : LeaseRun
net_4 =
    record {
      length = 100;
      most = 3;
      lines =
          reads (Grant C) 7 ∷ reads (Drill (line.Call A (call.Mkdir (codes "d" ∷ [])))) 9
          ∷ reads (Drill (line.Call A (call.Create (codes "a" ∷ [])))) 10 ∷ reads (Drill (line.Call A (call.Create (codes "b" ∷ [])))) 10
          ∷ reads (Drill (line.Call C (call.Create (codes "d" ∷ codes "a" ∷ [])))) 10 ∷ reads (Drill (line.Call A call.Sync)) 3
          ∷ reads (Drill (line.Call B call.Sync)) 3 ∷ reads (Drill (line.Call C call.Sync)) 3 ∷ reads (Drill (line.Push C 1)) 8
          ∷ reads (Drill (line.Call B (call.Stat []))) 8 ∷ reads (Drill (line.Call B (call.Chmod [] 384))) 11
          ∷ reads (Drill (line.Call B (call.Write (codes "b" ∷ []) 1 (codes "xb")))) 14 ∷ reads (Tick 200) 6
          ∷ reads (Drill (line.Push A 1)) 8 ∷ reads (Drill (line.Cut A)) 5
          ∷ reads (Drill (line.Call A (call.Write (codes "a" ∷ []) 6 (codes "cz")))) 14
          ∷ reads (Drill (line.Call B (call.Rmdir (codes "d" ∷ [])))) 9 ∷ reads (Skew A 4) 8 ∷ reads (Drill (line.Resend C)) 8
          ∷ reads (Drill (line.Cut C)) 5 ∷ reads (Drill (line.Uncut B)) 7 ∷ reads (Drill (line.Repeat C msg.Flush 1)) 16
          ∷ reads (Drill (line.Call B (call.Remove (codes "a" ∷ [])))) 10 ∷ reads (Tick 1) 6
          ∷ reads (Drill (line.Call C (call.Stat (codes "b" ∷ [])))) 8 ∷ reads (Drill (line.End A)) 5 ∷ reads (Drill (line.Resend A)) 8
          ∷ reads (Drill (line.Resend B)) 8 ∷ reads (Tick 100) 6 ∷ reads (Drill (line.Resend C)) 8 ∷ reads (Drill (line.Cut C)) 5
          ∷ reads (Drill (line.Resend A)) 8 ∷ reads (Drill (line.Resend B)) 8 ∷ reads (Tick 34) 6 ∷ reads (Drill (line.Resend C)) 8
          ∷ reads (Tick 1) 6 ∷ reads (Drill (line.Call A (call.List []))) 8 ∷ reads (Grant B) 7
          ∷ reads (Drill (line.Call B (call.List []))) 8 ∷ reads (Drill (line.End C)) 5 ∷ reads (Drill (line.Call C (call.List []))) 8
          ∷ reads (Drill (line.Call A (call.Read (codes "a" ∷ []) 0 64))) 13
          ∷ reads (Drill (line.Call B (call.Read (codes "b" ∷ []) 0 64))) 13 ∷ reads (Drill (line.End A)) 5
          ∷ reads (Drill (line.Call A (call.Read (codes "d" ∷ codes "a" ∷ []) 0 64))) 15 ∷ [];
      shown =
          Line Nothing ∷ Line (Waits 2 A (call.Mkdir (codes "d" ∷ [])))
          ∷ Line (Answered 2 A (call.Mkdir (codes "d" ∷ [])) (answer.Reply reply.Ok) (Some 1))
          ∷ Line (Answered 3 A (call.Create (codes "a" ∷ [])) (answer.Reply reply.Ok) (Some 2))
          ∷ Line (Answered 4 A (call.Create (codes "b" ∷ [])) (answer.Reply reply.Ok) (Some 3))
          ∷ Line (Waits 5 C (call.Create (codes "d" ∷ codes "a" ∷ []))) ∷ Line (Durable A (1 ∷ 2 ∷ 3 ∷ []))
          ∷ Line (Answered 5 C (call.Create (codes "d" ∷ codes "a" ∷ [])) (answer.Reply reply.Ok) (Some 1))
          ∷ Line (Answered 6 A call.Sync (answer.Reply reply.Ok) None) ∷ Line (Answered 7 B call.Sync (answer.Reply reply.Ok) None)
          ∷ Line (Waits 8 C call.Sync) ∷ Line (Durable C (1 ∷ [])) ∷ Line (Answered 8 C call.Sync (answer.Reply reply.Ok) None)
          ∷ Line Nothing ∷ Line (Waits 10 B (call.Stat []))
          ∷ Line (Answered 10 B (call.Stat []) (answer.Reply (reply.Stat kind.Dir 493 0 0 3)) None) ∷ Line (Waits 11 B (call.Chmod [] 384))
          ∷ Line (Answered 11 B (call.Chmod [] 384) (answer.Reply reply.Ok) (Some 1))
          ∷ Line (Waits 12 B (call.Write (codes "b" ∷ []) 1 (codes "xb")))
          ∷ Line (Answered 12 B (call.Write (codes "b" ∷ []) 1 (codes "xb")) (answer.Reply reply.Ok) (Some 2)) ∷ Line Nothing
          ∷ Line (Waits 16 A (call.Write (codes "a" ∷ []) 6 (codes "cz"))) ∷ Line (Waits 17 B (call.Rmdir (codes "d" ∷ [])))
          ∷ Line (Answered 17 B (call.Rmdir (codes "d" ∷ [])) (answer.Reply (reply.Refused no.NotEmpty)) None) ∷ Line Nothing
          ∷ Line (Waits 23 B (call.Remove (codes "a" ∷ []))) ∷ Line (Waits 25 C (call.Stat (codes "b" ∷ []))) ∷ Held A 303 ∷ Line Nothing
          ∷ Line (Waits 37 A (call.List []))
          ∷ Line (Answered 39 B (call.List []) (answer.Reply (reply.Names (codes "a" ∷ codes "b" ∷ codes "d" ∷ []))) None)
          ∷ Line (Ended C []) ∷ Line (Waits 41 C (call.List [])) ∷ Line (Waits 42 A (call.Read (codes "a" ∷ []) 0 64))
          ∷ Line (Answered 43 B (call.Read (codes "b" ∷ []) 0 64) (answer.Reply (reply.Data ((0 ∷ 120 ∷ 98 ∷ [])))) None)
          ∷ Line (Ended A []) ∷ Line (Answered 23 B (call.Remove (codes "a" ∷ [])) (answer.Reply reply.Ok) (Some 3))
          ∷ Line (Waits 45 A (call.Read (codes "d" ∷ codes "a" ∷ []) 0 64)) ∷ [];
      status = 0;
    }

abbrev pub net_5 : LeaseRun
net_5 =
    record {
      length = 100;
      most = 0;
      lines =
          reads (Drill (line.Call C (call.Mkdir (codes "d" ∷ [])))) 9 ∷ reads (Tick 200) 6
          ∷ reads (Drill (line.Call C (call.Create (codes "a" ∷ [])))) 10
          ∷ reads (Drill (line.Call C (call.Write (codes "a" ∷ []) 0 (codes "abcdefgh")))) 14 ∷ reads (Tick 100) 6
          ∷ reads (Drill (line.Call C (call.Create (codes "b" ∷ [])))) 10
          ∷ reads (Drill (line.Call C (call.Write (codes "b" ∷ []) 0 (codes "abcdefgh")))) 14 ∷ reads (Tick 1) 6
          ∷ reads (Drill (line.Call C (call.Create (codes "d" ∷ codes "a" ∷ [])))) 10
          ∷ reads (Drill (line.Call C (call.Write (codes "d" ∷ codes "a" ∷ []) 0 (codes "abcdefgh")))) 16 ∷ reads (Skew C 0) 8
          ∷ reads (Drill (line.Call B (call.Write (codes "b" ∷ []) 3 (codes "xb")))) 14
          ∷ reads (Drill (line.Call B (call.Write (codes "b" ∷ []) 2 (codes "ay")))) 14
          ∷ reads (Drill (line.Call A (call.Rename (codes "d" ∷ codes "k" ∷ []) (codes "d" ∷ codes "k2" ∷ [])))) 15
          ∷ reads (Drill (line.End C)) 5 ∷ reads (Drill (line.Call A (call.Write (codes "b" ∷ []) 5 (codes "bb")))) 14 ∷ reads (Grant B) 7
          ∷ reads (Drill (line.Call A (call.Write (codes "b" ∷ []) 4 (codes "yx")))) 14 ∷ reads (Hand B 2) 8
          ∷ reads (Drill (line.Push A 1)) 8 ∷ reads (Drill (line.Cut C)) 5
          ∷ reads (Drill (line.Call B (call.Write (codes "b" ∷ []) 3 (codes "axyyx")))) 14
          ∷ reads (Drill (line.Call C (call.Write (codes "d" ∷ codes "a" ∷ []) 3 (codes "zc")))) 16
          ∷ reads (Drill (line.Call C (call.Write (codes "d" ∷ codes "a" ∷ []) 2 (codes "yz")))) 16 ∷ reads (Drill (line.Push C 8)) 8
          ∷ reads (Drill (line.Call B (call.Touch [] 8))) 11 ∷ reads (Drill (line.End A)) 5
          ∷ reads (Drill (line.Call B (call.Create (codes "d" ∷ codes "b" ∷ [])))) 10 ∷ reads (Drill (line.Call A (call.Fsync []))) 9
          ∷ reads (Drill (line.Resend A)) 8 ∷ reads (Drill (line.Resend B)) 8 ∷ reads (Drill (line.Cut C)) 5
          ∷ reads (Drill (line.Resend C)) 8 ∷ reads (Drill (line.Resend A)) 8 ∷ reads (Tick 100) 6 ∷ reads (Drill (line.Resend B)) 8
          ∷ reads (Drill (line.Resend C)) 8 ∷ reads (Drill (line.Call A (call.List []))) 8 ∷ reads (Hand C 3) 8
          ∷ reads (Drill (line.Call B (call.List []))) 8 ∷ reads (Drill (line.Call C (call.List []))) 8
          ∷ reads (Drill (line.Call C (call.Read (codes "a" ∷ []) 0 64))) 13 ∷ reads (Drill (line.Cut A)) 5
          ∷ reads (Drill (line.Call B (call.Read (codes "b" ∷ []) 0 64))) 13 ∷ reads (Drill (line.End C)) 5
          ∷ reads (Drill (line.Call C (call.Read (codes "d" ∷ codes "a" ∷ []) 0 64))) 15 ∷ reads (Grant A) 7
          ∷ reads (Drill (line.Call A call.Sync)) 3 ∷ reads (Drill (line.Call B call.Sync)) 3 ∷ reads (Drill (line.Call C call.Sync)) 3 ∷ [];
      shown =
          Line (Waits 1 C (call.Mkdir (codes "d" ∷ [])))
          ∷ Line (Answered 1 C (call.Mkdir (codes "d" ∷ [])) (answer.Reply reply.Ok) (Some 1))
          ∷ Line (Answered 3 C (call.Create (codes "a" ∷ [])) (answer.Reply reply.Ok) (Some 2))
          ∷ Line (Answered 4 C (call.Write (codes "a" ∷ []) 0 (codes "abcdefgh")) (answer.Reply reply.Ok) (Some 3))
          ∷ Line (Answered 6 C (call.Create (codes "b" ∷ [])) (answer.Reply reply.Ok) (Some 4))
          ∷ Line (Answered 7 C (call.Write (codes "b" ∷ []) 0 (codes "abcdefgh")) (answer.Reply reply.Ok) (Some 5))
          ∷ Line (Answered 9 C (call.Create (codes "d" ∷ codes "a" ∷ [])) (answer.Reply reply.Ok) (Some 6))
          ∷ Line (Answered 10 C (call.Write (codes "d" ∷ codes "a" ∷ []) 0 (codes "abcdefgh")) (answer.Reply reply.Ok) (Some 7))
          ∷ Line (Waits 12 B (call.Write (codes "b" ∷ []) 3 (codes "xb"))) ∷ Line (Durable C (1 ∷ 2 ∷ 4 ∷ [])) ∷ Line (Durable C (5 ∷ []))
          ∷ Line (Answered 12 B (call.Write (codes "b" ∷ []) 3 (codes "xb")) (answer.Reply reply.Ok) (Some 1))
          ∷ Line (Answered 13 B (call.Write (codes "b" ∷ []) 2 (codes "ay")) (answer.Reply reply.Ok) (Some 2))
          ∷ Line (Waits 14 A (call.Rename (codes "d" ∷ codes "k" ∷ []) (codes "d" ∷ codes "k2" ∷ []))) ∷ Line (Durable C (6 ∷ []))
          ∷ Line (Answered 14 A (call.Rename (codes "d" ∷ codes "k" ∷ []) (codes "d" ∷ codes "k2" ∷ [])) (answer.Reply (reply.Refused (no.NotFound 2))) None)
          ∷ Held C 401 ∷ Line (Waits 16 A (call.Write (codes "b" ∷ []) 5 (codes "bb"))) ∷ Line (Durable B (1 ∷ 2 ∷ []))
          ∷ Line (Answered 16 A (call.Write (codes "b" ∷ []) 5 (codes "bb")) (answer.Reply reply.Ok) (Some 1))
          ∷ Line (Answered 18 A (call.Write (codes "b" ∷ []) 4 (codes "yx")) (answer.Reply reply.Ok) (Some 2)) ∷ Line Nothing
          ∷ Line (Durable A (1 ∷ [])) ∷ Line (Waits 22 B (call.Write (codes "b" ∷ []) 3 (codes "axyyx"))) ∷ Line (Durable A (2 ∷ []))
          ∷ Line (Answered 22 B (call.Write (codes "b" ∷ []) 3 (codes "axyyx")) (answer.Reply reply.Ok) (Some 3))
          ∷ Line (Answered 23 C (call.Write (codes "d" ∷ codes "a" ∷ []) 3 (codes "zc")) (answer.Reply reply.Ok) (Some 8))
          ∷ Line (Answered 24 C (call.Write (codes "d" ∷ codes "a" ∷ []) 2 (codes "yz")) (answer.Reply reply.Ok) (Some 9))
          ∷ Line (Waits 26 B (call.Touch [] 8)) ∷ Held A 401 ∷ Line (Waits 28 B (call.Create (codes "d" ∷ codes "b" ∷ [])))
          ∷ Line (Waits 29 A (call.Fsync [])) ∷ Line (Answered 29 A (call.Fsync []) (answer.Reply reply.Ok) None) ∷ Line Nothing
          ∷ Line (Waits 38 A (call.List []))
          ∷ Line (Answered 38 A (call.List []) (answer.Reply (reply.Names (codes "a" ∷ codes "b" ∷ codes "d" ∷ []))) None) ∷ Line Nothing
          ∷ Line (Answered 40 B (call.List []) (answer.Reply (reply.Names (codes "a" ∷ codes "b" ∷ codes "d" ∷ []))) None)
          ∷ Line (Waits 41 C (call.List [])) ∷ Line (Waits 42 C (call.Read (codes "a" ∷ []) 0 64))
          ∷ Line (Answered 44 B (call.Read (codes "b" ∷ []) 0 64) (answer.Reply (reply.Data (codes "abaaxyyx"))) None)
          ∷ Line (Ended C (3 ∷ 7 ∷ 8 ∷ 9 ∷ [])) ∷ Line (Answered 26 B (call.Touch [] 8) (answer.Reply reply.Ok) (Some 4))
          ∷ Line (Answered 28 B (call.Create (codes "d" ∷ codes "b" ∷ [])) (answer.Reply reply.Ok) (Some 5))
          ∷ Line (Waits 46 C (call.Read (codes "d" ∷ codes "a" ∷ []) 0 64)) ∷ Line (Answered 48 A call.Sync (answer.Reply reply.Ok) None)
          ∷ Line (Waits 49 B call.Sync) ∷ Line (Durable B (3 ∷ 4 ∷ 5 ∷ [])) ∷ Line (Answered 49 B call.Sync (answer.Reply reply.Ok) None)
          ∷ Line (Waits 50 C call.Sync) ∷ [];
      status = 0;
    }

abbrev pub net_6 : LeaseRun
net_6 =
    record {
      length = 100;
      most = 99;
      lines =
          reads (Drill (line.Call C (call.Read (codes "d" ∷ codes "b" ∷ []) 0 64))) 15
          ∷ reads (Drill (line.Call D (call.Chmod (codes "d" ∷ []) 493))) 12 ∷ reads (Drill (line.Cut C)) 5
          ∷ reads (Drill (line.Call D (call.Stat (codes "d" ∷ codes "b" ∷ [])))) 8
          ∷ reads (Drill (line.Call C (call.Read (codes "d" ∷ codes "a" ∷ []) 1 9))) 15 ∷ reads (Drill (line.Uncut B)) 7
          ∷ reads (Drill (line.Call D (call.Stat (codes "d" ∷ codes "a" ∷ [])))) 8
          ∷ reads (Drill (line.Call D (call.Stat (codes "a" ∷ [])))) 8
          ∷ reads (Drill (line.Call C (call.Fsync (codes "d" ∷ codes "e" ∷ codes "a" ∷ [])))) 9 ∷ reads (Tick 34) 6
          ∷ reads (Drill (line.Call D (call.Read (codes "d" ∷ codes "b" ∷ []) 3 9))) 15 ∷ reads (Drill (line.End C)) 5
          ∷ reads (Drill (line.Call D (call.Write (codes "e" ∷ codes "a" ∷ []) 0 (codes "cxcba")))) 16
          ∷ reads (Drill (line.Call A (call.Forder ((codes "d" ∷ codes "b" ∷ []) ∷ [])))) 10
          ∷ reads (Drill (line.Call D (call.Create (codes "b" ∷ [])))) 10 ∷ reads (Drill (line.Cut C)) 5
          ∷ reads (Drill (line.Call D (call.Write (codes "b" ∷ []) 1 (codes "yc")))) 14
          ∷ reads (Drill (line.Call D (call.Write (codes "b" ∷ []) 1 (codes "bz")))) 14 ∷ reads (Drill (line.Cut B)) 5
          ∷ reads (Drill (line.Call C (call.Create (codes "a" ∷ [])))) 10 ∷ reads (Grant B) 7 ∷ reads (Drill (line.Call C (call.Stat []))) 8
          ∷ reads (Drill (line.Call A (call.Fsync (codes "b" ∷ [])))) 9
          ∷ reads (Drill (line.Call D (call.Create (codes "d" ∷ codes "a" ∷ [])))) 10 ∷ reads (Tick 100) 6
          ∷ reads (Drill (line.Repeat C msg.Want 2)) 15 ∷ reads (Drill (line.Resend A)) 8 ∷ reads (Tick 100) 6
          ∷ reads (Drill (line.Resend C)) 8 ∷ reads (Drill (line.Cut C)) 5 ∷ reads (Drill (line.Resend D)) 8
          ∷ reads (Drill (line.Resend A)) 8 ∷ reads (Tick 34) 6 ∷ reads (Drill (line.Resend C)) 8 ∷ reads (Drill (line.Resend D)) 8
          ∷ reads (Drill (line.End C)) 5 ∷ reads (Drill (line.Call A (call.List []))) 8 ∷ reads (Drill (line.Cut B)) 5
          ∷ reads (Drill (line.Call B (call.List []))) 8 ∷ reads (Skew C 77) 8 ∷ reads (Drill (line.Call C (call.List []))) 8
          ∷ reads (Tick 100) 6 ∷ reads (Drill (line.Call D (call.List []))) 8
          ∷ reads (Drill (line.Call B (call.Read (codes "a" ∷ []) 0 64))) 13
          ∷ reads (Drill (line.Call D (call.Read (codes "b" ∷ []) 0 64))) 13 ∷ reads (Drill (line.Cut C)) 5
          ∷ reads (Drill (line.Call C (call.Read (codes "d" ∷ codes "a" ∷ []) 0 64))) 15 ∷ reads (Drill (line.Call A call.Sync)) 3
          ∷ reads (Hand A 1) 8 ∷ reads (Drill (line.Call B call.Sync)) 3 ∷ reads (Grant B) 7 ∷ reads (Drill (line.Call C call.Sync)) 3
          ∷ reads (Drill (line.Cut B)) 5 ∷ reads (Drill (line.Call D call.Sync)) 3 ∷ [];
      shown =
          Line (Waits 1 C (call.Read (codes "d" ∷ codes "b" ∷ []) 0 64))
          ∷ Line (Answered 1 C (call.Read (codes "d" ∷ codes "b" ∷ []) 0 64) (answer.Reply (reply.Refused (no.NotFound 1))) None)
          ∷ Line (Waits 2 D (call.Chmod (codes "d" ∷ []) 493))
          ∷ Line (Answered 2 D (call.Chmod (codes "d" ∷ []) 493) (answer.Reply (reply.Refused (no.NotFound 1))) None)
          ∷ Line (Answered 4 D (call.Stat (codes "d" ∷ codes "b" ∷ [])) (answer.Reply (reply.Refused (no.NotFound 1))) None)
          ∷ Line (Answered 5 C (call.Read (codes "d" ∷ codes "a" ∷ []) 1 9) (answer.Reply (reply.Refused (no.NotFound 1))) None)
          ∷ Line Nothing ∷ Line (Answered 7 D (call.Stat (codes "d" ∷ codes "a" ∷ [])) (answer.Reply (reply.Refused (no.NotFound 1))) None)
          ∷ Line (Answered 8 D (call.Stat (codes "a" ∷ [])) (answer.Reply (reply.Refused (no.NotFound 1))) None)
          ∷ Line (Answered 9 C (call.Fsync (codes "d" ∷ codes "e" ∷ codes "a" ∷ [])) (answer.Reply (reply.Refused (no.NotFound 1))) None)
          ∷ Line (Answered 11 D (call.Read (codes "d" ∷ codes "b" ∷ []) 3 9) (answer.Reply (reply.Refused (no.NotFound 1))) None)
          ∷ Held C 199
          ∷ Line (Answered 13 D (call.Write (codes "e" ∷ codes "a" ∷ []) 0 (codes "cxcba")) (answer.Reply (reply.Refused (no.NotFound 1))) None)
          ∷ Line (Waits 14 A (call.Forder ((codes "d" ∷ codes "b" ∷ []) ∷ [])))
          ∷ Line (Answered 14 A (call.Forder ((codes "d" ∷ codes "b" ∷ []) ∷ [])) (answer.Reply (reply.Refused (no.NotFound 1))) None)
          ∷ Line (Waits 15 D (call.Create (codes "b" ∷ []))) ∷ Line Nothing
          ∷ Line (Answered 17 D (call.Write (codes "b" ∷ []) 1 (codes "yc")) (answer.Reply (reply.Refused (no.NotFound 1))) None)
          ∷ Line (Answered 18 D (call.Write (codes "b" ∷ []) 1 (codes "bz")) (answer.Reply (reply.Refused (no.NotFound 1))) None)
          ∷ Line (Waits 20 C (call.Create (codes "a" ∷ []))) ∷ Line Nothing
          ∷ Line (Answered 22 C (call.Stat []) (answer.Reply (reply.Stat kind.Dir 493 0 0 0)) None)
          ∷ Line (Waits 23 A (call.Fsync (codes "b" ∷ [])))
          ∷ Line (Answered 23 A (call.Fsync (codes "b" ∷ [])) (answer.Reply (reply.Refused (no.NotFound 1))) None)
          ∷ Line (Answered 24 D (call.Create (codes "d" ∷ codes "a" ∷ [])) (answer.Reply (reply.Refused (no.NotFound 1))) None)
          ∷ Line Nothing ∷ Line (Ended C []) ∷ Line (Answered 15 D (call.Create (codes "b" ∷ [])) (answer.Reply reply.Ok) (Some 1))
          ∷ Line (Waits 37 A (call.List [])) ∷ Line (Durable D (1 ∷ []))
          ∷ Line (Answered 37 A (call.List []) (answer.Reply (reply.Names (codes "b" ∷ []))) None) ∷ Line Nothing
          ∷ Line (Waits 39 B (call.List [])) ∷ Line (Waits 41 C (call.List []))
          ∷ Line (Answered 43 D (call.List []) (answer.Reply (reply.Names (codes "b" ∷ []))) None)
          ∷ Line (Waits 44 B (call.Read (codes "a" ∷ []) 0 64))
          ∷ Line (Answered 45 D (call.Read (codes "b" ∷ []) 0 64) (answer.Reply (reply.Data [])) None) ∷ Line Nothing
          ∷ Line (Waits 47 C (call.Read (codes "d" ∷ codes "a" ∷ []) 0 64)) ∷ Line (Answered 48 A call.Sync (answer.Reply reply.Ok) None)
          ∷ Line Nothing ∷ Line (Answered 50 B call.Sync (answer.Reply reply.Ok) None) ∷ Line Nothing ∷ Line (Waits 52 C call.Sync)
          ∷ Line Nothing ∷ Line (Answered 54 D call.Sync (answer.Reply reply.Ok) None) ∷ [];
      status = 0;
    }

abbrev pub net_7 : LeaseRun
net_7 =
    record {
      length = 10;
      most = 0;
      lines =
          reads (Drill (line.Call A (call.Mkdir (codes "d" ∷ [])))) 9 ∷ reads (Drill (line.Cut A)) 5
          ∷ reads (Drill (line.Call A (call.Create (codes "a" ∷ [])))) 10
          ∷ reads (Drill (line.Call B (call.Create (codes "d" ∷ codes "a" ∷ [])))) 10 ∷ reads (Drill (line.End B)) 5
          ∷ reads (Drill (line.Call A call.Sync)) 3 ∷ reads (Drill (line.End B)) 5 ∷ reads (Drill (line.Call B call.Sync)) 3
          ∷ reads (Drill (line.Call C call.Sync)) 3 ∷ reads (Hand A 1) 8 ∷ reads (Drill (line.Call B (call.Create (codes "a" ∷ [])))) 10
          ∷ reads (Tick 20) 6 ∷ reads (Drill (line.Call A (call.Touch (codes "d" ∷ []) 5))) 12 ∷ reads (Drill (line.End A)) 5
          ∷ reads (Drill (line.Uncut B)) 7 ∷ reads (Drill (line.Call A (call.Forder ((codes "d" ∷ []) ∷ [])))) 10
          ∷ reads (Drill (line.Call C (call.Write (codes "d" ∷ codes "a" ∷ []) 2 (codes "z")))) 16 ∷ reads (Tick 20) 6
          ∷ reads (Drill (line.Call A (call.Read (codes "a" ∷ []) 0 2))) 13 ∷ reads (Tick 1) 6
          ∷ reads (Drill (line.Repeat B msg.Flush 1)) 16 ∷ reads (Drill (line.Cut C)) 5 ∷ reads (Drill (line.Call B call.Sync)) 3
          ∷ reads (Drill (line.Call A (call.Write (codes "a" ∷ []) 2 (codes "c")))) 14 ∷ reads (Drill (line.Cut B)) 5
          ∷ reads (Drill (line.Call B (call.Read (codes "d" ∷ codes "a" ∷ []) 0 64))) 15
          ∷ reads (Drill (line.Call C (call.Stat (codes "d" ∷ codes "a" ∷ [])))) 8 ∷ reads (Drill (line.End B)) 5
          ∷ reads (Drill (line.Call C (call.Rename (codes "d" ∷ []) (codes "d2" ∷ [])))) 13
          ∷ reads (Drill (line.Call C (call.Touch (codes "d" ∷ codes "a" ∷ []) 8))) 14 ∷ [];
      shown =
          Line (Waits 1 A (call.Mkdir (codes "d" ∷ [])))
          ∷ Line (Answered 1 A (call.Mkdir (codes "d" ∷ [])) (answer.Reply reply.Ok) (Some 1))
          ∷ Line (Answered 3 A (call.Create (codes "a" ∷ [])) (answer.Reply reply.Ok) (Some 2))
          ∷ Line (Waits 4 B (call.Create (codes "d" ∷ codes "a" ∷ []))) ∷ Held B 10 ∷ Line (Waits 6 A call.Sync) ∷ Held B 10
          ∷ Line (Answered 8 B call.Sync (answer.Reply reply.Ok) None) ∷ Line (Answered 9 C call.Sync (answer.Reply reply.Ok) None)
          ∷ Line Nothing ∷ Line (Waits 11 B (call.Create (codes "a" ∷ []))) ∷ Line (Waits 13 A (call.Touch (codes "d" ∷ []) 5))
          ∷ Line (Ended A (1 ∷ 2 ∷ []))
          ∷ Line (Answered 4 B (call.Create (codes "d" ∷ codes "a" ∷ [])) (answer.Reply (reply.Refused (no.NotFound 1))) None)
          ∷ Line (Answered 11 B (call.Create (codes "a" ∷ [])) (answer.Reply reply.Ok) (Some 1)) ∷ Line Nothing
          ∷ Line (Waits 16 A (call.Forder ((codes "d" ∷ []) ∷ [])))
          ∷ Line (Waits 17 C (call.Write (codes "d" ∷ codes "a" ∷ []) 2 (codes "z"))) ∷ Line (Durable B (1 ∷ []))
          ∷ Line (Answered 17 C (call.Write (codes "d" ∷ codes "a" ∷ []) 2 (codes "z")) (answer.Reply (reply.Refused (no.NotFound 1))) None)
          ∷ Line (Waits 19 A (call.Read (codes "a" ∷ []) 0 2)) ∷ Line (Answered 23 B call.Sync (answer.Reply reply.Ok) None)
          ∷ Line (Waits 24 A (call.Write (codes "a" ∷ []) 2 (codes "c")))
          ∷ Line (Answered 26 B (call.Read (codes "d" ∷ codes "a" ∷ []) 0 64) (answer.Reply (reply.Refused (no.NotFound 1))) None)
          ∷ Line (Answered 27 C (call.Stat (codes "d" ∷ codes "a" ∷ [])) (answer.Reply (reply.Refused (no.NotFound 1))) None) ∷ Held B 51
          ∷ Line (Answered 29 C (call.Rename (codes "d" ∷ []) (codes "d2" ∷ [])) (answer.Reply (reply.Refused (no.NotFound 1))) None)
          ∷ Line (Answered 30 C (call.Touch (codes "d" ∷ codes "a" ∷ []) 8) (answer.Reply (reply.Refused (no.NotFound 1))) None) ∷ [];
      status = 0;
    }

abbrev pub net_8 : LeaseRun
net_8 =
    record {
      length = 10;
      most = 5;
      lines =
          reads (Drill (line.Call A (call.Mkdir (codes "d" ∷ [])))) 9 ∷ reads (Tick 4) 6
          ∷ reads (Drill (line.Call A (call.Create (codes "a" ∷ [])))) 10
          ∷ reads (Drill (line.Call A (call.Write (codes "a" ∷ []) 0 (codes "abcdefgh")))) 14 ∷ reads (Tick 4) 6
          ∷ reads (Drill (line.Call B (call.Create (codes "d" ∷ codes "a" ∷ [])))) 10
          ∷ reads (Drill (line.Call B (call.Write (codes "d" ∷ codes "a" ∷ []) 0 (codes "abcdefgh")))) 16 ∷ reads (Drill (line.Cut A)) 5
          ∷ reads (Drill (line.Call A call.Sync)) 3 ∷ reads (Drill (line.Call B call.Sync)) 3 ∷ reads (Drill (line.Call C call.Sync)) 3
          ∷ reads (Drill (line.Call B (call.Rmdir (codes "d" ∷ [])))) 9
          ∷ reads (Drill (line.Call B (call.Read (codes "d" ∷ codes "a" ∷ []) 0 9))) 15 ∷ reads (Hand B 1) 8
          ∷ reads (Drill (line.Repeat A msg.Back 2)) 15 ∷ reads (Drill (line.Call C (call.Stat (codes "d" ∷ [])))) 8
          ∷ reads (Drill (line.Call A (call.Touch (codes "d" ∷ codes "a" ∷ []) 5))) 14
          ∷ reads (Drill (line.Call A (call.Create (codes "d" ∷ codes "a" ∷ [])))) 10
          ∷ reads (Drill (line.Call A (call.Create (codes "e" ∷ codes "a" ∷ [])))) 10 ∷ reads (Drill (line.Call A (call.Stat []))) 8
          ∷ reads (Tick 20) 6 ∷ reads (Drill (line.Call C (call.Read (codes "d" ∷ codes "a" ∷ []) 3 64))) 15 ∷ reads (Drill (line.Cut B)) 5
          ∷ reads (Drill (line.Call B (call.Rename (codes "a" ∷ []) (codes "e" ∷ codes "a" ∷ [])))) 13 ∷ reads (Drill (line.Push A 1)) 8
          ∷ reads (Drill (line.Resend A)) 8 ∷ reads (Drill (line.Cut B)) 5 ∷ reads (Drill (line.Resend B)) 8
          ∷ reads (Drill (line.Resend C)) 8 ∷ reads (Drill (line.Resend A)) 8 ∷ reads (Tick 1) 6 ∷ reads (Drill (line.Resend B)) 8
          ∷ reads (Drill (line.End A)) 5 ∷ reads (Drill (line.Resend C)) 8 ∷ reads (Drill (line.Call A (call.List []))) 8
          ∷ reads (Drill (line.End B)) 5 ∷ reads (Drill (line.Call B (call.List []))) 8 ∷ reads (Drill (line.End C)) 5
          ∷ reads (Drill (line.Call C (call.List []))) 8 ∷ reads (Drill (line.Call C (call.Read (codes "a" ∷ []) 0 64))) 13
          ∷ reads (Drill (line.Call A (call.Read (codes "d" ∷ codes "a" ∷ []) 0 64))) 15 ∷ reads (Tick 1) 6
          ∷ reads (Drill (line.Call A (call.Read (codes "e" ∷ codes "a" ∷ []) 0 64))) 15 ∷ reads (Skew C 8) 8
          ∷ reads (Drill (line.Call A call.Sync)) 3 ∷ reads (Hand C 2) 8 ∷ reads (Drill (line.Call B call.Sync)) 3
          ∷ reads (Drill (line.Call C call.Sync)) 3 ∷ [];
      shown =
          Line (Waits 1 A (call.Mkdir (codes "d" ∷ [])))
          ∷ Line (Answered 1 A (call.Mkdir (codes "d" ∷ [])) (answer.Reply reply.Ok) (Some 1))
          ∷ Line (Answered 3 A (call.Create (codes "a" ∷ [])) (answer.Reply reply.Ok) (Some 2))
          ∷ Line (Answered 4 A (call.Write (codes "a" ∷ []) 0 (codes "abcdefgh")) (answer.Reply reply.Ok) (Some 3))
          ∷ Line (Waits 6 B (call.Create (codes "d" ∷ codes "a" ∷ []))) ∷ Line (Durable A (1 ∷ 2 ∷ []))
          ∷ Line (Answered 6 B (call.Create (codes "d" ∷ codes "a" ∷ [])) (answer.Reply reply.Ok) (Some 1))
          ∷ Line (Answered 7 B (call.Write (codes "d" ∷ codes "a" ∷ []) 0 (codes "abcdefgh")) (answer.Reply reply.Ok) (Some 2))
          ∷ Line (Waits 9 A call.Sync) ∷ Line (Waits 10 B call.Sync) ∷ Line (Durable B (1 ∷ 2 ∷ []))
          ∷ Line (Answered 10 B call.Sync (answer.Reply reply.Ok) None) ∷ Line (Answered 11 C call.Sync (answer.Reply reply.Ok) None)
          ∷ Line (Answered 12 B (call.Rmdir (codes "d" ∷ [])) (answer.Reply (reply.Refused no.NotEmpty)) None)
          ∷ Line (Answered 13 B (call.Read (codes "d" ∷ codes "a" ∷ []) 0 9) (answer.Reply (reply.Data (codes "abcdefgh"))) None)
          ∷ Line Nothing ∷ Line (Waits 16 C (call.Stat (codes "d" ∷ [])))
          ∷ Line (Answered 16 C (call.Stat (codes "d" ∷ [])) (answer.Reply (reply.Stat kind.Dir 493 0 0 1)) None)
          ∷ Line (Waits 17 A (call.Touch (codes "d" ∷ codes "a" ∷ []) 5)) ∷ Line (Waits 18 A (call.Create (codes "d" ∷ codes "a" ∷ [])))
          ∷ Line (Answered 19 A (call.Create (codes "e" ∷ codes "a" ∷ [])) (answer.Reply (reply.Refused (no.NotFound 1))) None)
          ∷ Line (Answered 20 A (call.Stat []) (answer.Reply (reply.Stat kind.Dir 493 0 0 2)) None)
          ∷ Line (Waits 22 C (call.Read (codes "d" ∷ codes "a" ∷ []) 3 64))
          ∷ Line (Answered 22 C (call.Read (codes "d" ∷ codes "a" ∷ []) 3 64) (answer.Reply (reply.Data (codes "defgh"))) None)
          ∷ Line (Waits 24 B (call.Rename (codes "a" ∷ []) (codes "e" ∷ codes "a" ∷ []))) ∷ Line Nothing ∷ Line Nothing
          ∷ Line (Ended A (3 ∷ [])) ∷ Line (Waits 35 A (call.List [])) ∷ Held B 43
          ∷ Line (Answered 37 B (call.List []) (answer.Reply (reply.Names (codes "a" ∷ codes "d" ∷ []))) None) ∷ Held C 44
          ∷ Line (Answered 39 C (call.List []) (answer.Reply (reply.Names (codes "a" ∷ codes "d" ∷ []))) None)
          ∷ Line (Waits 40 C (call.Read (codes "a" ∷ []) 0 64))
          ∷ Line (Answered 40 C (call.Read (codes "a" ∷ []) 0 64) (answer.Reply (reply.Data [])) None)
          ∷ Line (Waits 41 A (call.Read (codes "d" ∷ codes "a" ∷ []) 0 64))
          ∷ Line (Waits 43 A (call.Read (codes "e" ∷ codes "a" ∷ []) 0 64)) ∷ Line (Waits 45 A call.Sync) ∷ Line Nothing
          ∷ Line (Answered 47 B call.Sync (answer.Reply reply.Ok) None) ∷ Line (Answered 48 C call.Sync (answer.Reply reply.Ok) None) ∷ [];
      status = 0;
    }

abbrev pub net_9 : LeaseRun
net_9 =
    record {
      length = 100;
      most = 3;
      lines =
          reads (Tick 1) 6 ∷ reads (Drill (line.Call C (call.Rmdir (codes "e" ∷ [])))) 9 ∷ reads (Tick 34) 6
          ∷ reads (Drill (line.Call A (call.Write (codes "e" ∷ codes "a" ∷ []) 6 (codes "x")))) 16 ∷ reads (Drill (line.Call B call.Sync)) 3
          ∷ reads (Tick 1) 6 ∷ reads (Drill (line.Call A (call.Write (codes "d" ∷ codes "a" ∷ []) 3 (codes "bz")))) 16 ∷ reads (Hand B 1) 8
          ∷ reads (Drill (line.Call A (call.Write (codes "d" ∷ codes "a" ∷ []) 5 (codes "b")))) 16
          ∷ reads (Drill (line.Call A (call.Write (codes "d" ∷ codes "a" ∷ []) 0 (codes "x")))) 16 ∷ reads (Skew A 0) 8
          ∷ reads (Drill (line.Cut C)) 5 ∷ reads (Drill (line.End A)) 5 ∷ reads (Drill (line.Call B (call.Fsync (codes "b" ∷ [])))) 9
          ∷ reads (Tick 200) 6 ∷ reads (Drill (line.Repeat B msg.Claim 1)) 16 ∷ reads (Tick 34) 6
          ∷ reads (Drill (line.Deliver C msg.Opened 1)) 18 ∷ reads (Drill (line.Call A (call.Fsync []))) 9 ∷ reads (Hand B 3) 8
          ∷ reads (Drill (line.Call B call.Sync)) 3 ∷ reads (Drill (line.End A)) 5
          ∷ reads (Drill (line.Call C (call.Stat (codes "d" ∷ codes "a" ∷ [])))) 8 ∷ reads (Drill (line.End C)) 5
          ∷ reads (Drill (line.Call B call.Sync)) 3 ∷ reads (Drill (line.Uncut C)) 7 ∷ reads (Drill (line.Cut C)) 5
          ∷ reads (Drill (line.Cut A)) 5 ∷ reads (Drill (line.Call A (call.Read (codes "a" ∷ []) 0 9))) 13 ∷ reads (Tick 34) 6
          ∷ reads (Drill (line.Call B (call.Write (codes "e" ∷ codes "a" ∷ []) 0 (codes "z")))) 16 ∷ reads (Skew A 4) 8
          ∷ reads (Drill (line.Call C (call.Write (codes "a" ∷ []) 0 (codes "bb")))) 14 ∷ reads (Grant B) 7
          ∷ reads (Drill (line.Call A (call.Write (codes "e" ∷ codes "a" ∷ []) 2 (codes "a")))) 16 ∷ reads (Hand C 2) 8
          ∷ reads (Drill (line.Uncut C)) 7 ∷ reads (Drill (line.Cut B)) 5 ∷ reads (Drill (line.Resend A)) 8 ∷ reads (Tick 1) 6
          ∷ reads (Drill (line.Resend B)) 8 ∷ reads (Drill (line.Resend C)) 8 ∷ reads (Drill (line.Cut A)) 5
          ∷ reads (Drill (line.Resend A)) 8 ∷ reads (Drill (line.Resend B)) 8 ∷ reads (Drill (line.Resend C)) 8 ∷ reads (Tick 200) 6
          ∷ reads (Drill (line.Call A (call.List []))) 8 ∷ reads (Drill (line.End C)) 5 ∷ reads (Drill (line.Call B (call.List []))) 8
          ∷ reads (Drill (line.Call C (call.List []))) 8 ∷ reads (Drill (line.Call C (call.Read (codes "a" ∷ []) 0 64))) 13
          ∷ reads (Grant C) 7 ∷ reads (Drill (line.Call C (call.Read (codes "b" ∷ []) 0 64))) 13
          ∷ reads (Drill (line.Call A (call.Read (codes "d" ∷ codes "a" ∷ []) 0 64))) 15 ∷ reads (Drill (line.Call A call.Sync)) 3
          ∷ reads (Drill (line.Call B call.Sync)) 3 ∷ reads (Drill (line.End C)) 5 ∷ reads (Drill (line.Call C call.Sync)) 3 ∷ [];
      shown =
          Line (Waits 2 C (call.Rmdir (codes "e" ∷ [])))
          ∷ Line (Answered 2 C (call.Rmdir (codes "e" ∷ [])) (answer.Reply (reply.Refused (no.NotFound 1))) None)
          ∷ Line (Waits 4 A (call.Write (codes "e" ∷ codes "a" ∷ []) 6 (codes "x")))
          ∷ Line (Answered 4 A (call.Write (codes "e" ∷ codes "a" ∷ []) 6 (codes "x")) (answer.Reply (reply.Refused (no.NotFound 1))) None)
          ∷ Line (Answered 5 B call.Sync (answer.Reply reply.Ok) None)
          ∷ Line (Answered 7 A (call.Write (codes "d" ∷ codes "a" ∷ []) 3 (codes "bz")) (answer.Reply (reply.Refused (no.NotFound 1))) None)
          ∷ Line Nothing
          ∷ Line (Answered 9 A (call.Write (codes "d" ∷ codes "a" ∷ []) 5 (codes "b")) (answer.Reply (reply.Refused (no.NotFound 1))) None)
          ∷ Line (Answered 10 A (call.Write (codes "d" ∷ codes "a" ∷ []) 0 (codes "x")) (answer.Reply (reply.Refused (no.NotFound 1))) None)
          ∷ Held A 139 ∷ Line (Waits 14 B (call.Fsync (codes "b" ∷ [])))
          ∷ Line (Answered 14 B (call.Fsync (codes "b" ∷ [])) (answer.Reply (reply.Refused (no.NotFound 1))) None) ∷ Line Nothing
          ∷ Line (Answered 19 A (call.Fsync []) (answer.Reply reply.Ok) None) ∷ Line Nothing
          ∷ Line (Answered 21 B call.Sync (answer.Reply reply.Ok) None) ∷ Held A 373
          ∷ Line (Waits 23 C (call.Stat (codes "d" ∷ codes "a" ∷ []))) ∷ Line (Ended C [])
          ∷ Line (Answered 25 B call.Sync (answer.Reply reply.Ok) None) ∷ Line (Told C [])
          ∷ Line (Answered 23 C (call.Stat (codes "d" ∷ codes "a" ∷ [])) (answer.Reply (reply.Refused (no.NotFound 1))) None)
          ∷ Line (Answered 29 A (call.Read (codes "a" ∷ []) 0 9) (answer.Reply (reply.Refused (no.NotFound 1))) None)
          ∷ Line (Answered 31 B (call.Write (codes "e" ∷ codes "a" ∷ []) 0 (codes "z")) (answer.Reply (reply.Refused (no.NotFound 1))) None)
          ∷ Line (Answered 33 C (call.Write (codes "a" ∷ []) 0 (codes "bb")) (answer.Reply (reply.Refused (no.NotFound 1))) None)
          ∷ Line (Answered 35 A (call.Write (codes "e" ∷ codes "a" ∷ []) 2 (codes "a")) (answer.Reply (reply.Refused (no.NotFound 1))) None)
          ∷ Line Nothing ∷ Line Nothing ∷ Line (Waits 48 A (call.List [])) ∷ Held C 608 ∷ Line (Waits 50 B (call.List []))
          ∷ Line (Answered 51 C (call.List []) (answer.Reply (reply.Names [])) None)
          ∷ Line (Answered 52 C (call.Read (codes "a" ∷ []) 0 64) (answer.Reply (reply.Refused (no.NotFound 1))) None)
          ∷ Line (Answered 54 C (call.Read (codes "b" ∷ []) 0 64) (answer.Reply (reply.Refused (no.NotFound 1))) None)
          ∷ Line (Waits 55 A (call.Read (codes "d" ∷ codes "a" ∷ []) 0 64)) ∷ Line (Waits 56 A call.Sync) ∷ Line (Waits 57 B call.Sync)
          ∷ Held C 608 ∷ Line (Answered 59 C call.Sync (answer.Reply reply.Ok) None) ∷ [];
      status = 0;
    }
