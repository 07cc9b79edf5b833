-- Random scripts with leases, crashes and ended sessions.
use Rattle.std.specs.Prelude.{[], ◌∷◌, None, Some, codes}
use Rattle.ec_volume.specs.declared.image.Kind.TheVariants as kind
use Rattle.ec_plain.specs.declared.call.Call.TheVariants as call
use Rattle.ec_plain.specs.declared.call.Reply.TheVariants as reply
use Rattle.ec_plain.specs.declared.call.Refusal.TheVariants as no
use Rattle.ec_history.specs.declared.entry.Answer.TheVariants as answer
use Rattle.ec_history.specs.declared.shown.Shown.TheVariants.{Waits, Answered, Durable, Ended, Told, Crashed, Nothing}
use Rattle.ec_wire.specs.declared.msg.MsgKind.TheVariants as msg
use Rattle.ec_protocol.specs.declared.script.Line.TheVariants as line
use Rattle.ec_protocol.specs.Runs.{A, B, C, D}
use Rattle.ec_lease_machine.specs.declared.world.LeaseShown.TheVariants.{Line, Held}
use Rattle.ec_lease_machine.specs.declared.script.LeaseLine.TheVariants.{Drill, Tick, Skew, Grant, Hand}
use Rattle.ec_lease_machine.specs.Drill.{reads}
use Rattle.ec_lease_machine.specs.Runs.{LeaseRun}

abbrev pub crash_0 : LeaseRun
crash_0 =
    record {
      length = 100;
      most = 0;
      lines =
          reads (Drill (line.Call B (call.Rename (codes "e" ∷ []) (codes "e" ∷ codes "d" ∷ [])))) 13
          ∷ reads (Drill (line.Call A (call.Create (codes "a" ∷ [])))) 10 ∷ reads (Drill (line.Cut A)) 5 ∷ reads (Drill (line.Push A 1)) 8
          ∷ reads (Drill (line.Deliver A msg.Flush 1)) 17 ∷ reads (Tick 200) 6 ∷ reads (Drill (line.Drop A msg.Kept 1)) 13
          ∷ reads (Drill (line.Call A (call.Rename (codes "a" ∷ []) (codes "a" ∷ [])))) 13 ∷ reads (Drill (line.Cut A)) 5
          ∷ reads (Drill (line.End A)) 5 ∷ reads (Drill (line.Cut A)) 5 ∷ reads (Drill (line.Call A (call.Remove (codes "a" ∷ [])))) 10
          ∷ reads (Drill (line.End B)) 5 ∷ reads (Drill (line.Uncut A)) 7 ∷ reads (Drill (line.Cut B)) 5
          ∷ reads (Drill (line.Call A (call.Read (codes "a" ∷ []) 0 9))) 13 ∷ reads (Tick 1) 6 ∷ reads (Drill (line.Call A call.Sync)) 3
          ∷ reads (Skew B 0) 8 ∷ reads (Drill (line.Call A (call.Read (codes "a" ∷ []) 0 9))) 13 ∷ reads (Tick 34) 6
          ∷ reads (Drill (line.Call A (call.Stat (codes "e" ∷ [])))) 8 ∷ reads (Drill (line.Call B (call.Rmdir (codes "e" ∷ [])))) 9
          ∷ reads (Tick 34) 6 ∷ reads (Drill (line.Call A (call.SetLen (codes "a" ∷ []) 1))) 13 ∷ reads (Tick 100) 6
          ∷ reads (Drill (line.Call A (call.Mkdir (codes "e" ∷ [])))) 9 ∷ reads (Drill (line.End B)) 5 ∷ reads (Drill (line.Crash A)) 7
          ∷ reads (Tick 200) 6 ∷ reads (Drill (line.Call B (call.Chown [] 1))) 11
          ∷ reads (Drill (line.Call B (call.Read (codes "d" ∷ codes "a" ∷ []) 0 0))) 15 ∷ reads (Skew B 0) 8
          ∷ reads (Drill (line.Resend B)) 8 ∷ reads (Tick 1) 6 ∷ reads (Drill (line.Resend B)) 8
          ∷ reads (Drill (line.Call A (call.List []))) 8 ∷ reads (Drill (line.End C)) 5 ∷ reads (Drill (line.Call B (call.List []))) 8
          ∷ reads (Tick 34) 6 ∷ reads (Drill (line.Call B (call.Read (codes "a" ∷ []) 0 64))) 13 ∷ reads (Grant C) 7
          ∷ reads (Drill (line.Call B (call.Read (codes "d" ∷ codes "a" ∷ []) 0 64))) 15 ∷ reads (Skew A 0) 8
          ∷ reads (Drill (line.Call B (call.Read (codes "e" ∷ codes "a" ∷ []) 0 64))) 15 ∷ [];
      shown =
          Line (Waits 1 B (call.Rename (codes "e" ∷ []) (codes "e" ∷ codes "d" ∷ [])))
          ∷ Line (Answered 1 B (call.Rename (codes "e" ∷ []) (codes "e" ∷ codes "d" ∷ [])) (answer.Reply (reply.Refused (no.NotFound 1))) None)
          ∷ Line (Waits 2 A (call.Create (codes "a" ∷ [])))
          ∷ Line (Answered 2 A (call.Create (codes "a" ∷ [])) (answer.Reply reply.Ok) (Some 1)) ∷ Line (Durable A (1 ∷ []))
          ∷ Line (Waits 8 A (call.Rename (codes "a" ∷ []) (codes "a" ∷ []))) ∷ Line Nothing ∷ Line (Ended A []) ∷ Line Nothing
          ∷ Line (Waits 12 A (call.Remove (codes "a" ∷ []))) ∷ Held B 300 ∷ Line (Told A [])
          ∷ Line (Answered 8 A (call.Rename (codes "a" ∷ []) (codes "a" ∷ [])) (answer.Reply reply.Ok) None)
          ∷ Line (Answered 12 A (call.Remove (codes "a" ∷ [])) (answer.Reply reply.Ok) (Some 2))
          ∷ Line (Answered 16 A (call.Read (codes "a" ∷ []) 0 9) (answer.Reply (reply.Refused (no.NotFound 1))) None)
          ∷ Line (Waits 18 A call.Sync) ∷ Line (Durable A (2 ∷ [])) ∷ Line (Answered 18 A call.Sync (answer.Reply reply.Ok) None)
          ∷ Line (Answered 20 A (call.Read (codes "a" ∷ []) 0 9) (answer.Reply (reply.Refused (no.NotFound 1))) None)
          ∷ Line (Answered 22 A (call.Stat (codes "e" ∷ [])) (answer.Reply (reply.Refused (no.NotFound 1))) None)
          ∷ Line (Waits 23 B (call.Rmdir (codes "e" ∷ [])))
          ∷ Line (Answered 25 A (call.SetLen (codes "a" ∷ []) 1) (answer.Reply (reply.Refused (no.NotFound 1))) None)
          ∷ Line (Waits 27 A (call.Mkdir (codes "e" ∷ [])))
          ∷ Line (Answered 27 A (call.Mkdir (codes "e" ∷ [])) (answer.Reply reply.Ok) (Some 3)) ∷ Line (Ended B []) ∷ Line (Crashed A)
          ∷ Line (Waits 31 B (call.Chown [] 1)) ∷ Line (Waits 32 B (call.Read (codes "d" ∷ codes "a" ∷ []) 0 0))
          ∷ Line (Waits 37 A (call.List [])) ∷ Line (Ended A (3 ∷ []))
          ∷ Line (Answered 37 A (call.List []) (answer.Reply (reply.Names [])) None) ∷ Line Nothing ∷ Line (Waits 39 B (call.List []))
          ∷ Line (Waits 41 B (call.Read (codes "a" ∷ []) 0 64)) ∷ Line Nothing
          ∷ Line (Waits 43 B (call.Read (codes "d" ∷ codes "a" ∷ []) 0 64))
          ∷ Line (Waits 45 B (call.Read (codes "e" ∷ codes "a" ∷ []) 0 64)) ∷ [];
      status = 0;
    }

abbrev pub crash_1 : LeaseRun
crash_1 =
    record {
      length = 10;
      most = 0;
      lines =
          reads (Drill (line.Call C (call.Mkdir (codes "d" ∷ [])))) 9 ∷ reads (Drill (line.Call C (call.Create (codes "a" ∷ [])))) 10
          ∷ reads (Drill (line.Call C (call.Write (codes "a" ∷ []) 0 (codes "abcdefgh")))) 14
          ∷ reads (Drill (line.Call B (call.Create (codes "b" ∷ [])))) 10 ∷ reads (Tick 1) 6
          ∷ reads (Drill (line.Call B (call.Write (codes "b" ∷ []) 0 (codes "abcdefgh")))) 14 ∷ reads (Grant B) 7
          ∷ reads (Drill (line.Call A call.Sync)) 3 ∷ reads (Drill (line.Call B call.Sync)) 3 ∷ reads (Hand C 2) 8
          ∷ reads (Drill (line.Call C call.Sync)) 3 ∷ reads (Tick 20) 6 ∷ reads (Drill (line.Call C (call.List []))) 8 ∷ reads (Tick 4) 6
          ∷ reads (Drill (line.Call B (call.Rename (codes "b" ∷ []) (codes "e" ∷ codes "a" ∷ [])))) 13 ∷ reads (Tick 20) 6
          ∷ reads (Drill (line.Call C (call.Write (codes "b" ∷ []) 2 (codes "yc")))) 14 ∷ reads (Drill (line.Cut A)) 5
          ∷ reads (Drill (line.Call C (call.Write (codes "b" ∷ []) 4 (codes "b")))) 14 ∷ reads (Hand B 3) 8
          ∷ reads (Drill (line.Call A (call.Fsync []))) 9 ∷ reads (Tick 4) 6 ∷ reads (Drill (line.Call B (call.Stat []))) 8
          ∷ reads (Drill (line.Call B (call.Create (codes "d" ∷ codes "a" ∷ [])))) 10
          ∷ reads (Drill (line.Call C (call.Write (codes "e" ∷ codes "a" ∷ []) 0 (codes "xcz")))) 16 ∷ reads (Hand C 3) 8
          ∷ reads (Drill (line.Call A (call.Create (codes "d" ∷ codes "b" ∷ [])))) 10 ∷ reads (Tick 1) 6
          ∷ reads (Drill (line.Call B (call.Chmod (codes "b" ∷ []) 384))) 12
          ∷ reads (Drill (line.Call C (call.Mkdir (codes "d" ∷ codes "e" ∷ [])))) 9
          ∷ reads (Drill (line.Call C (call.Stat (codes "b" ∷ [])))) 8 ∷ reads (Grant B) 7 ∷ reads (Drill (line.Resend A)) 8
          ∷ reads (Drill (line.Resend B)) 8 ∷ reads (Tick 10) 6 ∷ reads (Drill (line.Resend C)) 8 ∷ reads (Drill (line.Resend A)) 8
          ∷ reads (Drill (line.End C)) 5 ∷ reads (Drill (line.Resend B)) 8 ∷ reads (Grant B) 7 ∷ reads (Drill (line.Resend C)) 8
          ∷ reads (Drill (line.Call A (call.List []))) 8 ∷ reads (Drill (line.Call B (call.List []))) 8
          ∷ reads (Drill (line.Call C (call.List []))) 8 ∷ reads (Drill (line.Call C (call.Read (codes "a" ∷ []) 0 64))) 13
          ∷ reads (Tick 10) 6 ∷ reads (Drill (line.Call C (call.Read (codes "b" ∷ []) 0 64))) 13
          ∷ reads (Drill (line.Call A (call.Read (codes "d" ∷ codes "a" ∷ []) 0 64))) 15 ∷ reads (Drill (line.Call A call.Sync)) 3
          ∷ reads (Drill (line.End A)) 5 ∷ reads (Drill (line.Call B call.Sync)) 3 ∷ reads (Drill (line.Call C call.Sync)) 3 ∷ [];
      shown =
          Line (Waits 1 C (call.Mkdir (codes "d" ∷ [])))
          ∷ Line (Answered 1 C (call.Mkdir (codes "d" ∷ [])) (answer.Reply reply.Ok) (Some 1))
          ∷ Line (Answered 2 C (call.Create (codes "a" ∷ [])) (answer.Reply reply.Ok) (Some 2))
          ∷ Line (Answered 3 C (call.Write (codes "a" ∷ []) 0 (codes "abcdefgh")) (answer.Reply reply.Ok) (Some 3))
          ∷ Line (Waits 4 B (call.Create (codes "b" ∷ []))) ∷ Line (Durable C (1 ∷ 2 ∷ []))
          ∷ Line (Answered 4 B (call.Create (codes "b" ∷ [])) (answer.Reply reply.Ok) (Some 1))
          ∷ Line (Answered 6 B (call.Write (codes "b" ∷ []) 0 (codes "abcdefgh")) (answer.Reply reply.Ok) (Some 2))
          ∷ Line (Answered 8 A call.Sync (answer.Reply reply.Ok) None) ∷ Line (Waits 9 B call.Sync) ∷ Line (Durable B (1 ∷ 2 ∷ []))
          ∷ Line (Answered 9 B call.Sync (answer.Reply reply.Ok) None) ∷ Line Nothing ∷ Line (Waits 11 C call.Sync)
          ∷ Line (Durable C (3 ∷ [])) ∷ Line (Answered 11 C call.Sync (answer.Reply reply.Ok) None) ∷ Line (Waits 13 C (call.List []))
          ∷ Line (Answered 13 C (call.List []) (answer.Reply (reply.Names (codes "a" ∷ codes "b" ∷ codes "d" ∷ []))) None)
          ∷ Line (Answered 15 B (call.Rename (codes "b" ∷ []) (codes "e" ∷ codes "a" ∷ [])) (answer.Reply (reply.Refused (no.NotFound 1))) None)
          ∷ Line (Waits 17 C (call.Write (codes "b" ∷ []) 2 (codes "yc")))
          ∷ Line (Answered 17 C (call.Write (codes "b" ∷ []) 2 (codes "yc")) (answer.Reply reply.Ok) (Some 4))
          ∷ Line (Answered 19 C (call.Write (codes "b" ∷ []) 4 (codes "b")) (answer.Reply reply.Ok) (Some 5)) ∷ Line Nothing
          ∷ Line (Waits 21 A (call.Fsync [])) ∷ Line (Answered 23 B (call.Stat []) (answer.Reply (reply.Stat kind.Dir 493 0 0 3)) None)
          ∷ Line (Waits 24 B (call.Create (codes "d" ∷ codes "a" ∷ [])))
          ∷ Line (Answered 24 B (call.Create (codes "d" ∷ codes "a" ∷ [])) (answer.Reply reply.Ok) (Some 3))
          ∷ Line (Answered 25 C (call.Write (codes "e" ∷ codes "a" ∷ []) 0 (codes "xcz")) (answer.Reply (reply.Refused (no.NotFound 1))) None)
          ∷ Line Nothing ∷ Line (Waits 27 A (call.Create (codes "d" ∷ codes "b" ∷ [])))
          ∷ Line (Waits 29 B (call.Chmod (codes "b" ∷ []) 384)) ∷ Line (Durable C (4 ∷ 5 ∷ []))
          ∷ Line (Answered 29 B (call.Chmod (codes "b" ∷ []) 384) (answer.Reply reply.Ok) (Some 4))
          ∷ Line (Waits 30 C (call.Mkdir (codes "d" ∷ codes "e" ∷ []))) ∷ Line (Durable B (3 ∷ []))
          ∷ Line (Answered 30 C (call.Mkdir (codes "d" ∷ codes "e" ∷ [])) (answer.Reply reply.Ok) (Some 6))
          ∷ Line (Waits 31 C (call.Stat (codes "b" ∷ []))) ∷ Line (Durable B (4 ∷ []))
          ∷ Line (Answered 31 C (call.Stat (codes "b" ∷ [])) (answer.Reply (reply.Stat kind.File 384 0 0 8)) None) ∷ Held C 70
          ∷ Line (Waits 42 A (call.List []))
          ∷ Line (Answered 43 B (call.List []) (answer.Reply (reply.Names (codes "a" ∷ codes "b" ∷ codes "d" ∷ []))) None)
          ∷ Line (Answered 44 C (call.List []) (answer.Reply (reply.Names (codes "a" ∷ codes "b" ∷ codes "d" ∷ []))) None)
          ∷ Line (Answered 45 C (call.Read (codes "a" ∷ []) 0 64) (answer.Reply (reply.Data (codes "abcdefgh"))) None)
          ∷ Line (Answered 47 C (call.Read (codes "b" ∷ []) 0 64) (answer.Reply (reply.Data (codes "abycbfgh"))) None)
          ∷ Line (Waits 48 A (call.Read (codes "d" ∷ codes "a" ∷ []) 0 64)) ∷ Line (Waits 49 A call.Sync) ∷ Line (Ended A [])
          ∷ Line (Answered 51 B call.Sync (answer.Reply reply.Ok) None) ∷ Line (Waits 52 C call.Sync) ∷ Line (Durable C (6 ∷ []))
          ∷ Line (Answered 52 C call.Sync (answer.Reply reply.Ok) None) ∷ [];
      status = 0;
    }

abbrev pub crash_2 : LeaseRun
crash_2 =
    record {
      length = 10;
      most = 9;
      lines =
          reads (Tick 10) 6 ∷ reads (Drill (line.Call A (call.Mkdir (codes "d" ∷ [])))) 9 ∷ reads (Skew B 9) 8
          ∷ reads (Drill (line.Call A (call.Create (codes "a" ∷ [])))) 10 ∷ reads (Grant C) 7
          ∷ reads (Drill (line.Call A (call.Write (codes "a" ∷ []) 0 (codes "abcdefgh")))) 14
          ∷ reads (Drill (line.Call B (call.Rename (codes "d" ∷ []) (codes "d" ∷ codes "z" ∷ [])))) 13 ∷ reads (Drill (line.End A)) 5
          ∷ reads (Drill (line.Repeat A msg.Recall 1)) 17 ∷ reads (Skew B 4) 8 ∷ reads (Drill (line.Cut A)) 5
          ∷ reads (Drill (line.Push A 3)) 8 ∷ reads (Grant C) 7 ∷ reads (Drill (line.Deliver A msg.Flush 2)) 17
          ∷ reads (Drill (line.Drop A msg.Kept 2)) 13 ∷ reads (Drill (line.Crash A)) 7
          ∷ reads (Drill (line.Call C (call.Create (codes "a" ∷ [])))) 10 ∷ reads (Drill (line.Call C (call.Read (codes "a" ∷ []) 0 9))) 13
          ∷ reads (Drill (line.Uncut A)) 7 ∷ reads (Drill (line.Call A (call.Read (codes "a" ∷ []) 0 9))) 13 ∷ reads (Drill (line.Cut A)) 5
          ∷ reads (Drill (line.Call A call.Sync)) 3 ∷ reads (Tick 4) 6 ∷ reads (Drill (line.Call A (call.Stat (codes "a2" ∷ [])))) 8
          ∷ reads (Tick 10) 6 ∷ reads (Drill (line.Call A call.Sync)) 3 ∷ reads (Tick 20) 6 ∷ reads (Drill (line.Call C (call.List []))) 8
          ∷ reads (Drill (line.Call C (call.Rename (codes "a" ∷ []) (codes "a" ∷ [])))) 13
          ∷ reads (Drill (line.Call B (call.Create (codes "d" ∷ codes "a" ∷ [])))) 10 ∷ reads (Hand C 3) 8 ∷ reads (Drill (line.Resend A)) 8
          ∷ reads (Drill (line.Resend B)) 8 ∷ reads (Tick 1) 6 ∷ reads (Drill (line.Resend C)) 8 ∷ reads (Drill (line.Resend A)) 8
          ∷ reads (Drill (line.Resend B)) 8 ∷ reads (Tick 1) 6 ∷ reads (Drill (line.Resend C)) 8
          ∷ reads (Drill (line.Call A (call.List []))) 8 ∷ reads (Grant A) 7 ∷ reads (Drill (line.Call B (call.List []))) 8
          ∷ reads (Tick 4) 6 ∷ reads (Drill (line.Call C (call.List []))) 8
          ∷ reads (Drill (line.Call C (call.Read (codes "a" ∷ []) 0 64))) 13 ∷ reads (Tick 20) 6
          ∷ reads (Drill (line.Call C (call.Read (codes "d" ∷ codes "a" ∷ []) 0 64))) 15
          ∷ reads (Drill (line.Call A (call.Read (codes "e" ∷ codes "a" ∷ []) 0 64))) 15 ∷ [];
      shown =
          Line (Waits 2 A (call.Mkdir (codes "d" ∷ [])))
          ∷ Line (Answered 2 A (call.Mkdir (codes "d" ∷ [])) (answer.Reply reply.Ok) (Some 1))
          ∷ Line (Answered 4 A (call.Create (codes "a" ∷ [])) (answer.Reply reply.Ok) (Some 2)) ∷ Line Nothing
          ∷ Line (Answered 6 A (call.Write (codes "a" ∷ []) 0 (codes "abcdefgh")) (answer.Reply reply.Ok) (Some 3))
          ∷ Line (Waits 7 B (call.Rename (codes "d" ∷ []) (codes "d" ∷ codes "z" ∷ []))) ∷ Line (Durable A (1 ∷ 2 ∷ []))
          ∷ Line (Answered 7 B (call.Rename (codes "d" ∷ []) (codes "d" ∷ codes "z" ∷ [])) (answer.Reply (reply.Refused no.Loop)) None)
          ∷ Held A 29 ∷ Line Nothing ∷ Line (Durable A (3 ∷ [])) ∷ Line (Crashed A) ∷ Line (Waits 17 C (call.Create (codes "a" ∷ [])))
          ∷ Line (Answered 17 C (call.Create (codes "a" ∷ [])) (answer.Reply (reply.Refused no.Exists)) None)
          ∷ Line (Waits 18 C (call.Read (codes "a" ∷ []) 0 9)) ∷ Line (Waits 20 A (call.Read (codes "a" ∷ []) 0 9)) ∷ Line (Ended A [])
          ∷ Line (Answered 18 C (call.Read (codes "a" ∷ []) 0 9) (answer.Reply (reply.Data (codes "abcdefgh"))) None)
          ∷ Line (Answered 20 A (call.Read (codes "a" ∷ []) 0 9) (answer.Reply (reply.Data (codes "abcdefgh"))) None)
          ∷ Line (Answered 22 A call.Sync (answer.Reply reply.Ok) None)
          ∷ Line (Answered 24 A (call.Stat (codes "a2" ∷ [])) (answer.Reply (reply.Refused (no.NotFound 1))) None)
          ∷ Line (Waits 26 A call.Sync) ∷ Line (Answered 28 C (call.List []) (answer.Reply (reply.Names (codes "a" ∷ codes "d" ∷ []))) None)
          ∷ Line (Answered 29 C (call.Rename (codes "a" ∷ []) (codes "a" ∷ [])) (answer.Reply reply.Ok) None)
          ∷ Line (Waits 30 B (call.Create (codes "d" ∷ codes "a" ∷ [])))
          ∷ Line (Answered 30 B (call.Create (codes "d" ∷ codes "a" ∷ [])) (answer.Reply reply.Ok) (Some 1)) ∷ Line Nothing
          ∷ Line (Waits 40 A (call.List []))
          ∷ Line (Answered 42 B (call.List []) (answer.Reply (reply.Names (codes "a" ∷ codes "d" ∷ []))) None)
          ∷ Line (Answered 44 C (call.List []) (answer.Reply (reply.Names (codes "a" ∷ codes "d" ∷ []))) None)
          ∷ Line (Answered 45 C (call.Read (codes "a" ∷ []) 0 64) (answer.Reply (reply.Data (codes "abcdefgh"))) None)
          ∷ Line (Waits 47 C (call.Read (codes "d" ∷ codes "a" ∷ []) 0 64)) ∷ Line (Durable B (1 ∷ []))
          ∷ Line (Answered 47 C (call.Read (codes "d" ∷ codes "a" ∷ []) 0 64) (answer.Reply (reply.Data [])) None)
          ∷ Line (Waits 48 A (call.Read (codes "e" ∷ codes "a" ∷ []) 0 64)) ∷ [];
      status = 0;
    }

abbrev pub crash_3 : LeaseRun
crash_3 =
    record {
      length = 100;
      most = 0;
      lines =
          reads (Drill (line.Call B (call.Rename (codes "d" ∷ codes "a" ∷ []) (codes "a" ∷ [])))) 15
          ∷ reads (Drill (line.Call A (call.Rename (codes "d" ∷ codes "a" ∷ []) (codes "d" ∷ codes "a" ∷ [])))) 15
          ∷ reads (Drill (line.Cut B)) 5 ∷ reads (Drill (line.Cut B)) 5 ∷ reads (Drill (line.Call B (call.Rmdir (codes "d" ∷ [])))) 9
          ∷ reads (Drill (line.Call A (call.Create (codes "a" ∷ [])))) 10 ∷ reads (Grant C) 7 ∷ reads (Drill (line.Repeat A msg.Want 1)) 15
          ∷ reads (Tick 100) 6 ∷ reads (Drill (line.Call B (call.Rename (codes "e" ∷ []) (codes "e" ∷ codes "z" ∷ [])))) 13
          ∷ reads (Drill (line.End B)) 5 ∷ reads (Drill (line.Call B (call.Chown (codes "d" ∷ []) 7))) 12
          ∷ reads (Drill (line.Call A (call.Remove (codes "d" ∷ codes "a" ∷ [])))) 10 ∷ reads (Skew B 0) 8 ∷ reads (Drill (line.Cut A)) 5
          ∷ reads (Drill (line.Call A (call.Stat []))) 8 ∷ reads (Tick 34) 6 ∷ reads (Drill (line.Call B (call.Chmod [] 4095))) 11
          ∷ reads (Drill (line.End A)) 5 ∷ reads (Drill (line.Call A (call.List (codes "d" ∷ [])))) 8
          ∷ reads (Drill (line.Call A (call.Create (codes "a" ∷ [])))) 10
          ∷ reads (Drill (line.Call B (call.Rename (codes "d" ∷ codes "a" ∷ []) (codes "d" ∷ codes "a" ∷ [])))) 15
          ∷ reads (Drill (line.Call B (call.Write (codes "a" ∷ []) 0 (codes "cxzcz")))) 14 ∷ reads (Drill (line.End A)) 5
          ∷ reads (Drill (line.Call B (call.Remove (codes "a" ∷ [])))) 10 ∷ reads (Grant B) 7
          ∷ reads (Drill (line.Call B (call.Stat (codes "d" ∷ [])))) 8 ∷ reads (Drill (line.Uncut A)) 7 ∷ reads (Skew C 0) 8
          ∷ reads (Drill (line.Uncut B)) 7 ∷ reads (Drill (line.Cut A)) 5 ∷ reads (Drill (line.Resend A)) 8
          ∷ reads (Drill (line.Resend B)) 8 ∷ reads (Drill (line.Resend A)) 8 ∷ reads (Drill (line.Resend B)) 8
          ∷ reads (Drill (line.Call A (call.List []))) 8 ∷ reads (Tick 100) 6 ∷ reads (Drill (line.Call B (call.List []))) 8
          ∷ reads (Tick 100) 6 ∷ reads (Drill (line.Call B (call.Read (codes "a" ∷ []) 0 64))) 13
          ∷ reads (Drill (line.Call B (call.Read (codes "d" ∷ codes "a" ∷ []) 0 64))) 15
          ∷ reads (Drill (line.Call B (call.Read (codes "e" ∷ codes "a" ∷ []) 0 64))) 15 ∷ reads (Drill (line.Call A call.Sync)) 3
          ∷ reads (Drill (line.Call B call.Sync)) 3 ∷ [];
      shown =
          Line (Waits 1 B (call.Rename (codes "d" ∷ codes "a" ∷ []) (codes "a" ∷ [])))
          ∷ Line (Answered 1 B (call.Rename (codes "d" ∷ codes "a" ∷ []) (codes "a" ∷ [])) (answer.Reply (reply.Refused (no.NotFound 1))) None)
          ∷ Line (Waits 2 A (call.Rename (codes "d" ∷ codes "a" ∷ []) (codes "d" ∷ codes "a" ∷ [])))
          ∷ Line (Answered 2 A (call.Rename (codes "d" ∷ codes "a" ∷ []) (codes "d" ∷ codes "a" ∷ [])) (answer.Reply (reply.Refused (no.NotFound 1))) None)
          ∷ Line Nothing ∷ Line (Answered 5 B (call.Rmdir (codes "d" ∷ [])) (answer.Reply (reply.Refused (no.NotFound 1))) None)
          ∷ Line (Waits 6 A (call.Create (codes "a" ∷ []))) ∷ Line Nothing
          ∷ Line (Waits 10 B (call.Rename (codes "e" ∷ []) (codes "e" ∷ codes "z" ∷ []))) ∷ Line (Ended B [])
          ∷ Line (Answered 6 A (call.Create (codes "a" ∷ [])) (answer.Reply reply.Ok) (Some 1))
          ∷ Line (Waits 12 B (call.Chown (codes "d" ∷ []) 7))
          ∷ Line (Answered 13 A (call.Remove (codes "d" ∷ codes "a" ∷ [])) (answer.Reply (reply.Refused (no.NotFound 1))) None)
          ∷ Line (Answered 16 A (call.Stat []) (answer.Reply (reply.Stat kind.Dir 493 0 0 1)) None) ∷ Line (Waits 18 B (call.Chmod [] 4095))
          ∷ Held A 200 ∷ Line (Answered 20 A (call.List (codes "d" ∷ [])) (answer.Reply (reply.Refused (no.NotFound 1))) None)
          ∷ Line (Answered 21 A (call.Create (codes "a" ∷ [])) (answer.Reply (reply.Refused no.Exists)) None)
          ∷ Line (Waits 22 B (call.Rename (codes "d" ∷ codes "a" ∷ []) (codes "d" ∷ codes "a" ∷ [])))
          ∷ Line (Waits 23 B (call.Write (codes "a" ∷ []) 0 (codes "cxzcz"))) ∷ Held A 200
          ∷ Line (Waits 25 B (call.Remove (codes "a" ∷ []))) ∷ Line Nothing ∷ Line (Waits 27 B (call.Stat (codes "d" ∷ [])))
          ∷ Line (Told B []) ∷ Line (Durable A (1 ∷ []))
          ∷ Line (Answered 10 B (call.Rename (codes "e" ∷ []) (codes "e" ∷ codes "z" ∷ [])) (answer.Reply (reply.Refused (no.NotFound 1))) None)
          ∷ Line (Answered 12 B (call.Chown (codes "d" ∷ []) 7) (answer.Reply (reply.Refused (no.NotFound 1))) None)
          ∷ Line (Answered 22 B (call.Rename (codes "d" ∷ codes "a" ∷ []) (codes "d" ∷ codes "a" ∷ [])) (answer.Reply (reply.Refused (no.NotFound 1))) None)
          ∷ Line (Answered 27 B (call.Stat (codes "d" ∷ [])) (answer.Reply (reply.Refused (no.NotFound 1))) None)
          ∷ Line (Answered 18 B (call.Chmod [] 4095) (answer.Reply reply.Ok) (Some 1))
          ∷ Line (Answered 23 B (call.Write (codes "a" ∷ []) 0 (codes "cxzcz")) (answer.Reply reply.Ok) (Some 2))
          ∷ Line (Answered 25 B (call.Remove (codes "a" ∷ [])) (answer.Reply reply.Ok) (Some 3)) ∷ Line (Waits 36 A (call.List []))
          ∷ Line (Answered 38 B (call.List []) (answer.Reply (reply.Names [])) None)
          ∷ Line (Answered 40 B (call.Read (codes "a" ∷ []) 0 64) (answer.Reply (reply.Refused (no.NotFound 1))) None)
          ∷ Line (Answered 41 B (call.Read (codes "d" ∷ codes "a" ∷ []) 0 64) (answer.Reply (reply.Refused (no.NotFound 1))) None)
          ∷ Line (Answered 42 B (call.Read (codes "e" ∷ codes "a" ∷ []) 0 64) (answer.Reply (reply.Refused (no.NotFound 1))) None)
          ∷ Line (Waits 43 A call.Sync) ∷ Line (Waits 44 B call.Sync) ∷ Line (Durable B (1 ∷ 2 ∷ 3 ∷ []))
          ∷ Line (Answered 44 B call.Sync (answer.Reply reply.Ok) None) ∷ [];
      status = 0;
    }

abbrev pub crash_4 : LeaseRun
crash_4 =
    record {
      length = 10;
      most = 0;
      lines =
          reads (Tick 20) 6 ∷ reads (Drill (line.Call A (call.Mkdir (codes "d" ∷ [])))) 9
          ∷ reads (Drill (line.Call B (call.Create (codes "a" ∷ [])))) 10 ∷ reads (Tick 1) 6
          ∷ reads (Drill (line.Call B (call.Write (codes "a" ∷ []) 0 (codes "abcdefgh")))) 14
          ∷ reads (Drill (line.Call B (call.Rename (codes "d" ∷ []) (codes "d" ∷ [])))) 13
          ∷ reads (Drill (line.Call A (call.Rename (codes "d" ∷ []) (codes "d2" ∷ [])))) 13
          ∷ reads (Drill (line.Call B (call.Rename (codes "d" ∷ []) (codes "d" ∷ [])))) 13
          ∷ reads (Drill (line.Call A (call.Write (codes "a" ∷ []) 0 (codes "xy")))) 14
          ∷ reads (Drill (line.Call A (call.Write (codes "a" ∷ []) 0 (codes "c")))) 14 ∷ reads (Grant B) 7 ∷ reads (Drill (line.Push A 4)) 8
          ∷ reads (Tick 20) 6 ∷ reads (Drill (line.Call A (call.Remove (codes "a" ∷ [])))) 10 ∷ reads (Hand A 3) 8
          ∷ reads (Drill (line.Call B (call.Rename (codes "e" ∷ codes "a" ∷ []) (codes "a" ∷ [])))) 15 ∷ reads (Drill (line.Push B 1)) 8
          ∷ reads (Tick 1) 6 ∷ reads (Drill (line.Call B (call.Rename (codes "d" ∷ codes "a" ∷ []) (codes "d" ∷ codes "a" ∷ [])))) 15
          ∷ reads (Drill (line.End A)) 5 ∷ reads (Drill (line.Call A call.Sync)) 3 ∷ reads (Drill (line.Cut A)) 5
          ∷ reads (Drill (line.Call A (call.Write (codes "e" ∷ codes "a" ∷ []) 0 (codes "q")))) 16 ∷ reads (Drill (line.Crash A)) 7
          ∷ reads (Drill (line.End C)) 5 ∷ reads (Drill (line.Call A (call.Create (codes "a" ∷ [])))) 10 ∷ reads (Hand B 2) 8
          ∷ reads (Drill (line.Uncut A)) 7 ∷ reads (Tick 4) 6 ∷ reads (Drill (line.Call A (call.Read (codes "e" ∷ codes "a" ∷ []) 0 9))) 15
          ∷ reads (Drill (line.Call A (call.Stat (codes "e" ∷ codes "a2" ∷ [])))) 8 ∷ reads (Tick 20) 6
          ∷ reads (Drill (line.Call A (call.List []))) 8 ∷ [];
      shown =
          Line (Waits 2 A (call.Mkdir (codes "d" ∷ [])))
          ∷ Line (Answered 2 A (call.Mkdir (codes "d" ∷ [])) (answer.Reply reply.Ok) (Some 1))
          ∷ Line (Waits 3 B (call.Create (codes "a" ∷ []))) ∷ Line (Durable A (1 ∷ []))
          ∷ Line (Answered 3 B (call.Create (codes "a" ∷ [])) (answer.Reply reply.Ok) (Some 1))
          ∷ Line (Answered 5 B (call.Write (codes "a" ∷ []) 0 (codes "abcdefgh")) (answer.Reply reply.Ok) (Some 2))
          ∷ Line (Waits 6 B (call.Rename (codes "d" ∷ []) (codes "d" ∷ [])))
          ∷ Line (Answered 6 B (call.Rename (codes "d" ∷ []) (codes "d" ∷ [])) (answer.Reply reply.Ok) None)
          ∷ Line (Waits 7 A (call.Rename (codes "d" ∷ []) (codes "d2" ∷ []))) ∷ Line (Durable B (1 ∷ []))
          ∷ Line (Answered 7 A (call.Rename (codes "d" ∷ []) (codes "d2" ∷ [])) (answer.Reply reply.Ok) (Some 2))
          ∷ Line (Waits 8 B (call.Rename (codes "d" ∷ []) (codes "d" ∷ []))) ∷ Line (Durable A (2 ∷ []))
          ∷ Line (Answered 8 B (call.Rename (codes "d" ∷ []) (codes "d" ∷ [])) (answer.Reply (reply.Refused (no.NotFound 1))) None)
          ∷ Line (Waits 9 A (call.Write (codes "a" ∷ []) 0 (codes "xy"))) ∷ Line (Durable B (2 ∷ []))
          ∷ Line (Answered 9 A (call.Write (codes "a" ∷ []) 0 (codes "xy")) (answer.Reply reply.Ok) (Some 3))
          ∷ Line (Answered 10 A (call.Write (codes "a" ∷ []) 0 (codes "c")) (answer.Reply reply.Ok) (Some 4))
          ∷ Line (Durable A (3 ∷ 4 ∷ [])) ∷ Line (Waits 14 A (call.Remove (codes "a" ∷ [])))
          ∷ Line (Answered 14 A (call.Remove (codes "a" ∷ [])) (answer.Reply reply.Ok) (Some 5)) ∷ Line Nothing
          ∷ Line (Waits 16 B (call.Rename (codes "e" ∷ codes "a" ∷ []) (codes "a" ∷ []))) ∷ Line (Durable A (5 ∷ []))
          ∷ Line (Answered 16 B (call.Rename (codes "e" ∷ codes "a" ∷ []) (codes "a" ∷ [])) (answer.Reply (reply.Refused (no.NotFound 1))) None)
          ∷ Line Nothing
          ∷ Line (Answered 19 B (call.Rename (codes "d" ∷ codes "a" ∷ []) (codes "d" ∷ codes "a" ∷ [])) (answer.Reply (reply.Refused (no.NotFound 1))) None)
          ∷ Held A 52 ∷ Line (Answered 21 A call.Sync (answer.Reply reply.Ok) None)
          ∷ Line (Answered 23 A (call.Write (codes "e" ∷ codes "a" ∷ []) 0 (codes "q")) (answer.Reply (reply.Refused (no.NotFound 1))) None)
          ∷ Line (Crashed A) ∷ Line Nothing ∷ Line (Waits 26 A (call.Create (codes "a" ∷ []))) ∷ Line Nothing ∷ Line (Ended A [])
          ∷ Line (Answered 26 A (call.Create (codes "a" ∷ [])) (answer.Reply reply.Ok) (Some 1))
          ∷ Line (Answered 30 A (call.Read (codes "e" ∷ codes "a" ∷ []) 0 9) (answer.Reply (reply.Refused (no.NotFound 1))) None)
          ∷ Line (Answered 31 A (call.Stat (codes "e" ∷ codes "a2" ∷ [])) (answer.Reply (reply.Refused (no.NotFound 1))) None)
          ∷ Line (Answered 33 A (call.List []) (answer.Reply (reply.Names (codes "a" ∷ codes "d2" ∷ []))) None) ∷ [];
      status = 0;
    }

abbrev pub crash_5 : LeaseRun
crash_5 =
    record {
      length = 100;
      most = 50;
      lines =
          reads (Drill (line.Call B (call.Stat (codes "e" ∷ codes "a" ∷ [])))) 8
          ∷ reads (Drill (line.Call B (call.Read (codes "d" ∷ codes "e" ∷ codes "a" ∷ []) 0 2))) 17
          ∷ reads (Drill (line.Call A (call.Read (codes "b" ∷ []) 3 9))) 13 ∷ reads (Drill (line.Call B (call.Mkdir (codes "d" ∷ [])))) 9
          ∷ reads (Drill (line.Cut B)) 5
          ∷ reads (Drill (line.Call A (call.Rename (codes "d" ∷ codes "e" ∷ []) (codes "d" ∷ codes "e2" ∷ [])))) 15 ∷ reads (Hand A 1) 8
          ∷ reads (Drill (line.Call B (call.Stat (codes "d" ∷ codes "b" ∷ [])))) 8
          ∷ reads (Drill (line.Call B (call.Touch (codes "d" ∷ []) 1))) 12 ∷ reads (Drill (line.Cut A)) 5 ∷ reads (Skew C 77) 8
          ∷ reads (Drill (line.Call A (call.Rename (codes "d" ∷ codes "a" ∷ []) (codes "d" ∷ codes "a2" ∷ [])))) 15 ∷ reads (Skew C 40) 8
          ∷ reads (Drill (line.End A)) 5 ∷ reads (Drill (line.Uncut A)) 7 ∷ reads (Tick 34) 6 ∷ reads (Drill (line.Call A call.Sync)) 3
          ∷ reads (Skew C 85) 8 ∷ reads (Drill (line.Call A (call.List []))) 8 ∷ reads (Tick 100) 6
          ∷ reads (Drill (line.Call A (call.Read (codes "a" ∷ []) 0 9))) 13
          ∷ reads (Drill (line.Call B (call.Write (codes "d" ∷ codes "a" ∷ []) 0 (codes "xy")))) 16
          ∷ reads (Drill (line.Call B (call.Write (codes "d" ∷ codes "a" ∷ []) 0 (codes "b")))) 16 ∷ reads (Grant C) 7
          ∷ reads (Drill (line.Call B (call.Write (codes "d" ∷ codes "a" ∷ []) 2 (codes "y")))) 16 ∷ reads (Drill (line.Push B 2)) 8
          ∷ reads (Drill (line.Cut C)) 5 ∷ reads (Drill (line.Call A (call.List []))) 8
          ∷ reads (Drill (line.Call B (call.Write (codes "d" ∷ codes "b" ∷ []) 3 (codes "ba")))) 16 ∷ reads (Drill (line.Resend A)) 8
          ∷ reads (Tick 34) 6 ∷ reads (Drill (line.Resend B)) 8 ∷ reads (Drill (line.Resend A)) 8 ∷ reads (Drill (line.Resend B)) 8
          ∷ reads (Drill (line.Call A (call.List []))) 8 ∷ reads (Drill (line.Call B (call.List []))) 8 ∷ reads (Drill (line.End B)) 5
          ∷ reads (Drill (line.Call B (call.Read (codes "a" ∷ []) 0 64))) 13 ∷ reads (Drill (line.End A)) 5
          ∷ reads (Drill (line.Call B (call.Read (codes "b" ∷ []) 0 64))) 13
          ∷ reads (Drill (line.Call B (call.Read (codes "d" ∷ codes "a" ∷ []) 0 64))) 15 ∷ [];
      shown =
          Line (Waits 1 B (call.Stat (codes "e" ∷ codes "a" ∷ [])))
          ∷ Line (Answered 1 B (call.Stat (codes "e" ∷ codes "a" ∷ [])) (answer.Reply (reply.Refused (no.NotFound 1))) None)
          ∷ Line (Answered 2 B (call.Read (codes "d" ∷ codes "e" ∷ codes "a" ∷ []) 0 2) (answer.Reply (reply.Refused (no.NotFound 1))) None)
          ∷ Line (Waits 3 A (call.Read (codes "b" ∷ []) 3 9))
          ∷ Line (Answered 3 A (call.Read (codes "b" ∷ []) 3 9) (answer.Reply (reply.Refused (no.NotFound 1))) None)
          ∷ Line (Waits 4 B (call.Mkdir (codes "d" ∷ [])))
          ∷ Line (Answered 4 B (call.Mkdir (codes "d" ∷ [])) (answer.Reply reply.Ok) (Some 1))
          ∷ Line (Waits 6 A (call.Rename (codes "d" ∷ codes "e" ∷ []) (codes "d" ∷ codes "e2" ∷ []))) ∷ Line Nothing
          ∷ Line (Answered 8 B (call.Stat (codes "d" ∷ codes "b" ∷ [])) (answer.Reply (reply.Refused (no.NotFound 2))) None)
          ∷ Line (Answered 9 B (call.Touch (codes "d" ∷ []) 1) (answer.Reply reply.Ok) (Some 2))
          ∷ Line (Waits 12 A (call.Rename (codes "d" ∷ codes "a" ∷ []) (codes "d" ∷ codes "a2" ∷ []))) ∷ Held A 150
          ∷ Line (Answered 17 A call.Sync (answer.Reply reply.Ok) None) ∷ Line (Waits 19 A (call.List []))
          ∷ Line (Waits 21 A (call.Read (codes "a" ∷ []) 0 9)) ∷ Line (Waits 22 B (call.Write (codes "d" ∷ codes "a" ∷ []) 0 (codes "xy")))
          ∷ Line (Waits 23 B (call.Write (codes "d" ∷ codes "a" ∷ []) 0 (codes "b"))) ∷ Line Nothing
          ∷ Line (Waits 25 B (call.Write (codes "d" ∷ codes "a" ∷ []) 2 (codes "y"))) ∷ Line (Waits 28 A (call.List []))
          ∷ Line (Waits 29 B (call.Write (codes "d" ∷ codes "b" ∷ []) 3 (codes "ba"))) ∷ Line (Waits 35 A (call.List []))
          ∷ Line (Waits 36 B (call.List [])) ∷ Line (Ended B (1 ∷ 2 ∷ []))
          ∷ Line (Answered 6 A (call.Rename (codes "d" ∷ codes "e" ∷ []) (codes "d" ∷ codes "e2" ∷ [])) (answer.Reply (reply.Refused (no.NotFound 1))) None)
          ∷ Line (Answered 12 A (call.Rename (codes "d" ∷ codes "a" ∷ []) (codes "d" ∷ codes "a2" ∷ [])) (answer.Reply (reply.Refused (no.NotFound 1))) None)
          ∷ Line (Answered 19 A (call.List []) (answer.Reply (reply.Names [])) None)
          ∷ Line (Answered 21 A (call.Read (codes "a" ∷ []) 0 9) (answer.Reply (reply.Refused (no.NotFound 1))) None)
          ∷ Line (Answered 28 A (call.List []) (answer.Reply (reply.Names [])) None)
          ∷ Line (Answered 35 A (call.List []) (answer.Reply (reply.Names [])) None) ∷ Line (Waits 38 B (call.Read (codes "a" ∷ []) 0 64))
          ∷ Held A 318 ∷ Line (Waits 40 B (call.Read (codes "b" ∷ []) 0 64))
          ∷ Line (Waits 41 B (call.Read (codes "d" ∷ codes "a" ∷ []) 0 64)) ∷ [];
      status = 0;
    }

abbrev pub crash_6 : LeaseRun
crash_6 =
    record {
      length = 10;
      most = 0;
      lines =
          reads (Grant C) 7 ∷ reads (Drill (line.Call C (call.Mkdir (codes "d" ∷ [])))) 9
          ∷ reads (Drill (line.Call D (call.Create (codes "a" ∷ [])))) 10 ∷ reads (Tick 20) 6
          ∷ reads (Drill (line.Call D (call.Write (codes "a" ∷ []) 0 (codes "abcdefgh")))) 14
          ∷ reads (Drill (line.Call C (call.Create (codes "d" ∷ codes "a" ∷ [])))) 10
          ∷ reads (Drill (line.Call C (call.Write (codes "d" ∷ codes "a" ∷ []) 0 (codes "abcdefgh")))) 16 ∷ reads (Tick 4) 6
          ∷ reads (Drill (line.Call B (call.Stat (codes "a" ∷ [])))) 8
          ∷ reads (Drill (line.Call A (call.Stat (codes "d" ∷ codes "a" ∷ [])))) 8 ∷ reads (Drill (line.Cut C)) 5
          ∷ reads (Drill (line.Crash C)) 7 ∷ reads (Drill (line.Cut B)) 5 ∷ reads (Drill (line.Uncut C)) 7
          ∷ reads (Drill (line.Call C (call.Read (codes "d" ∷ codes "a" ∷ []) 0 9))) 15
          ∷ reads (Drill (line.Call C (call.Read (codes "d" ∷ codes "a" ∷ []) 0 9))) 15 ∷ reads (Skew B 0) 8
          ∷ reads (Drill (line.Call C call.Sync)) 3 ∷ reads (Drill (line.Call A (call.Fsync []))) 9
          ∷ reads (Drill (line.Call C (call.Read (codes "d" ∷ codes "a" ∷ []) 3 9))) 15
          ∷ reads (Drill (line.Call C (call.Touch (codes "d" ∷ codes "a" ∷ []) 8))) 14 ∷ reads (Tick 1) 6
          ∷ reads (Drill (line.Repeat D msg.Kept 2)) 15
          ∷ reads (Drill (line.Call C (call.Rename (codes "e" ∷ codes "a" ∷ []) (codes "a" ∷ [])))) 15 ∷ reads (Drill (line.End C)) 5
          ∷ reads (Drill (line.Cut C)) 5 ∷ reads (Grant A) 7
          ∷ reads (Drill (line.Call A (call.Write (codes "d" ∷ codes "a" ∷ []) 0 (codes "z")))) 16 ∷ reads (Hand C 2) 8
          ∷ reads (Drill (line.Call A (call.Write (codes "d" ∷ codes "a" ∷ []) 4 (codes "xx")))) 16 ∷ reads (Tick 10) 6
          ∷ reads (Drill (line.Call A (call.Write (codes "d" ∷ codes "a" ∷ []) 3 (codes "x")))) 16 ∷ reads (Hand A 1) 8
          ∷ reads (Drill (line.Uncut C)) 7 ∷ reads (Tick 20) 6 ∷ reads (Drill (line.Resend A)) 8 ∷ reads (Grant B) 7
          ∷ reads (Drill (line.Resend B)) 8 ∷ reads (Drill (line.Resend C)) 8 ∷ reads (Drill (line.Resend D)) 8
          ∷ reads (Drill (line.Cut A)) 5 ∷ reads (Drill (line.Resend A)) 8 ∷ reads (Tick 10) 6 ∷ reads (Drill (line.Resend B)) 8
          ∷ reads (Tick 20) 6 ∷ reads (Drill (line.Resend C)) 8 ∷ reads (Skew A 0) 8 ∷ reads (Drill (line.Resend D)) 8
          ∷ reads (Drill (line.Call A (call.List []))) 8 ∷ reads (Drill (line.Call B (call.List []))) 8 ∷ reads (Hand C 1) 8
          ∷ reads (Drill (line.Call C (call.List []))) 8 ∷ reads (Drill (line.End A)) 5 ∷ reads (Drill (line.Call D (call.List []))) 8
          ∷ reads (Hand B 1) 8 ∷ reads (Drill (line.Call B (call.Read (codes "a" ∷ []) 0 64))) 13 ∷ reads (Tick 1) 6
          ∷ reads (Drill (line.Call C (call.Read (codes "d" ∷ codes "a" ∷ []) 0 64))) 15
          ∷ reads (Drill (line.Call A (call.Read (codes "e" ∷ codes "a" ∷ []) 0 64))) 15 ∷ reads (Drill (line.Call A call.Sync)) 3
          ∷ reads (Drill (line.Call B call.Sync)) 3 ∷ reads (Drill (line.Call C call.Sync)) 3 ∷ reads (Hand B 2) 8
          ∷ reads (Drill (line.Call D call.Sync)) 3 ∷ [];
      shown =
          Line Nothing ∷ Line (Waits 2 C (call.Mkdir (codes "d" ∷ [])))
          ∷ Line (Answered 2 C (call.Mkdir (codes "d" ∷ [])) (answer.Reply reply.Ok) (Some 1))
          ∷ Line (Waits 3 D (call.Create (codes "a" ∷ []))) ∷ Line (Durable C (1 ∷ []))
          ∷ Line (Answered 3 D (call.Create (codes "a" ∷ [])) (answer.Reply reply.Ok) (Some 1))
          ∷ Line (Answered 5 D (call.Write (codes "a" ∷ []) 0 (codes "abcdefgh")) (answer.Reply reply.Ok) (Some 2))
          ∷ Line (Waits 6 C (call.Create (codes "d" ∷ codes "a" ∷ []))) ∷ Line (Durable D (1 ∷ []))
          ∷ Line (Answered 6 C (call.Create (codes "d" ∷ codes "a" ∷ [])) (answer.Reply reply.Ok) (Some 2))
          ∷ Line (Answered 7 C (call.Write (codes "d" ∷ codes "a" ∷ []) 0 (codes "abcdefgh")) (answer.Reply reply.Ok) (Some 3))
          ∷ Line (Waits 9 B (call.Stat (codes "a" ∷ []))) ∷ Line (Durable D (2 ∷ []))
          ∷ Line (Answered 9 B (call.Stat (codes "a" ∷ [])) (answer.Reply (reply.Stat kind.File 420 0 0 8)) None)
          ∷ Line (Waits 10 A (call.Stat (codes "d" ∷ codes "a" ∷ []))) ∷ Line (Durable C (2 ∷ [])) ∷ Line (Durable C (3 ∷ []))
          ∷ Line (Answered 10 A (call.Stat (codes "d" ∷ codes "a" ∷ [])) (answer.Reply (reply.Stat kind.File 420 0 0 8)) None)
          ∷ Line (Crashed C) ∷ Line (Waits 15 C (call.Read (codes "d" ∷ codes "a" ∷ []) 0 9)) ∷ Line (Ended C [])
          ∷ Line (Answered 15 C (call.Read (codes "d" ∷ codes "a" ∷ []) 0 9) (answer.Reply (reply.Data (codes "abcdefgh"))) None)
          ∷ Line (Answered 16 C (call.Read (codes "d" ∷ codes "a" ∷ []) 0 9) (answer.Reply (reply.Data (codes "abcdefgh"))) None)
          ∷ Line (Answered 18 C call.Sync (answer.Reply reply.Ok) None) ∷ Line (Answered 19 A (call.Fsync []) (answer.Reply reply.Ok) None)
          ∷ Line (Answered 20 C (call.Read (codes "d" ∷ codes "a" ∷ []) 3 9) (answer.Reply (reply.Data (codes "defgh"))) None)
          ∷ Line (Waits 21 C (call.Touch (codes "d" ∷ codes "a" ∷ []) 8))
          ∷ Line (Answered 21 C (call.Touch (codes "d" ∷ codes "a" ∷ []) 8) (answer.Reply reply.Ok) (Some 1))
          ∷ Line (Answered 24 C (call.Rename (codes "e" ∷ codes "a" ∷ []) (codes "a" ∷ [])) (answer.Reply (reply.Refused (no.NotFound 1))) None)
          ∷ Held C 35 ∷ Line (Waits 28 A (call.Write (codes "d" ∷ codes "a" ∷ []) 0 (codes "z"))) ∷ Line Nothing
          ∷ Line (Waits 30 A (call.Write (codes "d" ∷ codes "a" ∷ []) 4 (codes "xx")))
          ∷ Line (Waits 32 A (call.Write (codes "d" ∷ codes "a" ∷ []) 3 (codes "x"))) ∷ Line Nothing ∷ Line (Durable C (1 ∷ []))
          ∷ Line (Answered 28 A (call.Write (codes "d" ∷ codes "a" ∷ []) 0 (codes "z")) (answer.Reply reply.Ok) (Some 1))
          ∷ Line (Answered 30 A (call.Write (codes "d" ∷ codes "a" ∷ []) 4 (codes "xx")) (answer.Reply reply.Ok) (Some 2))
          ∷ Line (Answered 32 A (call.Write (codes "d" ∷ codes "a" ∷ []) 3 (codes "x")) (answer.Reply reply.Ok) (Some 3))
          ∷ Line (Waits 49 A (call.List [])) ∷ Line (Waits 50 B (call.List [])) ∷ Line Nothing
          ∷ Line (Answered 52 C (call.List []) (answer.Reply (reply.Names (codes "a" ∷ codes "d" ∷ []))) None)
          ∷ Line (Ended A (1 ∷ 2 ∷ 3 ∷ []))
          ∷ Line (Answered 54 D (call.List []) (answer.Reply (reply.Names (codes "a" ∷ codes "d" ∷ []))) None) ∷ Line Nothing
          ∷ Line (Waits 56 B (call.Read (codes "a" ∷ []) 0 64)) ∷ Line (Waits 58 C (call.Read (codes "d" ∷ codes "a" ∷ []) 0 64))
          ∷ Line (Answered 58 C (call.Read (codes "d" ∷ codes "a" ∷ []) 0 64) (answer.Reply (reply.Data (codes "abcdefgh"))) None)
          ∷ Line (Waits 59 A (call.Read (codes "e" ∷ codes "a" ∷ []) 0 64)) ∷ Line (Waits 60 A call.Sync) ∷ Line (Waits 61 B call.Sync)
          ∷ Line (Answered 62 C call.Sync (answer.Reply reply.Ok) None) ∷ Line (Answered 64 D call.Sync (answer.Reply reply.Ok) None) ∷ [];
      status = 0;
    }

abbrev pub crash_7 : LeaseRun
crash_7 =
    record {
      length = 10;
      most = 5;
      lines =
          reads (Tick 1) 6 ∷ reads (Drill (line.Call A (call.Mkdir (codes "d" ∷ [])))) 9 ∷ reads (Hand A 1) 8
          ∷ reads (Drill (line.Call A (call.Create (codes "a" ∷ [])))) 10 ∷ reads (Tick 4) 6 ∷ reads (Drill (line.Call A call.Sync)) 3
          ∷ reads (Drill (line.Call B call.Sync)) 3
          ∷ reads (Drill (line.Call A (call.Forder ((codes "d" ∷ []) ∷ (codes "a" ∷ []) ∷ [])))) 13 ∷ reads (Drill (line.Cut A)) 5
          ∷ reads (Drill (line.Call A (call.Chown [] 0))) 11 ∷ reads (Tick 1) 6
          ∷ reads (Drill (line.Call B (call.Mkdir (codes "e" ∷ [])))) 9 ∷ reads (Tick 1) 6 ∷ reads (Drill (line.Cut B)) 5
          ∷ reads (Drill (line.Uncut B)) 7 ∷ reads (Drill (line.Cut B)) 5 ∷ reads (Drill (line.End C)) 5
          ∷ reads (Drill (line.Call B (call.Forder ((codes "a" ∷ []) ∷ (codes "a" ∷ []) ∷ [])))) 13 ∷ reads (Tick 4) 6
          ∷ reads (Drill (line.End B)) 5 ∷ reads (Drill (line.Call A (call.Read (codes "a" ∷ []) 1 9))) 13 ∷ reads (Drill (line.Uncut B)) 7
          ∷ reads (Tick 20) 6 ∷ reads (Drill (line.Call B (call.Read (codes "a" ∷ []) 0 9))) 13 ∷ reads (Tick 1) 6
          ∷ reads (Drill (line.Call B (call.List []))) 8 ∷ reads (Drill (line.Call B (call.Read (codes "a" ∷ []) 0 9))) 13
          ∷ reads (Drill (line.Cut B)) 5 ∷ reads (Drill (line.Uncut B)) 7 ∷ reads (Tick 4) 6 ∷ reads (Drill (line.Resend A)) 8
          ∷ reads (Hand B 1) 8 ∷ reads (Drill (line.Resend B)) 8 ∷ reads (Grant C) 7 ∷ reads (Drill (line.Resend A)) 8 ∷ reads (Skew C 7) 8
          ∷ reads (Drill (line.Resend B)) 8 ∷ reads (Drill (line.Call A (call.List []))) 8 ∷ reads (Drill (line.End A)) 5
          ∷ reads (Drill (line.Call B (call.List []))) 8 ∷ reads (Drill (line.Call B (call.Read (codes "a" ∷ []) 0 64))) 13
          ∷ reads (Drill (line.Call B (call.Read (codes "d" ∷ codes "a" ∷ []) 0 64))) 15
          ∷ reads (Drill (line.Call B (call.Read (codes "e" ∷ codes "a" ∷ []) 0 64))) 15 ∷ [];
      shown =
          Line (Waits 2 A (call.Mkdir (codes "d" ∷ [])))
          ∷ Line (Answered 2 A (call.Mkdir (codes "d" ∷ [])) (answer.Reply reply.Ok) (Some 1)) ∷ Line Nothing
          ∷ Line (Answered 4 A (call.Create (codes "a" ∷ [])) (answer.Reply reply.Ok) (Some 2)) ∷ Line (Waits 6 A call.Sync)
          ∷ Line (Durable A (1 ∷ 2 ∷ [])) ∷ Line (Answered 6 A call.Sync (answer.Reply reply.Ok) None)
          ∷ Line (Answered 7 B call.Sync (answer.Reply reply.Ok) None)
          ∷ Line (Answered 8 A (call.Forder ((codes "d" ∷ []) ∷ (codes "a" ∷ []) ∷ [])) (answer.Reply reply.Ok) (Some 3))
          ∷ Line (Answered 10 A (call.Chown [] 0) (answer.Reply reply.Ok) (Some 4)) ∷ Line (Waits 12 B (call.Mkdir (codes "e" ∷ [])))
          ∷ Line Nothing ∷ Line (Waits 18 B (call.Forder ((codes "a" ∷ []) ∷ (codes "a" ∷ []) ∷ []))) ∷ Held B 22
          ∷ Line (Answered 21 A (call.Read (codes "a" ∷ []) 1 9) (answer.Reply (reply.Data [])) None)
          ∷ Line (Waits 24 B (call.Read (codes "a" ∷ []) 0 9)) ∷ Line (Waits 26 B (call.List []))
          ∷ Line (Waits 27 B (call.Read (codes "a" ∷ []) 0 9)) ∷ Line Nothing ∷ Line Nothing ∷ Line (Waits 38 A (call.List []))
          ∷ Line (Ended A (3 ∷ 4 ∷ [])) ∷ Line (Answered 26 B (call.List []) (answer.Reply (reply.Names (codes "a" ∷ codes "d" ∷ []))) None)
          ∷ Line (Answered 24 B (call.Read (codes "a" ∷ []) 0 9) (answer.Reply (reply.Data [])) None)
          ∷ Line (Answered 27 B (call.Read (codes "a" ∷ []) 0 9) (answer.Reply (reply.Data [])) None)
          ∷ Line (Answered 12 B (call.Mkdir (codes "e" ∷ [])) (answer.Reply reply.Ok) (Some 1))
          ∷ Line (Answered 18 B (call.Forder ((codes "a" ∷ []) ∷ (codes "a" ∷ []) ∷ [])) (answer.Reply reply.Ok) (Some 2))
          ∷ Line (Answered 40 B (call.List []) (answer.Reply (reply.Names (codes "a" ∷ codes "d" ∷ codes "e" ∷ []))) None)
          ∷ Line (Answered 41 B (call.Read (codes "a" ∷ []) 0 64) (answer.Reply (reply.Data [])) None)
          ∷ Line (Waits 42 B (call.Read (codes "d" ∷ codes "a" ∷ []) 0 64))
          ∷ Line (Answered 42 B (call.Read (codes "d" ∷ codes "a" ∷ []) 0 64) (answer.Reply (reply.Refused (no.NotFound 2))) None)
          ∷ Line (Answered 43 B (call.Read (codes "e" ∷ codes "a" ∷ []) 0 64) (answer.Reply (reply.Refused (no.NotFound 2))) None) ∷ [];
      status = 0;
    }

abbrev pub crash_8 : LeaseRun
crash_8 =
    record {
      length = 100;
      most = 0;
      lines =
          reads (Tick 200) 6 ∷ reads (Drill (line.Call B (call.Mkdir (codes "d" ∷ [])))) 9
          ∷ reads (Drill (line.Call A (call.Create (codes "a" ∷ [])))) 10 ∷ reads (Tick 100) 6
          ∷ reads (Drill (line.Call B (call.Create (codes "b" ∷ [])))) 10 ∷ reads (Drill (line.Call A call.Sync)) 3
          ∷ reads (Drill (line.Call B call.Sync)) 3 ∷ reads (Drill (line.Call A (call.Rename [] (codes "a" ∷ [])))) 12 ∷ reads (Skew B 0) 8
          ∷ reads (Drill (line.Call B (call.Fsync []))) 9 ∷ reads (Drill (line.Push A 1)) 8 ∷ reads (Skew A 0) 8
          ∷ reads (Drill (line.Call A (call.Rename (codes "a" ∷ []) (codes "d" ∷ codes "b" ∷ [])))) 13 ∷ reads (Drill (line.End C)) 5
          ∷ reads (Drill (line.Crash B)) 7 ∷ reads (Drill (line.Call B (call.Create (codes "a" ∷ [])))) 10 ∷ reads (Tick 1) 6
          ∷ reads (Drill (line.Call B (call.List (codes "d" ∷ [])))) 8 ∷ reads (Drill (line.Cut C)) 5
          ∷ reads (Drill (line.Call B (call.Create (codes "d" ∷ codes "a" ∷ [])))) 10
          ∷ reads (Drill (line.Call A (call.Create (codes "d" ∷ codes "a" ∷ [])))) 10
          ∷ reads (Drill (line.Call B (call.Read (codes "a" ∷ []) 0 0))) 13 ∷ reads (Tick 34) 6
          ∷ reads (Drill (line.Call A (call.Create (codes "a" ∷ [])))) 10 ∷ reads (Tick 1) 6
          ∷ reads (Drill (line.Call B (call.Write (codes "a" ∷ []) 6 (codes "yz")))) 14 ∷ reads (Skew C 0) 8
          ∷ reads (Drill (line.Call A (call.Write (codes "a" ∷ []) 1 (codes "xc")))) 14
          ∷ reads (Drill (line.Call A (call.Rename (codes "d" ∷ []) (codes "d" ∷ codes "e" ∷ codes "k" ∷ [])))) 13
          ∷ reads (Drill (line.Cut C)) 5 ∷ reads (Drill (line.End B)) 5 ∷ reads (Drill (line.Cut B)) 5 ∷ reads (Drill (line.Resend A)) 8
          ∷ reads (Drill (line.Resend B)) 8 ∷ reads (Drill (line.Resend A)) 8 ∷ reads (Drill (line.Resend B)) 8
          ∷ reads (Drill (line.Call A (call.List []))) 8 ∷ reads (Drill (line.Cut C)) 5 ∷ reads (Drill (line.Call B (call.List []))) 8
          ∷ reads (Drill (line.Call A (call.Read (codes "a" ∷ []) 0 64))) 13
          ∷ reads (Drill (line.Call B (call.Read (codes "b" ∷ []) 0 64))) 13
          ∷ reads (Drill (line.Call A (call.Read (codes "d" ∷ codes "a" ∷ []) 0 64))) 15 ∷ [];
      shown =
          Line (Waits 2 B (call.Mkdir (codes "d" ∷ [])))
          ∷ Line (Answered 2 B (call.Mkdir (codes "d" ∷ [])) (answer.Reply reply.Ok) (Some 1))
          ∷ Line (Waits 3 A (call.Create (codes "a" ∷ []))) ∷ Line (Durable B (1 ∷ []))
          ∷ Line (Answered 3 A (call.Create (codes "a" ∷ [])) (answer.Reply reply.Ok) (Some 1))
          ∷ Line (Waits 5 B (call.Create (codes "b" ∷ []))) ∷ Line (Durable A (1 ∷ []))
          ∷ Line (Answered 5 B (call.Create (codes "b" ∷ [])) (answer.Reply reply.Ok) (Some 2))
          ∷ Line (Answered 6 A call.Sync (answer.Reply reply.Ok) None) ∷ Line (Waits 7 B call.Sync) ∷ Line (Durable B (2 ∷ []))
          ∷ Line (Answered 7 B call.Sync (answer.Reply reply.Ok) None)
          ∷ Line (Answered 8 A (call.Rename [] (codes "a" ∷ [])) (answer.Reply (reply.Refused no.Root)) None)
          ∷ Line (Answered 10 B (call.Fsync []) (answer.Reply reply.Ok) None) ∷ Line Nothing
          ∷ Line (Waits 13 A (call.Rename (codes "a" ∷ []) (codes "d" ∷ codes "b" ∷ [])))
          ∷ Line (Answered 13 A (call.Rename (codes "a" ∷ []) (codes "d" ∷ codes "b" ∷ [])) (answer.Reply reply.Ok) (Some 2)) ∷ Line Nothing
          ∷ Line (Crashed B) ∷ Line (Waits 16 B (call.Create (codes "a" ∷ []))) ∷ Line (Ended B []) ∷ Line (Durable A (2 ∷ []))
          ∷ Line (Answered 16 B (call.Create (codes "a" ∷ [])) (answer.Reply reply.Ok) (Some 1))
          ∷ Line (Waits 18 B (call.List (codes "d" ∷ [])))
          ∷ Line (Answered 18 B (call.List (codes "d" ∷ [])) (answer.Reply (reply.Names (codes "b" ∷ []))) None)
          ∷ Line (Waits 20 B (call.Create (codes "d" ∷ codes "a" ∷ [])))
          ∷ Line (Answered 20 B (call.Create (codes "d" ∷ codes "a" ∷ [])) (answer.Reply reply.Ok) (Some 2))
          ∷ Line (Waits 21 A (call.Create (codes "d" ∷ codes "a" ∷ []))) ∷ Line (Durable B (1 ∷ [])) ∷ Line (Durable B (2 ∷ []))
          ∷ Line (Answered 21 A (call.Create (codes "d" ∷ codes "a" ∷ [])) (answer.Reply (reply.Refused no.Exists)) None)
          ∷ Line (Answered 22 B (call.Read (codes "a" ∷ []) 0 0) (answer.Reply (reply.Data [])) None)
          ∷ Line (Answered 24 A (call.Create (codes "a" ∷ [])) (answer.Reply (reply.Refused no.Exists)) None)
          ∷ Line (Answered 26 B (call.Write (codes "a" ∷ []) 6 (codes "yz")) (answer.Reply reply.Ok) (Some 3))
          ∷ Line (Waits 28 A (call.Write (codes "a" ∷ []) 1 (codes "xc"))) ∷ Line (Durable B (3 ∷ []))
          ∷ Line (Answered 28 A (call.Write (codes "a" ∷ []) 1 (codes "xc")) (answer.Reply reply.Ok) (Some 3))
          ∷ Line (Answered 29 A (call.Rename (codes "d" ∷ []) (codes "d" ∷ codes "e" ∷ codes "k" ∷ [])) (answer.Reply (reply.Refused (no.NotFound 2))) None)
          ∷ Line Nothing ∷ Held B 436
          ∷ Line (Answered 37 A (call.List []) (answer.Reply (reply.Names (codes "a" ∷ codes "b" ∷ codes "d" ∷ []))) None) ∷ Line Nothing
          ∷ Line (Answered 39 B (call.List []) (answer.Reply (reply.Names (codes "a" ∷ codes "b" ∷ codes "d" ∷ []))) None)
          ∷ Line (Answered 40 A (call.Read (codes "a" ∷ []) 0 64) (answer.Reply (reply.Data ((0 ∷ 120 ∷ 99 ∷ 0 ∷ 0 ∷ 0 ∷ 121 ∷ 122 ∷ [])))) None)
          ∷ Line (Waits 41 B (call.Read (codes "b" ∷ []) 0 64)) ∷ Line (Waits 42 A (call.Read (codes "d" ∷ codes "a" ∷ []) 0 64)) ∷ [];
      status = 0;
    }

abbrev pub crash_9 : LeaseRun
crash_9 =
    record {
      length = 100;
      most = 50;
      lines =
          reads (Drill (line.Call B (call.Mkdir (codes "d" ∷ [])))) 9 ∷ reads (Drill (line.Call B (call.Create (codes "a" ∷ [])))) 10
          ∷ reads (Drill (line.Call B (call.Write (codes "a" ∷ []) 0 (codes "abcdefgh")))) 14
          ∷ reads (Drill (line.Call A (call.Create (codes "d" ∷ codes "a" ∷ [])))) 10
          ∷ reads (Drill (line.Call A (call.Write (codes "d" ∷ codes "a" ∷ []) 0 (codes "abcdefgh")))) 16 ∷ reads (Tick 1) 6
          ∷ reads (Drill (line.Call B (call.Create (codes "e" ∷ codes "a" ∷ [])))) 10
          ∷ reads (Drill (line.Call B (call.Write (codes "e" ∷ codes "a" ∷ []) 0 (codes "abcdefgh")))) 16 ∷ reads (Drill (line.End B)) 5
          ∷ reads (Drill (line.Call A (call.Mkdir (codes "d" ∷ [])))) 9 ∷ reads (Tick 100) 6
          ∷ reads (Drill (line.Call A (call.Mkdir (codes "e" ∷ [])))) 9
          ∷ reads (Drill (line.Call B (call.Write (codes "d" ∷ codes "a" ∷ []) 1 (codes "yb")))) 16 ∷ reads (Tick 34) 6
          ∷ reads (Drill (line.Call B (call.Write (codes "d" ∷ codes "a" ∷ []) 2 (codes "z")))) 16 ∷ reads (Tick 1) 6
          ∷ reads (Drill (line.Call B (call.Write (codes "d" ∷ codes "a" ∷ []) 3 (codes "xa")))) 16
          ∷ reads (Drill (line.Call B (call.Fsync []))) 9 ∷ reads (Drill (line.Call A (call.Forder ((codes "d" ∷ []) ∷ [])))) 10
          ∷ reads (Hand A 3) 8 ∷ reads (Drill (line.Crash A)) 7 ∷ reads (Drill (line.Call A (call.Fsync (codes "a" ∷ [])))) 9
          ∷ reads (Drill (line.Call B (call.List []))) 8 ∷ reads (Tick 200) 6
          ∷ reads (Drill (line.Call A (call.Read (codes "a" ∷ []) 3 0))) 13 ∷ reads (Drill (line.Call A (call.List []))) 8
          ∷ reads (Tick 200) 6 ∷ reads (Drill (line.Resend A)) 8 ∷ reads (Drill (line.Resend B)) 8 ∷ reads (Drill (line.Resend A)) 8
          ∷ reads (Drill (line.Resend B)) 8 ∷ reads (Drill (line.Call A (call.List []))) 8 ∷ reads (Drill (line.Call B (call.List []))) 8
          ∷ reads (Drill (line.Call A (call.Read (codes "a" ∷ []) 0 64))) 13 ∷ reads (Hand A 2) 8
          ∷ reads (Drill (line.Call B (call.Read (codes "d" ∷ codes "a" ∷ []) 0 64))) 15
          ∷ reads (Drill (line.Call B (call.Read (codes "e" ∷ codes "a" ∷ []) 0 64))) 15 ∷ reads (Drill (line.End B)) 5
          ∷ reads (Drill (line.Call A call.Sync)) 3 ∷ reads (Drill (line.Call B call.Sync)) 3 ∷ [];
      shown =
          Line (Waits 1 B (call.Mkdir (codes "d" ∷ [])))
          ∷ Line (Answered 1 B (call.Mkdir (codes "d" ∷ [])) (answer.Reply reply.Ok) (Some 1))
          ∷ Line (Answered 2 B (call.Create (codes "a" ∷ [])) (answer.Reply reply.Ok) (Some 2))
          ∷ Line (Answered 3 B (call.Write (codes "a" ∷ []) 0 (codes "abcdefgh")) (answer.Reply reply.Ok) (Some 3))
          ∷ Line (Waits 4 A (call.Create (codes "d" ∷ codes "a" ∷ []))) ∷ Line (Durable B (1 ∷ 2 ∷ []))
          ∷ Line (Answered 4 A (call.Create (codes "d" ∷ codes "a" ∷ [])) (answer.Reply reply.Ok) (Some 1))
          ∷ Line (Answered 5 A (call.Write (codes "d" ∷ codes "a" ∷ []) 0 (codes "abcdefgh")) (answer.Reply reply.Ok) (Some 2))
          ∷ Line (Answered 7 B (call.Create (codes "e" ∷ codes "a" ∷ [])) (answer.Reply (reply.Refused (no.NotFound 1))) None)
          ∷ Line (Answered 8 B (call.Write (codes "e" ∷ codes "a" ∷ []) 0 (codes "abcdefgh")) (answer.Reply (reply.Refused (no.NotFound 1))) None)
          ∷ Held B 151 ∷ Line (Answered 10 A (call.Mkdir (codes "d" ∷ [])) (answer.Reply (reply.Refused no.Exists)) None)
          ∷ Line (Waits 12 A (call.Mkdir (codes "e" ∷ [])))
          ∷ Line (Answered 12 A (call.Mkdir (codes "e" ∷ [])) (answer.Reply reply.Ok) (Some 3))
          ∷ Line (Waits 13 B (call.Write (codes "d" ∷ codes "a" ∷ []) 1 (codes "yb"))) ∷ Line (Durable A (3 ∷ []))
          ∷ Line (Durable A (1 ∷ [])) ∷ Line (Durable A (2 ∷ []))
          ∷ Line (Answered 13 B (call.Write (codes "d" ∷ codes "a" ∷ []) 1 (codes "yb")) (answer.Reply reply.Ok) (Some 4))
          ∷ Line (Answered 15 B (call.Write (codes "d" ∷ codes "a" ∷ []) 2 (codes "z")) (answer.Reply reply.Ok) (Some 5))
          ∷ Line (Answered 17 B (call.Write (codes "d" ∷ codes "a" ∷ []) 3 (codes "xa")) (answer.Reply reply.Ok) (Some 6))
          ∷ Line (Answered 18 B (call.Fsync []) (answer.Reply reply.Ok) None) ∷ Line (Waits 19 A (call.Forder ((codes "d" ∷ []) ∷ [])))
          ∷ Line (Answered 19 A (call.Forder ((codes "d" ∷ []) ∷ [])) (answer.Reply reply.Ok) (Some 4)) ∷ Line Nothing ∷ Line (Crashed A)
          ∷ Line (Waits 22 A (call.Fsync (codes "a" ∷ []))) ∷ Line (Ended A (4 ∷ [])) ∷ Line (Durable B (3 ∷ []))
          ∷ Line (Answered 22 A (call.Fsync (codes "a" ∷ [])) (answer.Reply reply.Ok) None)
          ∷ Line (Answered 23 B (call.List []) (answer.Reply (reply.Names (codes "a" ∷ codes "d" ∷ codes "e" ∷ []))) None)
          ∷ Line (Answered 25 A (call.Read (codes "a" ∷ []) 3 0) (answer.Reply (reply.Data [])) None)
          ∷ Line (Answered 26 A (call.List []) (answer.Reply (reply.Names (codes "a" ∷ codes "d" ∷ codes "e" ∷ []))) None)
          ∷ Line (Answered 32 A (call.List []) (answer.Reply (reply.Names (codes "a" ∷ codes "d" ∷ codes "e" ∷ []))) None)
          ∷ Line (Answered 33 B (call.List []) (answer.Reply (reply.Names (codes "a" ∷ codes "d" ∷ codes "e" ∷ []))) None)
          ∷ Line (Answered 34 A (call.Read (codes "a" ∷ []) 0 64) (answer.Reply (reply.Data (codes "abcdefgh"))) None) ∷ Line Nothing
          ∷ Line (Waits 36 B (call.Read (codes "d" ∷ codes "a" ∷ []) 0 64))
          ∷ Line (Answered 36 B (call.Read (codes "d" ∷ codes "a" ∷ []) 0 64) (answer.Reply (reply.Data (codes "ayzxafgh"))) None)
          ∷ Line (Waits 37 B (call.Read (codes "e" ∷ codes "a" ∷ []) 0 64))
          ∷ Line (Answered 37 B (call.Read (codes "e" ∷ codes "a" ∷ []) 0 64) (answer.Reply (reply.Refused (no.NotFound 2))) None)
          ∷ Held B 686 ∷ Line (Answered 39 A call.Sync (answer.Reply reply.Ok) None) ∷ Line (Waits 40 B call.Sync)
          ∷ Line (Durable B (4 ∷ 5 ∷ 6 ∷ [])) ∷ Line (Answered 40 B call.Sync (answer.Reply reply.Ok) None) ∷ [];
      status = 0;
    }
