-- Random scripts with leases, stops and restarts.
use Rattle.std.specs.Prelude.{[], ◌∷◌, None, Some, codes}
use Rattle.ec_volume.specs.declared.image.Kind.TheVariants as kind
use Rattle.ec_plain.specs.declared.call.Call.TheVariants as call
use Rattle.ec_plain.specs.declared.call.Reply.TheVariants as reply
use Rattle.ec_plain.specs.declared.call.Refusal.TheVariants as no
use Rattle.ec_history.specs.declared.entry.Answer.TheVariants as answer
use Rattle.ec_history.specs.declared.shown.Shown.TheVariants.{Waits, Answered, Durable, Stopped, Started, Nothing}
use Rattle.ec_protocol.specs.declared.script.Line.TheVariants as line
use Rattle.ec_protocol.specs.Runs.{A, B, C}
use Rattle.ec_lease_machine.specs.declared.world.LeaseShown.TheVariants.{Line, Held}
use Rattle.ec_lease_machine.specs.declared.script.LeaseLine.TheVariants.{Drill, Tick, Skew, Grant, Hand}
use Rattle.ec_lease_machine.specs.Drill.{reads}
use Rattle.ec_lease_machine.specs.Runs.{LeaseRun}

abbrev pub stop_0 : LeaseRun
stop_0 =
    record {
      length = 10;
      most = 3;
      lines =
          reads (Skew B 2) 8 ∷ reads (Drill (line.Call A (call.Mkdir (codes "d" ∷ [])))) 9 ∷ reads (Drill line.Restart) 1
          ∷ reads (Drill (line.Call A (call.Create (codes "a" ∷ [])))) 10
          ∷ reads (Drill (line.Call A (call.Write (codes "a" ∷ []) 0 (codes "abcdefgh")))) 14 ∷ reads (Drill (line.Call A call.Sync)) 3
          ∷ reads (Drill (line.Call A (call.Chmod (codes "a" ∷ []) 493))) 12 ∷ reads (Drill (line.End B)) 5
          ∷ reads (Drill (line.Call A (call.Create (codes "d" ∷ codes "b" ∷ [])))) 10 ∷ reads (Drill line.Restart) 1
          ∷ reads (Drill (line.Call A (call.Write (codes "d" ∷ codes "b" ∷ []) 2 (codes "ayb")))) 16
          ∷ reads (Drill (line.Call A (call.Fsync (codes "d" ∷ codes "b" ∷ [])))) 9 ∷ reads (Drill (line.Uncut A)) 7
          ∷ reads (Drill (line.Call A (call.Rmdir (codes "d" ∷ [])))) 9 ∷ reads (Drill line.Restart) 1
          ∷ reads (Drill (line.Call A (call.Rename (codes "a" ∷ []) (codes "a2" ∷ [])))) 13 ∷ reads (Drill (line.Call A (call.Stat []))) 8
          ∷ reads (Drill (line.Call A (call.Chmod (codes "d" ∷ codes "b" ∷ []) 384))) 14
          ∷ reads (Drill (line.Call A (call.Stat (codes "d" ∷ codes "b" ∷ [])))) 8 ∷ reads (Drill (line.Uncut B)) 7
          ∷ reads (Drill (line.Call A (call.Rename (codes "d" ∷ []) (codes "d" ∷ codes "e" ∷ codes "k" ∷ [])))) 13
          ∷ reads (Drill (line.End A)) 5 ∷ reads (Drill (line.Call A (call.Read (codes "d" ∷ codes "b" ∷ []) 1 9))) 15
          ∷ reads (Drill (line.Uncut A)) 7 ∷ reads (Drill (line.Call A (call.Read (codes "a2" ∷ []) 1 0))) 14
          ∷ reads (Drill (line.Call A (call.Create (codes "b" ∷ [])))) 10 ∷ reads (Drill line.Stop) 1
          ∷ reads (Drill (line.Call A (call.List []))) 8 ∷ [];
      shown =
          Line (Waits 2 A (call.Mkdir (codes "d" ∷ [])))
          ∷ Line (Answered 2 A (call.Mkdir (codes "d" ∷ [])) (answer.Reply reply.Ok) (Some 1)) ∷ Line Nothing
          ∷ Line (Answered 4 A (call.Create (codes "a" ∷ [])) (answer.Reply reply.Ok) (Some 2))
          ∷ Line (Answered 5 A (call.Write (codes "a" ∷ []) 0 (codes "abcdefgh")) (answer.Reply reply.Ok) (Some 3))
          ∷ Line (Waits 6 A call.Sync) ∷ Line (Durable A (1 ∷ 2 ∷ 3 ∷ [])) ∷ Line (Answered 6 A call.Sync (answer.Reply reply.Ok) None)
          ∷ Line (Answered 7 A (call.Chmod (codes "a" ∷ []) 493) (answer.Reply reply.Ok) (Some 4)) ∷ Line Nothing
          ∷ Line (Answered 9 A (call.Create (codes "d" ∷ codes "b" ∷ [])) (answer.Reply reply.Ok) (Some 5)) ∷ Line Nothing
          ∷ Line (Answered 11 A (call.Write (codes "d" ∷ codes "b" ∷ []) 2 (codes "ayb")) (answer.Reply reply.Ok) (Some 6))
          ∷ Line (Waits 12 A (call.Fsync (codes "d" ∷ codes "b" ∷ []))) ∷ Line (Durable A (5 ∷ 6 ∷ []))
          ∷ Line (Answered 12 A (call.Fsync (codes "d" ∷ codes "b" ∷ [])) (answer.Reply reply.Ok) None) ∷ Line Nothing
          ∷ Line (Answered 14 A (call.Rmdir (codes "d" ∷ [])) (answer.Reply (reply.Refused no.NotEmpty)) None) ∷ Line Nothing
          ∷ Line (Answered 16 A (call.Rename (codes "a" ∷ []) (codes "a2" ∷ [])) (answer.Reply reply.Ok) (Some 7))
          ∷ Line (Answered 17 A (call.Stat []) (answer.Reply (reply.Stat kind.Dir 493 0 0 2)) None)
          ∷ Line (Answered 18 A (call.Chmod (codes "d" ∷ codes "b" ∷ []) 384) (answer.Reply reply.Ok) (Some 8))
          ∷ Line (Answered 19 A (call.Stat (codes "d" ∷ codes "b" ∷ [])) (answer.Reply (reply.Stat kind.File 384 0 0 5)) None)
          ∷ Line Nothing
          ∷ Line (Answered 21 A (call.Rename (codes "d" ∷ []) (codes "d" ∷ codes "e" ∷ codes "k" ∷ [])) (answer.Reply (reply.Refused (no.NotFound 2))) None)
          ∷ Held A 13
          ∷ Line (Answered 23 A (call.Read (codes "d" ∷ codes "b" ∷ []) 1 9) (answer.Reply (reply.Data ((0 ∷ 97 ∷ 121 ∷ 98 ∷ [])))) None)
          ∷ Line Nothing ∷ Line (Answered 25 A (call.Read (codes "a2" ∷ []) 1 0) (answer.Reply (reply.Data [])) None)
          ∷ Line (Answered 26 A (call.Create (codes "b" ∷ [])) (answer.Reply reply.Ok) (Some 9)) ∷ Line Stopped
          ∷ Line (Answered 28 A (call.List []) (answer.Reply (reply.Names (codes "a2" ∷ codes "b" ∷ codes "d" ∷ []))) None) ∷ Line Started
          ∷ [];
      status = 0;
    }

abbrev pub stop_1 : LeaseRun
stop_1 =
    record {
      length = 10;
      most = 5;
      lines =
          reads (Drill (line.Call A (call.Mkdir (codes "d" ∷ [])))) 9 ∷ reads (Drill line.Restart) 1
          ∷ reads (Drill (line.Call B (call.Create (codes "a" ∷ [])))) 10
          ∷ reads (Drill (line.Call B (call.Write (codes "a" ∷ []) 0 (codes "abcdefgh")))) 14
          ∷ reads (Drill (line.Call A (call.Create (codes "b" ∷ [])))) 10 ∷ reads (Drill line.Stop) 1
          ∷ reads (Drill (line.Call A (call.Write (codes "b" ∷ []) 0 (codes "abcdefgh")))) 14 ∷ reads (Drill (line.Call A call.Sync)) 3
          ∷ reads (Tick 1) 6 ∷ reads (Drill (line.Call B call.Sync)) 3
          ∷ reads (Drill (line.Call A (call.Rename (codes "b" ∷ []) (codes "b" ∷ [])))) 13
          ∷ reads (Drill (line.Call A (call.Stat (codes "b" ∷ [])))) 8
          ∷ reads (Drill (line.Call B (call.Mkdir (codes "d" ∷ codes "k" ∷ [])))) 9 ∷ reads (Drill (line.Push A 1)) 8
          ∷ reads (Drill (line.Push A 2)) 8 ∷ reads (Drill (line.End A)) 5 ∷ reads (Drill (line.Call A (call.Chmod [] 493))) 11
          ∷ reads (Tick 1) 6 ∷ reads (Drill (line.Call B (call.Stat (codes "d" ∷ codes "k" ∷ [])))) 8 ∷ reads (Drill line.Restart) 1
          ∷ reads (Drill (line.Call B (call.Create (codes "d" ∷ codes "a" ∷ [])))) 10 ∷ reads (Drill (line.End A)) 5
          ∷ reads (Drill (line.Call B (call.Write (codes "d" ∷ codes "a" ∷ []) 0 (codes "ya")))) 16 ∷ reads (Drill (line.End A)) 5
          ∷ reads (Drill (line.Call B (call.Write (codes "d" ∷ codes "a" ∷ []) 2 (codes "xa")))) 16 ∷ reads (Drill (line.Uncut A)) 7
          ∷ reads (Drill (line.Call B (call.Write (codes "d" ∷ codes "a" ∷ []) 2 (codes "b")))) 16 ∷ reads (Grant A) 7
          ∷ reads (Drill (line.Push B 7)) 8 ∷ [];
      shown =
          Line (Waits 1 A (call.Mkdir (codes "d" ∷ [])))
          ∷ Line (Answered 1 A (call.Mkdir (codes "d" ∷ [])) (answer.Reply reply.Ok) (Some 1)) ∷ Line Nothing
          ∷ Line (Waits 3 B (call.Create (codes "a" ∷ []))) ∷ Line (Durable A (1 ∷ []))
          ∷ Line (Answered 3 B (call.Create (codes "a" ∷ [])) (answer.Reply reply.Ok) (Some 1))
          ∷ Line (Answered 4 B (call.Write (codes "a" ∷ []) 0 (codes "abcdefgh")) (answer.Reply reply.Ok) (Some 2))
          ∷ Line (Waits 5 A (call.Create (codes "b" ∷ []))) ∷ Line (Durable B (1 ∷ []))
          ∷ Line (Answered 5 A (call.Create (codes "b" ∷ [])) (answer.Reply reply.Ok) (Some 2)) ∷ Line Stopped
          ∷ Line (Answered 7 A (call.Write (codes "b" ∷ []) 0 (codes "abcdefgh")) (answer.Reply reply.Ok) (Some 3))
          ∷ Line (Waits 8 A call.Sync) ∷ Line (Waits 10 B call.Sync)
          ∷ Line (Answered 11 A (call.Rename (codes "b" ∷ []) (codes "b" ∷ [])) (answer.Reply reply.Ok) None)
          ∷ Line (Answered 12 A (call.Stat (codes "b" ∷ [])) (answer.Reply (reply.Stat kind.File 420 0 0 8)) None)
          ∷ Line (Waits 13 B (call.Mkdir (codes "d" ∷ codes "k" ∷ []))) ∷ Line Nothing ∷ Line Nothing
          ∷ Line (Answered 17 A (call.Chmod [] 493) (answer.Reply reply.Ok) (Some 4))
          ∷ Line (Waits 19 B (call.Stat (codes "d" ∷ codes "k" ∷ []))) ∷ Line Started ∷ Line (Durable A (2 ∷ 3 ∷ []))
          ∷ Line (Durable B (2 ∷ [])) ∷ Line (Answered 8 A call.Sync (answer.Reply reply.Ok) None)
          ∷ Line (Answered 10 B call.Sync (answer.Reply reply.Ok) None) ∷ Line (Durable A (4 ∷ []))
          ∷ Line (Answered 19 B (call.Stat (codes "d" ∷ codes "k" ∷ [])) (answer.Reply (reply.Refused (no.NotFound 2))) None)
          ∷ Line (Answered 13 B (call.Mkdir (codes "d" ∷ codes "k" ∷ [])) (answer.Reply reply.Ok) (Some 3))
          ∷ Line (Answered 21 B (call.Create (codes "d" ∷ codes "a" ∷ [])) (answer.Reply reply.Ok) (Some 4)) ∷ Held A 17
          ∷ Line (Answered 23 B (call.Write (codes "d" ∷ codes "a" ∷ []) 0 (codes "ya")) (answer.Reply reply.Ok) (Some 5)) ∷ Held A 17
          ∷ Line (Answered 25 B (call.Write (codes "d" ∷ codes "a" ∷ []) 2 (codes "xa")) (answer.Reply reply.Ok) (Some 6)) ∷ Line Nothing
          ∷ Line (Answered 27 B (call.Write (codes "d" ∷ codes "a" ∷ []) 2 (codes "b")) (answer.Reply reply.Ok) (Some 7))
          ∷ Line (Durable B (3 ∷ 4 ∷ 5 ∷ 6 ∷ 7 ∷ [])) ∷ [];
      status = 0;
    }

abbrev pub stop_2 : LeaseRun
stop_2 =
    record {
      length = 10;
      most = 3;
      lines =
          reads (Tick 4) 6 ∷ reads (Drill (line.Call A (call.Mkdir (codes "d" ∷ [])))) 9
          ∷ reads (Drill (line.Call C (call.Create (codes "a" ∷ [])))) 10 ∷ reads (Drill line.Restart) 1
          ∷ reads (Drill (line.Call C (call.Write (codes "a" ∷ []) 0 (codes "abcdefgh")))) 14 ∷ reads (Drill (line.Call A call.Sync)) 3
          ∷ reads (Drill (line.Call B call.Sync)) 3 ∷ reads (Drill (line.Cut B)) 5 ∷ reads (Drill (line.Call C call.Sync)) 3
          ∷ reads (Drill (line.Call A (call.Create (codes "e" ∷ codes "a" ∷ [])))) 10 ∷ reads (Drill (line.End B)) 5
          ∷ reads (Drill (line.Call A (call.Write (codes "a" ∷ []) 2 (codes "by")))) 14 ∷ reads (Drill line.Stop) 1
          ∷ reads (Drill (line.Call C (call.Mkdir (codes "e" ∷ [])))) 9 ∷ reads (Drill (line.Call A (call.Rmdir (codes "e" ∷ [])))) 9
          ∷ reads (Tick 4) 6 ∷ reads (Drill (line.Call A (call.Read (codes "a" ∷ []) 1 64))) 13
          ∷ reads (Drill (line.Call B (call.Read (codes "a" ∷ []) 3 9))) 13 ∷ reads (Drill (line.Call A (call.Mkdir (codes "e" ∷ [])))) 9
          ∷ reads (Drill (line.Cut B)) 5 ∷ reads (Drill (line.Call A (call.Create (codes "e" ∷ codes "a" ∷ [])))) 10 ∷ reads (Tick 4) 6
          ∷ reads (Drill (line.Call B (call.Stat []))) 8 ∷ reads (Drill (line.Call C (call.Fsync (codes "d" ∷ [])))) 9 ∷ reads (Skew B 0) 8
          ∷ reads (Drill (line.Call C (call.Stat (codes "a" ∷ [])))) 8
          ∷ reads (Drill (line.Call A (call.Rename (codes "e" ∷ []) (codes "e2" ∷ [])))) 13 ∷ [];
      shown =
          Line (Waits 2 A (call.Mkdir (codes "d" ∷ [])))
          ∷ Line (Answered 2 A (call.Mkdir (codes "d" ∷ [])) (answer.Reply reply.Ok) (Some 1))
          ∷ Line (Waits 3 C (call.Create (codes "a" ∷ []))) ∷ Line (Durable A (1 ∷ []))
          ∷ Line (Answered 3 C (call.Create (codes "a" ∷ [])) (answer.Reply reply.Ok) (Some 1)) ∷ Line Nothing
          ∷ Line (Answered 5 C (call.Write (codes "a" ∷ []) 0 (codes "abcdefgh")) (answer.Reply reply.Ok) (Some 2))
          ∷ Line (Answered 6 A call.Sync (answer.Reply reply.Ok) None) ∷ Line (Answered 7 B call.Sync (answer.Reply reply.Ok) None)
          ∷ Line (Waits 9 C call.Sync) ∷ Line (Durable C (1 ∷ 2 ∷ [])) ∷ Line (Answered 9 C call.Sync (answer.Reply reply.Ok) None)
          ∷ Line (Waits 10 A (call.Create (codes "e" ∷ codes "a" ∷ [])))
          ∷ Line (Answered 10 A (call.Create (codes "e" ∷ codes "a" ∷ [])) (answer.Reply (reply.Refused (no.NotFound 1))) None) ∷ Held B 17
          ∷ Line (Waits 12 A (call.Write (codes "a" ∷ []) 2 (codes "by")))
          ∷ Line (Answered 12 A (call.Write (codes "a" ∷ []) 2 (codes "by")) (answer.Reply reply.Ok) (Some 2)) ∷ Line Stopped
          ∷ Line (Waits 14 C (call.Mkdir (codes "e" ∷ [])))
          ∷ Line (Answered 15 A (call.Rmdir (codes "e" ∷ [])) (answer.Reply (reply.Refused (no.NotFound 1))) None)
          ∷ Line (Answered 17 A (call.Read (codes "a" ∷ []) 1 64) (answer.Reply (reply.Data (codes "bbyefgh"))) None)
          ∷ Line (Waits 18 B (call.Read (codes "a" ∷ []) 3 9)) ∷ Line (Waits 19 A (call.Mkdir (codes "e" ∷ []))) ∷ Line Nothing
          ∷ Line (Answered 21 A (call.Create (codes "e" ∷ codes "a" ∷ [])) (answer.Reply (reply.Refused (no.NotFound 1))) None)
          ∷ Line (Waits 23 B (call.Stat [])) ∷ Line (Waits 24 C (call.Fsync (codes "d" ∷ [])))
          ∷ Line (Waits 26 C (call.Stat (codes "a" ∷ [])))
          ∷ Line (Answered 27 A (call.Rename (codes "e" ∷ []) (codes "e2" ∷ [])) (answer.Reply (reply.Refused (no.NotFound 1))) None)
          ∷ Line Started ∷ [];
      status = 0;
    }

abbrev pub stop_3 : LeaseRun
stop_3 =
    record {
      length = 10;
      most = 5;
      lines =
          reads (Grant B) 7 ∷ reads (Drill (line.Call A (call.Mkdir (codes "d" ∷ [])))) 9 ∷ reads (Drill line.Stop) 1
          ∷ reads (Drill (line.Call A (call.Create (codes "a" ∷ [])))) 10 ∷ reads (Skew B 2) 8
          ∷ reads (Drill (line.Call A (call.Write (codes "a" ∷ []) 0 (codes "abcdefgh")))) 14 ∷ reads (Drill (line.Call A call.Sync)) 3
          ∷ reads (Drill (line.Call B call.Sync)) 3 ∷ reads (Drill (line.Call B (call.Rmdir (codes "d" ∷ [])))) 9
          ∷ reads (Drill (line.Call A (call.Write (codes "a" ∷ []) 6 (codes "by")))) 14 ∷ reads (Tick 4) 6
          ∷ reads (Drill (line.Call A (call.Rename (codes "a" ∷ []) (codes "e" ∷ codes "a" ∷ [])))) 13
          ∷ reads (Drill (line.Call A (call.Fsync (codes "d" ∷ [])))) 9
          ∷ reads (Drill (line.Call A (call.Create (codes "d" ∷ codes "a" ∷ [])))) 10
          ∷ reads (Drill (line.Call A (call.Read (codes "a" ∷ []) 0 2))) 13
          ∷ reads (Drill (line.Call B (call.Forder ((codes "d" ∷ []) ∷ [])))) 10
          ∷ reads (Drill (line.Call B (call.Read (codes "a" ∷ []) 0 0))) 13 ∷ reads (Drill line.Restart) 1 ∷ reads (Drill (line.Push A 4)) 8
          ∷ reads (Drill (line.End A)) 5 ∷ reads (Drill (line.Call B (call.Create (codes "a" ∷ [])))) 10
          ∷ reads (Drill (line.Call A (call.Create (codes "a" ∷ [])))) 10 ∷ reads (Drill (line.Call B (call.Mkdir (codes "d" ∷ [])))) 9
          ∷ reads (Drill (line.Call B (call.Write (codes "a" ∷ []) 5 (codes "yz")))) 14
          ∷ reads (Drill (line.Call B (call.Write (codes "a" ∷ []) 1 (codes "zc")))) 14
          ∷ reads (Drill (line.Call B (call.Write (codes "a" ∷ []) 1 (codes "by")))) 14 ∷ [];
      shown =
          Line Nothing ∷ Line (Waits 2 A (call.Mkdir (codes "d" ∷ [])))
          ∷ Line (Answered 2 A (call.Mkdir (codes "d" ∷ [])) (answer.Reply reply.Ok) (Some 1)) ∷ Line Stopped
          ∷ Line (Answered 4 A (call.Create (codes "a" ∷ [])) (answer.Reply reply.Ok) (Some 2))
          ∷ Line (Answered 6 A (call.Write (codes "a" ∷ []) 0 (codes "abcdefgh")) (answer.Reply reply.Ok) (Some 3))
          ∷ Line (Waits 7 A call.Sync) ∷ Line (Answered 8 B call.Sync (answer.Reply reply.Ok) None)
          ∷ Line (Waits 9 B (call.Rmdir (codes "d" ∷ [])))
          ∷ Line (Answered 10 A (call.Write (codes "a" ∷ []) 6 (codes "by")) (answer.Reply reply.Ok) (Some 4))
          ∷ Line (Answered 12 A (call.Rename (codes "a" ∷ []) (codes "e" ∷ codes "a" ∷ [])) (answer.Reply (reply.Refused (no.NotFound 1))) None)
          ∷ Line (Waits 13 A (call.Fsync (codes "d" ∷ [])))
          ∷ Line (Answered 14 A (call.Create (codes "d" ∷ codes "a" ∷ [])) (answer.Reply reply.Ok) (Some 5))
          ∷ Line (Answered 15 A (call.Read (codes "a" ∷ []) 0 2) (answer.Reply (reply.Data (codes "ab"))) None)
          ∷ Line (Waits 16 B (call.Forder ((codes "d" ∷ []) ∷ []))) ∷ Line (Waits 17 B (call.Read (codes "a" ∷ []) 0 0)) ∷ Line Started
          ∷ Line (Durable A (1 ∷ 2 ∷ 3 ∷ [])) ∷ Line (Answered 7 A call.Sync (answer.Reply reply.Ok) None)
          ∷ Line (Answered 13 A (call.Fsync (codes "d" ∷ [])) (answer.Reply reply.Ok) None) ∷ Line (Durable A (5 ∷ []))
          ∷ Line (Durable A (4 ∷ [])) ∷ Line (Answered 9 B (call.Rmdir (codes "d" ∷ [])) (answer.Reply (reply.Refused no.NotEmpty)) None)
          ∷ Line (Answered 17 B (call.Read (codes "a" ∷ []) 0 0) (answer.Reply (reply.Data [])) None)
          ∷ Line (Answered 16 B (call.Forder ((codes "d" ∷ []) ∷ [])) (answer.Reply reply.Ok) (Some 1)) ∷ Line Nothing ∷ Held A 19
          ∷ Line (Answered 21 B (call.Create (codes "a" ∷ [])) (answer.Reply (reply.Refused no.Exists)) None)
          ∷ Line (Answered 22 A (call.Create (codes "a" ∷ [])) (answer.Reply (reply.Refused no.Exists)) None)
          ∷ Line (Answered 23 B (call.Mkdir (codes "d" ∷ [])) (answer.Reply (reply.Refused no.Exists)) None)
          ∷ Line (Waits 24 B (call.Write (codes "a" ∷ []) 5 (codes "yz")))
          ∷ Line (Answered 24 B (call.Write (codes "a" ∷ []) 5 (codes "yz")) (answer.Reply reply.Ok) (Some 2))
          ∷ Line (Answered 25 B (call.Write (codes "a" ∷ []) 1 (codes "zc")) (answer.Reply reply.Ok) (Some 3))
          ∷ Line (Answered 26 B (call.Write (codes "a" ∷ []) 1 (codes "by")) (answer.Reply reply.Ok) (Some 4)) ∷ [];
      status = 0;
    }

abbrev pub stop_4 : LeaseRun
stop_4 =
    record {
      length = 100;
      most = 50;
      lines =
          reads (Drill (line.Call A (call.Create (codes "a" ∷ [])))) 10 ∷ reads (Drill (line.Call B (call.Read (codes "a" ∷ []) 1 64))) 13
          ∷ reads (Drill (line.Call B (call.Touch (codes "a" ∷ []) 8))) 12 ∷ reads (Drill (line.End B)) 5
          ∷ reads (Drill (line.Call B (call.Mkdir (codes "e" ∷ [])))) 9 ∷ reads (Grant A) 7
          ∷ reads (Drill (line.Call C (call.Read (codes "a" ∷ []) 0 2))) 13 ∷ reads (Skew A 100) 8
          ∷ reads (Drill (line.Call A (call.Fsync (codes "a" ∷ [])))) 9 ∷ reads (Grant A) 7
          ∷ reads (Drill (line.Call B (call.Write (codes "a" ∷ []) 0 (codes "ay")))) 14 ∷ reads (Drill line.Stop) 1
          ∷ reads (Drill (line.Call A (call.Write (codes "a" ∷ []) 0 (codes "z")))) 14 ∷ reads (Drill (line.End B)) 5
          ∷ reads (Drill (line.Call A (call.Write (codes "a" ∷ []) 0 (codes "yc")))) 14 ∷ reads (Drill (line.Cut B)) 5
          ∷ reads (Drill (line.Call B (call.Chown [] 7))) 11 ∷ reads (Drill (line.Uncut A)) 7
          ∷ reads (Drill (line.Call B (call.Write (codes "a" ∷ []) 5 (codes "b")))) 14
          ∷ reads (Drill (line.Call B (call.Write (codes "a" ∷ []) 1 (codes "a")))) 14 ∷ reads (Drill (line.Push B 5)) 8
          ∷ reads (Drill (line.Cut B)) 5 ∷ reads (Drill (line.Call C (call.Write (codes "a" ∷ []) 4 (codes "yz")))) 14 ∷ reads (Hand A 3) 8
          ∷ reads (Drill (line.Call C (call.Write (codes "a" ∷ []) 0 (codes "y")))) 14 ∷ [];
      shown =
          Line (Waits 1 A (call.Create (codes "a" ∷ [])))
          ∷ Line (Answered 1 A (call.Create (codes "a" ∷ [])) (answer.Reply reply.Ok) (Some 1))
          ∷ Line (Waits 2 B (call.Read (codes "a" ∷ []) 1 64)) ∷ Line (Durable A (1 ∷ []))
          ∷ Line (Answered 2 B (call.Read (codes "a" ∷ []) 1 64) (answer.Reply (reply.Data [])) None)
          ∷ Line (Waits 3 B (call.Touch (codes "a" ∷ []) 8))
          ∷ Line (Answered 3 B (call.Touch (codes "a" ∷ []) 8) (answer.Reply reply.Ok) (Some 1)) ∷ Held B 150
          ∷ Line (Waits 5 B (call.Mkdir (codes "e" ∷ [])))
          ∷ Line (Answered 5 B (call.Mkdir (codes "e" ∷ [])) (answer.Reply reply.Ok) (Some 2))
          ∷ Line (Waits 7 C (call.Read (codes "a" ∷ []) 0 2)) ∷ Line (Durable B (2 ∷ [])) ∷ Line (Durable B (1 ∷ []))
          ∷ Line (Answered 7 C (call.Read (codes "a" ∷ []) 0 2) (answer.Reply (reply.Data [])) None)
          ∷ Line (Waits 9 A (call.Fsync (codes "a" ∷ []))) ∷ Line (Answered 9 A (call.Fsync (codes "a" ∷ [])) (answer.Reply reply.Ok) None)
          ∷ Line (Waits 11 B (call.Write (codes "a" ∷ []) 0 (codes "ay")))
          ∷ Line (Answered 11 B (call.Write (codes "a" ∷ []) 0 (codes "ay")) (answer.Reply reply.Ok) (Some 3)) ∷ Line Stopped
          ∷ Line (Waits 13 A (call.Write (codes "a" ∷ []) 0 (codes "z"))) ∷ Line Nothing
          ∷ Line (Waits 15 A (call.Write (codes "a" ∷ []) 0 (codes "yc"))) ∷ Line (Waits 17 B (call.Chown [] 7)) ∷ Line Nothing
          ∷ Line (Answered 19 B (call.Write (codes "a" ∷ []) 5 (codes "b")) (answer.Reply reply.Ok) (Some 4))
          ∷ Line (Answered 20 B (call.Write (codes "a" ∷ []) 1 (codes "a")) (answer.Reply reply.Ok) (Some 5)) ∷ Line Nothing
          ∷ Line (Waits 23 C (call.Write (codes "a" ∷ []) 4 (codes "yz"))) ∷ Line Nothing
          ∷ Line (Waits 25 C (call.Write (codes "a" ∷ []) 0 (codes "y"))) ∷ Line Started ∷ [];
      status = 0;
    }

abbrev pub stop_5 : LeaseRun
stop_5 =
    record {
      length = 100;
      most = 0;
      lines =
          reads (Drill (line.Call B (call.Mkdir (codes "d" ∷ [])))) 9 ∷ reads (Drill (line.Call C (call.Create (codes "a" ∷ [])))) 10
          ∷ reads (Drill (line.Call A (call.Create (codes "d" ∷ codes "a" ∷ [])))) 10
          ∷ reads (Drill (line.Call C (call.Create (codes "e" ∷ codes "a" ∷ [])))) 10 ∷ reads (Drill (line.End B)) 5
          ∷ reads (Drill (line.Call A call.Sync)) 3 ∷ reads (Drill (line.Call B call.Sync)) 3 ∷ reads (Drill (line.End B)) 5
          ∷ reads (Drill (line.Call C call.Sync)) 3 ∷ reads (Drill (line.Call A (call.Touch (codes "d" ∷ []) 2))) 12
          ∷ reads (Drill (line.Call C (call.Create (codes "e" ∷ codes "a" ∷ [])))) 10
          ∷ reads (Drill (line.Call B (call.SetLen (codes "d" ∷ codes "a" ∷ []) 4))) 15 ∷ reads (Drill (line.Push B 1)) 8
          ∷ reads (Drill (line.Call C (call.Write (codes "e" ∷ codes "a" ∷ []) 2 (codes "z")))) 16 ∷ reads (Drill line.Stop) 1
          ∷ reads (Drill (line.Call C (call.Create (codes "a" ∷ [])))) 10
          ∷ reads (Drill (line.Call A (call.Write (codes "d" ∷ codes "a" ∷ []) 3 (codes "zbzcb")))) 16 ∷ reads (Tick 34) 6
          ∷ reads (Drill (line.Call A (call.Remove (codes "d" ∷ codes "a" ∷ [])))) 10
          ∷ reads (Drill (line.Call C (call.Create (codes "d" ∷ codes "a" ∷ [])))) 10 ∷ reads (Hand A 1) 8
          ∷ reads (Drill (line.Call A (call.Rename (codes "d" ∷ codes "a" ∷ []) (codes "d" ∷ codes "a" ∷ [])))) 15
          ∷ reads (Drill (line.Call A (call.Create (codes "d" ∷ codes "a" ∷ [])))) 10 ∷ [];
      shown =
          Line (Waits 1 B (call.Mkdir (codes "d" ∷ [])))
          ∷ Line (Answered 1 B (call.Mkdir (codes "d" ∷ [])) (answer.Reply reply.Ok) (Some 1))
          ∷ Line (Waits 2 C (call.Create (codes "a" ∷ []))) ∷ Line (Durable B (1 ∷ []))
          ∷ Line (Answered 2 C (call.Create (codes "a" ∷ [])) (answer.Reply reply.Ok) (Some 1))
          ∷ Line (Waits 3 A (call.Create (codes "d" ∷ codes "a" ∷ []))) ∷ Line (Durable C (1 ∷ []))
          ∷ Line (Answered 3 A (call.Create (codes "d" ∷ codes "a" ∷ [])) (answer.Reply reply.Ok) (Some 1))
          ∷ Line (Answered 4 C (call.Create (codes "e" ∷ codes "a" ∷ [])) (answer.Reply (reply.Refused (no.NotFound 1))) None) ∷ Held B 100
          ∷ Line (Waits 6 A call.Sync) ∷ Line (Durable A (1 ∷ [])) ∷ Line (Answered 6 A call.Sync (answer.Reply reply.Ok) None)
          ∷ Line (Answered 7 B call.Sync (answer.Reply reply.Ok) None) ∷ Held B 100
          ∷ Line (Answered 9 C call.Sync (answer.Reply reply.Ok) None)
          ∷ Line (Answered 10 A (call.Touch (codes "d" ∷ []) 2) (answer.Reply reply.Ok) (Some 2))
          ∷ Line (Answered 11 C (call.Create (codes "e" ∷ codes "a" ∷ [])) (answer.Reply (reply.Refused (no.NotFound 1))) None)
          ∷ Line (Waits 12 B (call.SetLen (codes "d" ∷ codes "a" ∷ []) 4)) ∷ Line (Durable A (2 ∷ []))
          ∷ Line (Answered 12 B (call.SetLen (codes "d" ∷ codes "a" ∷ []) 4) (answer.Reply reply.Ok) (Some 2)) ∷ Line Nothing
          ∷ Line (Answered 14 C (call.Write (codes "e" ∷ codes "a" ∷ []) 2 (codes "z")) (answer.Reply (reply.Refused (no.NotFound 1))) None)
          ∷ Line Stopped ∷ Line (Answered 16 C (call.Create (codes "a" ∷ [])) (answer.Reply (reply.Refused no.Exists)) None)
          ∷ Line (Waits 17 A (call.Write (codes "d" ∷ codes "a" ∷ []) 3 (codes "zbzcb")))
          ∷ Line (Waits 19 A (call.Remove (codes "d" ∷ codes "a" ∷ []))) ∷ Line (Waits 20 C (call.Create (codes "d" ∷ codes "a" ∷ [])))
          ∷ Line Nothing ∷ Line (Waits 22 A (call.Rename (codes "d" ∷ codes "a" ∷ []) (codes "d" ∷ codes "a" ∷ [])))
          ∷ Line (Answered 23 A (call.Create (codes "d" ∷ codes "a" ∷ [])) (answer.Reply (reply.Refused no.Exists)) None) ∷ Line Started
          ∷ [];
      status = 0;
    }

abbrev pub stop_6 : LeaseRun
stop_6 =
    record {
      length = 100;
      most = 3;
      lines =
          reads (Drill line.Restart) 1 ∷ reads (Drill (line.Call A (call.Remove (codes "d" ∷ codes "b" ∷ [])))) 10 ∷ reads (Skew B 6) 8
          ∷ reads (Drill (line.Call B (call.Write (codes "d" ∷ codes "a" ∷ []) 0 ((0 ∷ 255 ∷ 37 ∷ []))))) 16
          ∷ reads (Drill (line.Uncut A)) 7 ∷ reads (Drill (line.Call C (call.Fsync (codes "e" ∷ codes "a" ∷ [])))) 9
          ∷ reads (Drill (line.Uncut A)) 7 ∷ reads (Drill (line.Call A (call.Read (codes "b" ∷ []) 3 0))) 13
          ∷ reads (Drill (line.Call C (call.Stat (codes "d" ∷ codes "e" ∷ codes "a" ∷ [])))) 8 ∷ reads (Hand B 1) 8
          ∷ reads (Drill (line.Call B (call.Chown (codes "d" ∷ codes "e" ∷ codes "a" ∷ []) 8))) 16
          ∷ reads (Drill (line.Call A (call.Stat (codes "d" ∷ codes "k" ∷ [])))) 8 ∷ reads (Tick 200) 6
          ∷ reads (Drill (line.Call B (call.Write (codes "b" ∷ []) 3 (codes "bax")))) 14 ∷ reads (Drill (line.Uncut B)) 7
          ∷ reads (Drill (line.Call B (call.Rename (codes "d" ∷ codes "e" ∷ codes "a" ∷ []) (codes "b" ∷ [])))) 17
          ∷ reads (Drill (line.End A)) 5 ∷ reads (Drill (line.Call A (call.SetLen (codes "d" ∷ codes "a" ∷ []) 2))) 15
          ∷ reads (Drill line.Restart) 1
          ∷ reads (Drill (line.Call A (call.Write (codes "d" ∷ codes "e" ∷ codes "a" ∷ []) 0 (codes "y")))) 18 ∷ reads (Skew B 3) 8
          ∷ reads (Drill (line.Call A (call.Write (codes "d" ∷ codes "e" ∷ codes "a" ∷ []) 1 (codes "bb")))) 18
          ∷ reads (Drill line.Restart) 1 ∷ reads (Drill (line.Call C (call.Rename (codes "e" ∷ codes "a" ∷ []) (codes "b" ∷ [])))) 15
          ∷ reads (Drill line.Stop) 1 ∷ reads (Drill (line.Call A (call.Read (codes "d" ∷ codes "e" ∷ codes "a" ∷ []) 0 9))) 17
          ∷ reads (Drill line.Restart) 1 ∷ reads (Drill (line.Call A (call.Remove (codes "d" ∷ codes "e" ∷ codes "a" ∷ [])))) 10
          ∷ reads (Drill (line.Call C (call.List []))) 8 ∷ reads (Drill (line.Call A (call.List (codes "d" ∷ [])))) 8
          ∷ reads (Drill (line.Call B (call.Write (codes "a" ∷ []) 2 (codes "xy")))) 14 ∷ reads (Skew A 2) 8
          ∷ reads (Drill (line.Call B (call.Write (codes "a" ∷ []) 3 (codes "yb")))) 14 ∷ [];
      shown =
          Line Nothing ∷ Line (Waits 2 A (call.Remove (codes "d" ∷ codes "b" ∷ [])))
          ∷ Line (Answered 2 A (call.Remove (codes "d" ∷ codes "b" ∷ [])) (answer.Reply (reply.Refused (no.NotFound 1))) None)
          ∷ Line (Waits 4 B (call.Write (codes "d" ∷ codes "a" ∷ []) 0 ((0 ∷ 255 ∷ 37 ∷ []))))
          ∷ Line (Answered 4 B (call.Write (codes "d" ∷ codes "a" ∷ []) 0 ((0 ∷ 255 ∷ 37 ∷ []))) (answer.Reply (reply.Refused (no.NotFound 1))) None)
          ∷ Line Nothing ∷ Line (Waits 6 C (call.Fsync (codes "e" ∷ codes "a" ∷ [])))
          ∷ Line (Answered 6 C (call.Fsync (codes "e" ∷ codes "a" ∷ [])) (answer.Reply (reply.Refused (no.NotFound 1))) None) ∷ Line Nothing
          ∷ Line (Answered 8 A (call.Read (codes "b" ∷ []) 3 0) (answer.Reply (reply.Refused (no.NotFound 1))) None)
          ∷ Line (Answered 9 C (call.Stat (codes "d" ∷ codes "e" ∷ codes "a" ∷ [])) (answer.Reply (reply.Refused (no.NotFound 1))) None)
          ∷ Line Nothing
          ∷ Line (Answered 11 B (call.Chown (codes "d" ∷ codes "e" ∷ codes "a" ∷ []) 8) (answer.Reply (reply.Refused (no.NotFound 1))) None)
          ∷ Line (Answered 12 A (call.Stat (codes "d" ∷ codes "k" ∷ [])) (answer.Reply (reply.Refused (no.NotFound 1))) None)
          ∷ Line (Answered 14 B (call.Write (codes "b" ∷ []) 3 (codes "bax")) (answer.Reply (reply.Refused (no.NotFound 1))) None)
          ∷ Line Nothing
          ∷ Line (Answered 16 B (call.Rename (codes "d" ∷ codes "e" ∷ codes "a" ∷ []) (codes "b" ∷ [])) (answer.Reply (reply.Refused (no.NotFound 1))) None)
          ∷ Held A 303
          ∷ Line (Answered 18 A (call.SetLen (codes "d" ∷ codes "a" ∷ []) 2) (answer.Reply (reply.Refused (no.NotFound 1))) None)
          ∷ Line Nothing
          ∷ Line (Answered 20 A (call.Write (codes "d" ∷ codes "e" ∷ codes "a" ∷ []) 0 (codes "y")) (answer.Reply (reply.Refused (no.NotFound 1))) None)
          ∷ Line (Answered 22 A (call.Write (codes "d" ∷ codes "e" ∷ codes "a" ∷ []) 1 (codes "bb")) (answer.Reply (reply.Refused (no.NotFound 1))) None)
          ∷ Line Nothing
          ∷ Line (Answered 24 C (call.Rename (codes "e" ∷ codes "a" ∷ []) (codes "b" ∷ [])) (answer.Reply (reply.Refused (no.NotFound 1))) None)
          ∷ Line Stopped
          ∷ Line (Answered 26 A (call.Read (codes "d" ∷ codes "e" ∷ codes "a" ∷ []) 0 9) (answer.Reply (reply.Refused (no.NotFound 1))) None)
          ∷ Line Started
          ∷ Line (Answered 28 A (call.Remove (codes "d" ∷ codes "e" ∷ codes "a" ∷ [])) (answer.Reply (reply.Refused (no.NotFound 1))) None)
          ∷ Line (Answered 29 C (call.List []) (answer.Reply (reply.Names [])) None)
          ∷ Line (Answered 30 A (call.List (codes "d" ∷ [])) (answer.Reply (reply.Refused (no.NotFound 1))) None)
          ∷ Line (Answered 31 B (call.Write (codes "a" ∷ []) 2 (codes "xy")) (answer.Reply (reply.Refused (no.NotFound 1))) None)
          ∷ Line (Answered 33 B (call.Write (codes "a" ∷ []) 3 (codes "yb")) (answer.Reply (reply.Refused (no.NotFound 1))) None) ∷ [];
      status = 0;
    }

abbrev pub stop_7 : LeaseRun
stop_7 =
    record {
      length = 10;
      most = 5;
      lines =
          reads (Drill (line.End A)) 5 ∷ reads (Drill (line.Call A (call.Mkdir (codes "d" ∷ [])))) 9 ∷ reads (Drill line.Restart) 1
          ∷ reads (Drill (line.Call A (call.Create (codes "a" ∷ [])))) 10 ∷ reads (Drill (line.Cut A)) 5
          ∷ reads (Drill (line.Call A (call.Write (codes "a" ∷ []) 0 (codes "abcdefgh")))) 14
          ∷ reads (Drill (line.Call B (call.Rename (codes "a" ∷ []) (codes "a2" ∷ [])))) 13
          ∷ reads (Drill (line.Call B (call.Write (codes "a2" ∷ []) 4 (codes "cx")))) 15
          ∷ reads (Drill (line.Call B (call.Write (codes "a2" ∷ []) 3 (codes "xx")))) 15 ∷ reads (Drill line.Stop) 1
          ∷ reads (Drill (line.Call B (call.Write (codes "a2" ∷ []) 2 (codes "cz")))) 15 ∷ reads (Drill (line.End B)) 5
          ∷ reads (Drill (line.Call A (call.Chmod (codes "a2" ∷ []) 4095))) 13 ∷ reads (Drill (line.Call A (call.Rmdir (codes "d" ∷ [])))) 9
          ∷ reads (Grant A) 7 ∷ reads (Drill (line.Call B (call.Rename (codes "a2" ∷ []) (codes "e" ∷ codes "a" ∷ [])))) 14
          ∷ reads (Drill line.Restart) 1 ∷ reads (Drill (line.Call B (call.Create (codes "a" ∷ [])))) 10 ∷ reads (Drill (line.End B)) 5
          ∷ reads (Drill (line.Call B (call.Write (codes "a" ∷ []) 3 (codes "zb")))) 14 ∷ reads (Drill (line.Uncut A)) 7
          ∷ reads (Drill (line.Call B (call.Write (codes "a" ∷ []) 4 (codes "yb")))) 14
          ∷ reads (Drill (line.Call B (call.SetLen (codes "a" ∷ []) 0))) 13 ∷ reads (Tick 1) 6
          ∷ reads (Drill (line.Call B (call.Write (codes "a2" ∷ []) 5 (codes "y")))) 15
          ∷ reads (Drill (line.Call B (call.Write (codes "a2" ∷ []) 2 (codes "c")))) 15
          ∷ reads (Drill (line.Call B (call.Write (codes "a2" ∷ []) 2 (codes "zz")))) 15 ∷ [];
      shown =
          Line Nothing ∷ Line (Waits 2 A (call.Mkdir (codes "d" ∷ [])))
          ∷ Line (Answered 2 A (call.Mkdir (codes "d" ∷ [])) (answer.Reply reply.Ok) (Some 1)) ∷ Line Nothing
          ∷ Line (Answered 4 A (call.Create (codes "a" ∷ [])) (answer.Reply reply.Ok) (Some 2))
          ∷ Line (Answered 6 A (call.Write (codes "a" ∷ []) 0 (codes "abcdefgh")) (answer.Reply reply.Ok) (Some 3))
          ∷ Line (Waits 7 B (call.Rename (codes "a" ∷ []) (codes "a2" ∷ [])))
          ∷ Line (Waits 8 B (call.Write (codes "a2" ∷ []) 4 (codes "cx"))) ∷ Line (Waits 9 B (call.Write (codes "a2" ∷ []) 3 (codes "xx")))
          ∷ Line Stopped ∷ Line (Waits 11 B (call.Write (codes "a2" ∷ []) 2 (codes "cz"))) ∷ Line Nothing
          ∷ Line (Answered 13 A (call.Chmod (codes "a2" ∷ []) 4095) (answer.Reply (reply.Refused (no.NotFound 1))) None)
          ∷ Line (Answered 14 A (call.Rmdir (codes "d" ∷ [])) (answer.Reply reply.Ok) (Some 4)) ∷ Line Nothing
          ∷ Line (Waits 16 B (call.Rename (codes "a2" ∷ []) (codes "e" ∷ codes "a" ∷ []))) ∷ Line Started
          ∷ Line (Waits 18 B (call.Create (codes "a" ∷ []))) ∷ Held B 15 ∷ Line (Waits 20 B (call.Write (codes "a" ∷ []) 3 (codes "zb")))
          ∷ Line (Durable A (1 ∷ 2 ∷ 4 ∷ []))
          ∷ Line (Answered 8 B (call.Write (codes "a2" ∷ []) 4 (codes "cx")) (answer.Reply (reply.Refused (no.NotFound 1))) None)
          ∷ Line (Answered 9 B (call.Write (codes "a2" ∷ []) 3 (codes "xx")) (answer.Reply (reply.Refused (no.NotFound 1))) None)
          ∷ Line (Answered 11 B (call.Write (codes "a2" ∷ []) 2 (codes "cz")) (answer.Reply (reply.Refused (no.NotFound 1))) None)
          ∷ Line (Answered 16 B (call.Rename (codes "a2" ∷ []) (codes "e" ∷ codes "a" ∷ [])) (answer.Reply (reply.Refused (no.NotFound 1))) None)
          ∷ Line (Answered 18 B (call.Create (codes "a" ∷ [])) (answer.Reply (reply.Refused no.Exists)) None) ∷ Line (Durable A (3 ∷ []))
          ∷ Line (Answered 7 B (call.Rename (codes "a" ∷ []) (codes "a2" ∷ [])) (answer.Reply reply.Ok) (Some 1))
          ∷ Line (Answered 20 B (call.Write (codes "a" ∷ []) 3 (codes "zb")) (answer.Reply (reply.Refused (no.NotFound 1))) None)
          ∷ Line (Answered 22 B (call.Write (codes "a" ∷ []) 4 (codes "yb")) (answer.Reply (reply.Refused (no.NotFound 1))) None)
          ∷ Line (Answered 23 B (call.SetLen (codes "a" ∷ []) 0) (answer.Reply (reply.Refused (no.NotFound 1))) None)
          ∷ Line (Answered 25 B (call.Write (codes "a2" ∷ []) 5 (codes "y")) (answer.Reply reply.Ok) (Some 2))
          ∷ Line (Answered 26 B (call.Write (codes "a2" ∷ []) 2 (codes "c")) (answer.Reply reply.Ok) (Some 3))
          ∷ Line (Answered 27 B (call.Write (codes "a2" ∷ []) 2 (codes "zz")) (answer.Reply reply.Ok) (Some 4)) ∷ [];
      status = 0;
    }

abbrev pub stop_8 : LeaseRun
stop_8 =
    record {
      length = 10;
      most = 0;
      lines =
          reads (Drill line.Stop) 1 ∷ reads (Drill (line.Call B (call.Stat (codes "d" ∷ codes "e" ∷ [])))) 8 ∷ reads (Drill (line.End B)) 5
          ∷ reads (Drill (line.Call B (call.Write (codes "b" ∷ []) 5 (codes "xc")))) 14
          ∷ reads (Drill (line.Call B (call.Write (codes "b" ∷ []) 1 (codes "by")))) 14
          ∷ reads (Drill (line.Call A (call.Write (codes "a" ∷ []) 2 (codes "cb")))) 14 ∷ reads (Grant A) 7
          ∷ reads (Drill (line.Call A (call.Write (codes "a" ∷ []) 5 (codes "y")))) 14 ∷ reads (Skew B 0) 8
          ∷ reads (Drill (line.Call B (call.Rename (codes "d" ∷ codes "k" ∷ []) (codes "d" ∷ codes "e" ∷ [])))) 15 ∷ reads (Tick 10) 6
          ∷ reads (Drill (line.Call A (call.Rmdir (codes "e" ∷ [])))) 9 ∷ reads (Skew B 0) 8
          ∷ reads (Drill (line.Call A (call.Write (codes "a" ∷ []) 5 (codes "y")))) 14
          ∷ reads (Drill (line.Call A (call.Write (codes "a" ∷ []) 5 (codes "xb")))) 14 ∷ reads (Drill line.Restart) 1
          ∷ reads (Drill (line.Call A (call.Write (codes "a" ∷ []) 5 (codes "x")))) 14
          ∷ reads (Drill (line.Call B (call.Stat (codes "d" ∷ codes "b" ∷ [])))) 8 ∷ reads (Drill (line.End A)) 5
          ∷ reads (Drill (line.Call A (call.Create (codes "a" ∷ [])))) 10 ∷ reads (Drill (line.End B)) 5
          ∷ reads (Drill (line.Call A (call.Write (codes "a" ∷ []) 2 (codes "xcyac")))) 14
          ∷ reads (Drill (line.Call B (call.Write (codes "a" ∷ []) 0 (codes "x")))) 14 ∷ reads (Drill (line.Uncut B)) 7
          ∷ reads (Drill (line.Call B (call.Write (codes "a" ∷ []) 2 (codes "aa")))) 14 ∷ reads (Drill (line.Uncut B)) 7
          ∷ reads (Drill (line.Push B 1)) 8 ∷ reads (Drill (line.Call B (call.Chmod (codes "a" ∷ []) 384))) 12 ∷ reads (Tick 4) 6
          ∷ reads (Drill (line.Call A (call.List []))) 8 ∷ [];
      shown =
          Line Stopped ∷ Line (Waits 2 B (call.Stat (codes "d" ∷ codes "e" ∷ []))) ∷ Line Nothing
          ∷ Line (Waits 4 B (call.Write (codes "b" ∷ []) 5 (codes "xc"))) ∷ Line (Waits 5 B (call.Write (codes "b" ∷ []) 1 (codes "by")))
          ∷ Line (Waits 6 A (call.Write (codes "a" ∷ []) 2 (codes "cb"))) ∷ Line Nothing
          ∷ Line (Waits 8 A (call.Write (codes "a" ∷ []) 5 (codes "y")))
          ∷ Line (Waits 10 B (call.Rename (codes "d" ∷ codes "k" ∷ []) (codes "d" ∷ codes "e" ∷ [])))
          ∷ Line (Waits 12 A (call.Rmdir (codes "e" ∷ []))) ∷ Line (Waits 14 A (call.Write (codes "a" ∷ []) 5 (codes "y")))
          ∷ Line (Waits 15 A (call.Write (codes "a" ∷ []) 5 (codes "xb"))) ∷ Line Started
          ∷ Line (Answered 2 B (call.Stat (codes "d" ∷ codes "e" ∷ [])) (answer.Reply (reply.Refused (no.NotFound 1))) None)
          ∷ Line (Answered 4 B (call.Write (codes "b" ∷ []) 5 (codes "xc")) (answer.Reply (reply.Refused (no.NotFound 1))) None)
          ∷ Line (Answered 5 B (call.Write (codes "b" ∷ []) 1 (codes "by")) (answer.Reply (reply.Refused (no.NotFound 1))) None)
          ∷ Line (Answered 10 B (call.Rename (codes "d" ∷ codes "k" ∷ []) (codes "d" ∷ codes "e" ∷ [])) (answer.Reply (reply.Refused (no.NotFound 1))) None)
          ∷ Line (Answered 6 A (call.Write (codes "a" ∷ []) 2 (codes "cb")) (answer.Reply (reply.Refused (no.NotFound 1))) None)
          ∷ Line (Answered 8 A (call.Write (codes "a" ∷ []) 5 (codes "y")) (answer.Reply (reply.Refused (no.NotFound 1))) None)
          ∷ Line (Answered 12 A (call.Rmdir (codes "e" ∷ [])) (answer.Reply (reply.Refused (no.NotFound 1))) None)
          ∷ Line (Answered 14 A (call.Write (codes "a" ∷ []) 5 (codes "y")) (answer.Reply (reply.Refused (no.NotFound 1))) None)
          ∷ Line (Answered 15 A (call.Write (codes "a" ∷ []) 5 (codes "xb")) (answer.Reply (reply.Refused (no.NotFound 1))) None)
          ∷ Line (Answered 17 A (call.Write (codes "a" ∷ []) 5 (codes "x")) (answer.Reply (reply.Refused (no.NotFound 1))) None)
          ∷ Line (Answered 18 B (call.Stat (codes "d" ∷ codes "b" ∷ [])) (answer.Reply (reply.Refused (no.NotFound 1))) None) ∷ Held A 20
          ∷ Line (Waits 20 A (call.Create (codes "a" ∷ [])))
          ∷ Line (Answered 20 A (call.Create (codes "a" ∷ [])) (answer.Reply reply.Ok) (Some 1)) ∷ Held B 20
          ∷ Line (Answered 22 A (call.Write (codes "a" ∷ []) 2 (codes "xcyac")) (answer.Reply reply.Ok) (Some 2))
          ∷ Line (Waits 23 B (call.Write (codes "a" ∷ []) 0 (codes "x"))) ∷ Line (Durable A (1 ∷ [])) ∷ Line (Durable A (2 ∷ []))
          ∷ Line (Answered 23 B (call.Write (codes "a" ∷ []) 0 (codes "x")) (answer.Reply reply.Ok) (Some 1)) ∷ Line Nothing
          ∷ Line (Answered 25 B (call.Write (codes "a" ∷ []) 2 (codes "aa")) (answer.Reply reply.Ok) (Some 2)) ∷ Line Nothing
          ∷ Line (Durable B (1 ∷ [])) ∷ Line (Answered 28 B (call.Chmod (codes "a" ∷ []) 384) (answer.Reply reply.Ok) (Some 3))
          ∷ Line (Answered 30 A (call.List []) (answer.Reply (reply.Names (codes "a" ∷ []))) None) ∷ [];
      status = 0;
    }

abbrev pub stop_9 : LeaseRun
stop_9 =
    record {
      length = 10;
      most = 3;
      lines =
          reads (Drill (line.Call B call.Sync)) 3 ∷ reads (Drill (line.Call A (call.List (codes "e" ∷ [])))) 8
          ∷ reads (Drill (line.End B)) 5 ∷ reads (Drill (line.Call A (call.Write (codes "d" ∷ codes "b" ∷ []) 6 (codes "z")))) 16
          ∷ reads (Drill (line.Uncut B)) 7 ∷ reads (Drill (line.Call A (call.List []))) 8 ∷ reads (Drill (line.End B)) 5
          ∷ reads (Drill (line.Call A (call.Create (codes "a" ∷ [])))) 10 ∷ reads (Skew B 5) 8
          ∷ reads (Drill (line.Call B (call.Stat (codes "e" ∷ codes "a" ∷ [])))) 8 ∷ reads (Drill line.Restart) 1
          ∷ reads (Drill (line.Call A (call.Rename (codes "a" ∷ []) (codes "b" ∷ [])))) 13 ∷ reads (Drill (line.End A)) 5
          ∷ reads (Drill (line.Call A (call.List (codes "d" ∷ codes "k" ∷ [])))) 8
          ∷ reads (Drill (line.Call C (call.Rmdir (codes "d" ∷ codes "k" ∷ [])))) 9 ∷ reads (Grant A) 7
          ∷ reads (Drill (line.Call C (call.Write (codes "b" ∷ []) 0 (codes "aacaz")))) 14 ∷ reads (Drill line.Restart) 1
          ∷ reads (Drill (line.Call B (call.Remove (codes "d" ∷ codes "b" ∷ [])))) 10 ∷ reads (Drill (line.Cut A)) 5
          ∷ reads (Drill (line.Call A (call.Remove (codes "b" ∷ [])))) 10
          ∷ reads (Drill (line.Call A (call.Fsync (codes "d" ∷ codes "b" ∷ [])))) 9
          ∷ reads (Drill (line.Call A (call.Read (codes "b" ∷ []) 0 2))) 13 ∷ reads (Drill (line.End B)) 5
          ∷ reads (Drill (line.Call C (call.Write (codes "e" ∷ codes "a" ∷ []) 0 (codes "cac")))) 16 ∷ reads (Drill line.Stop) 1
          ∷ reads (Drill (line.Call A (call.Mkdir (codes "e" ∷ [])))) 9 ∷ reads (Drill (line.Call A (call.Chown (codes "e" ∷ []) 6))) 12
          ∷ reads (Drill (line.Call B (call.Read (codes "b" ∷ []) 1 0))) 13 ∷ [];
      shown =
          Line (Answered 1 B call.Sync (answer.Reply reply.Ok) None) ∷ Line (Waits 2 A (call.List (codes "e" ∷ [])))
          ∷ Line (Answered 2 A (call.List (codes "e" ∷ [])) (answer.Reply (reply.Refused (no.NotFound 1))) None) ∷ Held B 13
          ∷ Line (Answered 4 A (call.Write (codes "d" ∷ codes "b" ∷ []) 6 (codes "z")) (answer.Reply (reply.Refused (no.NotFound 1))) None)
          ∷ Line Nothing ∷ Line (Answered 6 A (call.List []) (answer.Reply (reply.Names [])) None) ∷ Held B 13
          ∷ Line (Waits 8 A (call.Create (codes "a" ∷ [])))
          ∷ Line (Answered 8 A (call.Create (codes "a" ∷ [])) (answer.Reply reply.Ok) (Some 1))
          ∷ Line (Waits 10 B (call.Stat (codes "e" ∷ codes "a" ∷ []))) ∷ Line (Durable A (1 ∷ []))
          ∷ Line (Answered 10 B (call.Stat (codes "e" ∷ codes "a" ∷ [])) (answer.Reply (reply.Refused (no.NotFound 1))) None) ∷ Line Nothing
          ∷ Line (Waits 12 A (call.Rename (codes "a" ∷ []) (codes "b" ∷ [])))
          ∷ Line (Answered 12 A (call.Rename (codes "a" ∷ []) (codes "b" ∷ [])) (answer.Reply reply.Ok) (Some 2)) ∷ Held A 13
          ∷ Line (Answered 14 A (call.List (codes "d" ∷ codes "k" ∷ [])) (answer.Reply (reply.Refused (no.NotFound 1))) None)
          ∷ Line (Waits 15 C (call.Rmdir (codes "d" ∷ codes "k" ∷ []))) ∷ Line (Durable A (2 ∷ []))
          ∷ Line (Answered 15 C (call.Rmdir (codes "d" ∷ codes "k" ∷ [])) (answer.Reply (reply.Refused (no.NotFound 1))) None)
          ∷ Line (Waits 17 C (call.Write (codes "b" ∷ []) 0 (codes "aacaz")))
          ∷ Line (Answered 17 C (call.Write (codes "b" ∷ []) 0 (codes "aacaz")) (answer.Reply reply.Ok) (Some 1)) ∷ Line Nothing
          ∷ Line (Waits 19 B (call.Remove (codes "d" ∷ codes "b" ∷ [])))
          ∷ Line (Answered 19 B (call.Remove (codes "d" ∷ codes "b" ∷ [])) (answer.Reply (reply.Refused (no.NotFound 1))) None)
          ∷ Line (Waits 21 A (call.Remove (codes "b" ∷ [])))
          ∷ Line (Answered 22 A (call.Fsync (codes "d" ∷ codes "b" ∷ [])) (answer.Reply (reply.Refused (no.NotFound 1))) None)
          ∷ Line (Waits 23 A (call.Read (codes "b" ∷ []) 0 2)) ∷ Held B 13
          ∷ Line (Answered 25 C (call.Write (codes "e" ∷ codes "a" ∷ []) 0 (codes "cac")) (answer.Reply (reply.Refused (no.NotFound 1))) None)
          ∷ Line Stopped ∷ Line (Waits 27 A (call.Mkdir (codes "e" ∷ [])))
          ∷ Line (Answered 28 A (call.Chown (codes "e" ∷ []) 6) (answer.Reply (reply.Refused (no.NotFound 1))) None)
          ∷ Line (Waits 29 B (call.Read (codes "b" ∷ []) 1 0)) ∷ Line Started ∷ [];
      status = 0;
    }
