-- Long scripts.
use Rattle.std.specs.Prelude.{[], ◌∷◌, None, Some, codes}
use Rattle.ec_plain.specs.declared.call.Call.TheVariants as call
use Rattle.ec_plain.specs.declared.call.Reply.TheVariants as reply
use Rattle.ec_plain.specs.declared.call.Refusal.TheVariants as no
use Rattle.ec_history.specs.declared.entry.Answer.TheVariants as answer
use Rattle.ec_history.specs.declared.shown.Shown.TheVariants.{Waits, Answered, Durable}
use Rattle.ec_protocol.specs.declared.script.Line.TheVariants as line
use Rattle.ec_protocol.specs.Drill.{reads}
use Rattle.ec_protocol.specs.Runs.{Run, A, B}

-- a directory of 128 entries, in which one more is refused
abbrev pub full_directory : Run
full_directory =
    record {
      lines =
          reads (line.Call A (call.Mkdir (codes "d" ∷ []))) 9
          ∷ reads (line.Call A (call.Create (codes "d" ∷ codes "f1" ∷ []))) 10
          ∷ reads (line.Call A (call.Create (codes "d" ∷ codes "f2" ∷ []))) 10
          ∷ reads (line.Call A (call.Create (codes "d" ∷ codes "f3" ∷ []))) 10
          ∷ reads (line.Call A (call.Create (codes "d" ∷ codes "f4" ∷ []))) 10
          ∷ reads (line.Call A (call.Create (codes "d" ∷ codes "f5" ∷ []))) 10
          ∷ reads (line.Call A (call.Create (codes "d" ∷ codes "f6" ∷ []))) 10
          ∷ reads (line.Call A (call.Create (codes "d" ∷ codes "f7" ∷ []))) 10
          ∷ reads (line.Call A (call.Create (codes "d" ∷ codes "f8" ∷ []))) 10
          ∷ reads (line.Call A (call.Create (codes "d" ∷ codes "f9" ∷ []))) 10
          ∷ reads (line.Call A (call.Create (codes "d" ∷ codes "f10" ∷ []))) 10
          ∷ reads (line.Call A (call.Create (codes "d" ∷ codes "f11" ∷ []))) 10
          ∷ reads (line.Call A (call.Create (codes "d" ∷ codes "f12" ∷ []))) 10
          ∷ reads (line.Call A (call.Create (codes "d" ∷ codes "f13" ∷ []))) 10
          ∷ reads (line.Call A (call.Create (codes "d" ∷ codes "f14" ∷ []))) 10
          ∷ reads (line.Call A (call.Create (codes "d" ∷ codes "f15" ∷ []))) 10
          ∷ reads (line.Call A (call.Create (codes "d" ∷ codes "f16" ∷ []))) 10
          ∷ reads (line.Call A (call.Create (codes "d" ∷ codes "f17" ∷ []))) 10
          ∷ reads (line.Call A (call.Create (codes "d" ∷ codes "f18" ∷ []))) 10
          ∷ reads (line.Call A (call.Create (codes "d" ∷ codes "f19" ∷ []))) 10
          ∷ reads (line.Call A (call.Create (codes "d" ∷ codes "f20" ∷ []))) 10
          ∷ reads (line.Call A (call.Create (codes "d" ∷ codes "f21" ∷ []))) 10
          ∷ reads (line.Call A (call.Create (codes "d" ∷ codes "f22" ∷ []))) 10
          ∷ reads (line.Call A (call.Create (codes "d" ∷ codes "f23" ∷ []))) 10
          ∷ reads (line.Call A (call.Create (codes "d" ∷ codes "f24" ∷ []))) 10
          ∷ reads (line.Call A (call.Create (codes "d" ∷ codes "f25" ∷ []))) 10
          ∷ reads (line.Call A (call.Create (codes "d" ∷ codes "f26" ∷ []))) 10
          ∷ reads (line.Call A (call.Create (codes "d" ∷ codes "f27" ∷ []))) 10
          ∷ reads (line.Call A (call.Create (codes "d" ∷ codes "f28" ∷ []))) 10
          ∷ reads (line.Call A (call.Create (codes "d" ∷ codes "f29" ∷ []))) 10
          ∷ reads (line.Call A (call.Create (codes "d" ∷ codes "f30" ∷ []))) 10
          ∷ reads (line.Call A (call.Create (codes "d" ∷ codes "f31" ∷ []))) 10
          ∷ reads (line.Call A (call.Create (codes "d" ∷ codes "f32" ∷ []))) 10
          ∷ reads (line.Call A (call.Create (codes "d" ∷ codes "f33" ∷ []))) 10
          ∷ reads (line.Call A (call.Create (codes "d" ∷ codes "f34" ∷ []))) 10
          ∷ reads (line.Call A (call.Create (codes "d" ∷ codes "f35" ∷ []))) 10
          ∷ reads (line.Call A (call.Create (codes "d" ∷ codes "f36" ∷ []))) 10
          ∷ reads (line.Call A (call.Create (codes "d" ∷ codes "f37" ∷ []))) 10
          ∷ reads (line.Call A (call.Create (codes "d" ∷ codes "f38" ∷ []))) 10
          ∷ reads (line.Call A (call.Create (codes "d" ∷ codes "f39" ∷ []))) 10
          ∷ reads (line.Call A (call.Create (codes "d" ∷ codes "f40" ∷ []))) 10
          ∷ reads (line.Call A (call.Create (codes "d" ∷ codes "f41" ∷ []))) 10
          ∷ reads (line.Call A (call.Create (codes "d" ∷ codes "f42" ∷ []))) 10
          ∷ reads (line.Call A (call.Create (codes "d" ∷ codes "f43" ∷ []))) 10
          ∷ reads (line.Call A (call.Create (codes "d" ∷ codes "f44" ∷ []))) 10
          ∷ reads (line.Call A (call.Create (codes "d" ∷ codes "f45" ∷ []))) 10
          ∷ reads (line.Call A (call.Create (codes "d" ∷ codes "f46" ∷ []))) 10
          ∷ reads (line.Call A (call.Create (codes "d" ∷ codes "f47" ∷ []))) 10
          ∷ reads (line.Call A (call.Create (codes "d" ∷ codes "f48" ∷ []))) 10
          ∷ reads (line.Call A (call.Create (codes "d" ∷ codes "f49" ∷ []))) 10
          ∷ reads (line.Call A (call.Create (codes "d" ∷ codes "f50" ∷ []))) 10
          ∷ reads (line.Call A (call.Create (codes "d" ∷ codes "f51" ∷ []))) 10
          ∷ reads (line.Call A (call.Create (codes "d" ∷ codes "f52" ∷ []))) 10
          ∷ reads (line.Call A (call.Create (codes "d" ∷ codes "f53" ∷ []))) 10
          ∷ reads (line.Call A (call.Create (codes "d" ∷ codes "f54" ∷ []))) 10
          ∷ reads (line.Call A (call.Create (codes "d" ∷ codes "f55" ∷ []))) 10
          ∷ reads (line.Call A (call.Create (codes "d" ∷ codes "f56" ∷ []))) 10
          ∷ reads (line.Call A (call.Create (codes "d" ∷ codes "f57" ∷ []))) 10
          ∷ reads (line.Call A (call.Create (codes "d" ∷ codes "f58" ∷ []))) 10
          ∷ reads (line.Call A (call.Create (codes "d" ∷ codes "f59" ∷ []))) 10
          ∷ reads (line.Call A (call.Create (codes "d" ∷ codes "f60" ∷ []))) 10
          ∷ reads (line.Call A (call.Create (codes "d" ∷ codes "f61" ∷ []))) 10
          ∷ reads (line.Call A (call.Create (codes "d" ∷ codes "f62" ∷ []))) 10
          ∷ reads (line.Call A (call.Create (codes "d" ∷ codes "f63" ∷ []))) 10
          ∷ reads (line.Call A (call.Create (codes "d" ∷ codes "f64" ∷ []))) 10
          ∷ reads (line.Call A (call.Create (codes "d" ∷ codes "f65" ∷ []))) 10
          ∷ reads (line.Call A (call.Create (codes "d" ∷ codes "f66" ∷ []))) 10
          ∷ reads (line.Call A (call.Create (codes "d" ∷ codes "f67" ∷ []))) 10
          ∷ reads (line.Call A (call.Create (codes "d" ∷ codes "f68" ∷ []))) 10
          ∷ reads (line.Call A (call.Create (codes "d" ∷ codes "f69" ∷ []))) 10
          ∷ reads (line.Call A (call.Create (codes "d" ∷ codes "f70" ∷ []))) 10
          ∷ reads (line.Call A (call.Create (codes "d" ∷ codes "f71" ∷ []))) 10
          ∷ reads (line.Call A (call.Create (codes "d" ∷ codes "f72" ∷ []))) 10
          ∷ reads (line.Call A (call.Create (codes "d" ∷ codes "f73" ∷ []))) 10
          ∷ reads (line.Call A (call.Create (codes "d" ∷ codes "f74" ∷ []))) 10
          ∷ reads (line.Call A (call.Create (codes "d" ∷ codes "f75" ∷ []))) 10
          ∷ reads (line.Call A (call.Create (codes "d" ∷ codes "f76" ∷ []))) 10
          ∷ reads (line.Call A (call.Create (codes "d" ∷ codes "f77" ∷ []))) 10
          ∷ reads (line.Call A (call.Create (codes "d" ∷ codes "f78" ∷ []))) 10
          ∷ reads (line.Call A (call.Create (codes "d" ∷ codes "f79" ∷ []))) 10
          ∷ reads (line.Call A (call.Create (codes "d" ∷ codes "f80" ∷ []))) 10
          ∷ reads (line.Call A (call.Create (codes "d" ∷ codes "f81" ∷ []))) 10
          ∷ reads (line.Call A (call.Create (codes "d" ∷ codes "f82" ∷ []))) 10
          ∷ reads (line.Call A (call.Create (codes "d" ∷ codes "f83" ∷ []))) 10
          ∷ reads (line.Call A (call.Create (codes "d" ∷ codes "f84" ∷ []))) 10
          ∷ reads (line.Call A (call.Create (codes "d" ∷ codes "f85" ∷ []))) 10
          ∷ reads (line.Call A (call.Create (codes "d" ∷ codes "f86" ∷ []))) 10
          ∷ reads (line.Call A (call.Create (codes "d" ∷ codes "f87" ∷ []))) 10
          ∷ reads (line.Call A (call.Create (codes "d" ∷ codes "f88" ∷ []))) 10
          ∷ reads (line.Call A (call.Create (codes "d" ∷ codes "f89" ∷ []))) 10
          ∷ reads (line.Call A (call.Create (codes "d" ∷ codes "f90" ∷ []))) 10
          ∷ reads (line.Call A (call.Create (codes "d" ∷ codes "f91" ∷ []))) 10
          ∷ reads (line.Call A (call.Create (codes "d" ∷ codes "f92" ∷ []))) 10
          ∷ reads (line.Call A (call.Create (codes "d" ∷ codes "f93" ∷ []))) 10
          ∷ reads (line.Call A (call.Create (codes "d" ∷ codes "f94" ∷ []))) 10
          ∷ reads (line.Call A (call.Create (codes "d" ∷ codes "f95" ∷ []))) 10
          ∷ reads (line.Call A (call.Create (codes "d" ∷ codes "f96" ∷ []))) 10
          ∷ reads (line.Call A (call.Create (codes "d" ∷ codes "f97" ∷ []))) 10
          ∷ reads (line.Call A (call.Create (codes "d" ∷ codes "f98" ∷ []))) 10
          ∷ reads (line.Call A (call.Create (codes "d" ∷ codes "f99" ∷ []))) 10
          ∷ reads (line.Call A (call.Create (codes "d" ∷ codes "f100" ∷ []))) 10
          ∷ reads (line.Call A (call.Create (codes "d" ∷ codes "f101" ∷ []))) 10
          ∷ reads (line.Call A (call.Create (codes "d" ∷ codes "f102" ∷ []))) 10
          ∷ reads (line.Call A (call.Create (codes "d" ∷ codes "f103" ∷ []))) 10
          ∷ reads (line.Call A (call.Create (codes "d" ∷ codes "f104" ∷ []))) 10
          ∷ reads (line.Call A (call.Create (codes "d" ∷ codes "f105" ∷ []))) 10
          ∷ reads (line.Call A (call.Create (codes "d" ∷ codes "f106" ∷ []))) 10
          ∷ reads (line.Call A (call.Create (codes "d" ∷ codes "f107" ∷ []))) 10
          ∷ reads (line.Call A (call.Create (codes "d" ∷ codes "f108" ∷ []))) 10
          ∷ reads (line.Call A (call.Create (codes "d" ∷ codes "f109" ∷ []))) 10
          ∷ reads (line.Call A (call.Create (codes "d" ∷ codes "f110" ∷ []))) 10
          ∷ reads (line.Call A (call.Create (codes "d" ∷ codes "f111" ∷ []))) 10
          ∷ reads (line.Call A (call.Create (codes "d" ∷ codes "f112" ∷ []))) 10
          ∷ reads (line.Call A (call.Create (codes "d" ∷ codes "f113" ∷ []))) 10
          ∷ reads (line.Call A (call.Create (codes "d" ∷ codes "f114" ∷ []))) 10
          ∷ reads (line.Call A (call.Create (codes "d" ∷ codes "f115" ∷ []))) 10
          ∷ reads (line.Call A (call.Create (codes "d" ∷ codes "f116" ∷ []))) 10
          ∷ reads (line.Call A (call.Create (codes "d" ∷ codes "f117" ∷ []))) 10
          ∷ reads (line.Call A (call.Create (codes "d" ∷ codes "f118" ∷ []))) 10
          ∷ reads (line.Call A (call.Create (codes "d" ∷ codes "f119" ∷ []))) 10
          ∷ reads (line.Call A (call.Create (codes "d" ∷ codes "f120" ∷ []))) 10
          ∷ reads (line.Call A (call.Create (codes "d" ∷ codes "f121" ∷ []))) 10
          ∷ reads (line.Call A (call.Create (codes "d" ∷ codes "f122" ∷ []))) 10
          ∷ reads (line.Call A (call.Create (codes "d" ∷ codes "f123" ∷ []))) 10
          ∷ reads (line.Call A (call.Create (codes "d" ∷ codes "f124" ∷ []))) 10
          ∷ reads (line.Call A (call.Create (codes "d" ∷ codes "f125" ∷ []))) 10
          ∷ reads (line.Call A (call.Create (codes "d" ∷ codes "f126" ∷ []))) 10
          ∷ reads (line.Call A (call.Create (codes "d" ∷ codes "f127" ∷ []))) 10
          ∷ reads (line.Call A (call.Create (codes "d" ∷ codes "f128" ∷ []))) 10
          ∷ reads (line.Call A (call.Create (codes "d" ∷ codes "x" ∷ []))) 10
          ∷ reads (line.Call A (call.Rename (codes "d" ∷ codes "f1" ∷ []) (codes "d" ∷ codes "x" ∷ []))) 16
          ∷ reads (line.Call A (call.Rename (codes "d" ∷ codes "x" ∷ []) (codes "d" ∷ codes "f2" ∷ []))) 15
          ∷ reads (line.Call A (call.Create (codes "d" ∷ codes "y" ∷ []))) 10
          ∷ [];
      fates = [];
      max_objects = 1024;
      shown =
          Waits 1 A (call.Mkdir (codes "d" ∷ []))
          ∷ Answered 1 A (call.Mkdir (codes "d" ∷ [])) (answer.Reply reply.Ok) (Some 1)
          ∷ Answered 2 A (call.Create (codes "d" ∷ codes "f1" ∷ [])) (answer.Reply reply.Ok) (Some 2)
          ∷ Answered 3 A (call.Create (codes "d" ∷ codes "f2" ∷ [])) (answer.Reply reply.Ok) (Some 3)
          ∷ Answered 4 A (call.Create (codes "d" ∷ codes "f3" ∷ [])) (answer.Reply reply.Ok) (Some 4)
          ∷ Answered 5 A (call.Create (codes "d" ∷ codes "f4" ∷ [])) (answer.Reply reply.Ok) (Some 5)
          ∷ Answered 6 A (call.Create (codes "d" ∷ codes "f5" ∷ [])) (answer.Reply reply.Ok) (Some 6)
          ∷ Answered 7 A (call.Create (codes "d" ∷ codes "f6" ∷ [])) (answer.Reply reply.Ok) (Some 7)
          ∷ Answered 8 A (call.Create (codes "d" ∷ codes "f7" ∷ [])) (answer.Reply reply.Ok) (Some 8)
          ∷ Answered 9 A (call.Create (codes "d" ∷ codes "f8" ∷ [])) (answer.Reply reply.Ok) (Some 9)
          ∷ Answered 10 A (call.Create (codes "d" ∷ codes "f9" ∷ [])) (answer.Reply reply.Ok) (Some 10)
          ∷ Answered 11 A (call.Create (codes "d" ∷ codes "f10" ∷ [])) (answer.Reply reply.Ok) (Some 11)
          ∷ Answered 12 A (call.Create (codes "d" ∷ codes "f11" ∷ [])) (answer.Reply reply.Ok) (Some 12)
          ∷ Answered 13 A (call.Create (codes "d" ∷ codes "f12" ∷ [])) (answer.Reply reply.Ok) (Some 13)
          ∷ Answered 14 A (call.Create (codes "d" ∷ codes "f13" ∷ [])) (answer.Reply reply.Ok) (Some 14)
          ∷ Answered 15 A (call.Create (codes "d" ∷ codes "f14" ∷ [])) (answer.Reply reply.Ok) (Some 15)
          ∷ Answered 16 A (call.Create (codes "d" ∷ codes "f15" ∷ [])) (answer.Reply reply.Ok) (Some 16)
          ∷ Waits 17 A (call.Create (codes "d" ∷ codes "f16" ∷ []))
          ∷ Answered 17 A (call.Create (codes "d" ∷ codes "f16" ∷ [])) (answer.Reply reply.Ok) (Some 17)
          ∷ Answered 18 A (call.Create (codes "d" ∷ codes "f17" ∷ [])) (answer.Reply reply.Ok) (Some 18)
          ∷ Answered 19 A (call.Create (codes "d" ∷ codes "f18" ∷ [])) (answer.Reply reply.Ok) (Some 19)
          ∷ Answered 20 A (call.Create (codes "d" ∷ codes "f19" ∷ [])) (answer.Reply reply.Ok) (Some 20)
          ∷ Answered 21 A (call.Create (codes "d" ∷ codes "f20" ∷ [])) (answer.Reply reply.Ok) (Some 21)
          ∷ Answered 22 A (call.Create (codes "d" ∷ codes "f21" ∷ [])) (answer.Reply reply.Ok) (Some 22)
          ∷ Answered 23 A (call.Create (codes "d" ∷ codes "f22" ∷ [])) (answer.Reply reply.Ok) (Some 23)
          ∷ Answered 24 A (call.Create (codes "d" ∷ codes "f23" ∷ [])) (answer.Reply reply.Ok) (Some 24)
          ∷ Answered 25 A (call.Create (codes "d" ∷ codes "f24" ∷ [])) (answer.Reply reply.Ok) (Some 25)
          ∷ Answered 26 A (call.Create (codes "d" ∷ codes "f25" ∷ [])) (answer.Reply reply.Ok) (Some 26)
          ∷ Answered 27 A (call.Create (codes "d" ∷ codes "f26" ∷ [])) (answer.Reply reply.Ok) (Some 27)
          ∷ Answered 28 A (call.Create (codes "d" ∷ codes "f27" ∷ [])) (answer.Reply reply.Ok) (Some 28)
          ∷ Answered 29 A (call.Create (codes "d" ∷ codes "f28" ∷ [])) (answer.Reply reply.Ok) (Some 29)
          ∷ Answered 30 A (call.Create (codes "d" ∷ codes "f29" ∷ [])) (answer.Reply reply.Ok) (Some 30)
          ∷ Answered 31 A (call.Create (codes "d" ∷ codes "f30" ∷ [])) (answer.Reply reply.Ok) (Some 31)
          ∷ Answered 32 A (call.Create (codes "d" ∷ codes "f31" ∷ [])) (answer.Reply reply.Ok) (Some 32)
          ∷ Waits 33 A (call.Create (codes "d" ∷ codes "f32" ∷ []))
          ∷ Answered 33 A (call.Create (codes "d" ∷ codes "f32" ∷ [])) (answer.Reply reply.Ok) (Some 33)
          ∷ Answered 34 A (call.Create (codes "d" ∷ codes "f33" ∷ [])) (answer.Reply reply.Ok) (Some 34)
          ∷ Answered 35 A (call.Create (codes "d" ∷ codes "f34" ∷ [])) (answer.Reply reply.Ok) (Some 35)
          ∷ Answered 36 A (call.Create (codes "d" ∷ codes "f35" ∷ [])) (answer.Reply reply.Ok) (Some 36)
          ∷ Answered 37 A (call.Create (codes "d" ∷ codes "f36" ∷ [])) (answer.Reply reply.Ok) (Some 37)
          ∷ Answered 38 A (call.Create (codes "d" ∷ codes "f37" ∷ [])) (answer.Reply reply.Ok) (Some 38)
          ∷ Answered 39 A (call.Create (codes "d" ∷ codes "f38" ∷ [])) (answer.Reply reply.Ok) (Some 39)
          ∷ Answered 40 A (call.Create (codes "d" ∷ codes "f39" ∷ [])) (answer.Reply reply.Ok) (Some 40)
          ∷ Answered 41 A (call.Create (codes "d" ∷ codes "f40" ∷ [])) (answer.Reply reply.Ok) (Some 41)
          ∷ Answered 42 A (call.Create (codes "d" ∷ codes "f41" ∷ [])) (answer.Reply reply.Ok) (Some 42)
          ∷ Answered 43 A (call.Create (codes "d" ∷ codes "f42" ∷ [])) (answer.Reply reply.Ok) (Some 43)
          ∷ Answered 44 A (call.Create (codes "d" ∷ codes "f43" ∷ [])) (answer.Reply reply.Ok) (Some 44)
          ∷ Answered 45 A (call.Create (codes "d" ∷ codes "f44" ∷ [])) (answer.Reply reply.Ok) (Some 45)
          ∷ Answered 46 A (call.Create (codes "d" ∷ codes "f45" ∷ [])) (answer.Reply reply.Ok) (Some 46)
          ∷ Answered 47 A (call.Create (codes "d" ∷ codes "f46" ∷ [])) (answer.Reply reply.Ok) (Some 47)
          ∷ Answered 48 A (call.Create (codes "d" ∷ codes "f47" ∷ [])) (answer.Reply reply.Ok) (Some 48)
          ∷ Waits 49 A (call.Create (codes "d" ∷ codes "f48" ∷ []))
          ∷ Answered 49 A (call.Create (codes "d" ∷ codes "f48" ∷ [])) (answer.Reply reply.Ok) (Some 49)
          ∷ Answered 50 A (call.Create (codes "d" ∷ codes "f49" ∷ [])) (answer.Reply reply.Ok) (Some 50)
          ∷ Answered 51 A (call.Create (codes "d" ∷ codes "f50" ∷ [])) (answer.Reply reply.Ok) (Some 51)
          ∷ Answered 52 A (call.Create (codes "d" ∷ codes "f51" ∷ [])) (answer.Reply reply.Ok) (Some 52)
          ∷ Answered 53 A (call.Create (codes "d" ∷ codes "f52" ∷ [])) (answer.Reply reply.Ok) (Some 53)
          ∷ Answered 54 A (call.Create (codes "d" ∷ codes "f53" ∷ [])) (answer.Reply reply.Ok) (Some 54)
          ∷ Answered 55 A (call.Create (codes "d" ∷ codes "f54" ∷ [])) (answer.Reply reply.Ok) (Some 55)
          ∷ Answered 56 A (call.Create (codes "d" ∷ codes "f55" ∷ [])) (answer.Reply reply.Ok) (Some 56)
          ∷ Answered 57 A (call.Create (codes "d" ∷ codes "f56" ∷ [])) (answer.Reply reply.Ok) (Some 57)
          ∷ Answered 58 A (call.Create (codes "d" ∷ codes "f57" ∷ [])) (answer.Reply reply.Ok) (Some 58)
          ∷ Answered 59 A (call.Create (codes "d" ∷ codes "f58" ∷ [])) (answer.Reply reply.Ok) (Some 59)
          ∷ Answered 60 A (call.Create (codes "d" ∷ codes "f59" ∷ [])) (answer.Reply reply.Ok) (Some 60)
          ∷ Answered 61 A (call.Create (codes "d" ∷ codes "f60" ∷ [])) (answer.Reply reply.Ok) (Some 61)
          ∷ Answered 62 A (call.Create (codes "d" ∷ codes "f61" ∷ [])) (answer.Reply reply.Ok) (Some 62)
          ∷ Answered 63 A (call.Create (codes "d" ∷ codes "f62" ∷ [])) (answer.Reply reply.Ok) (Some 63)
          ∷ Answered 64 A (call.Create (codes "d" ∷ codes "f63" ∷ [])) (answer.Reply reply.Ok) (Some 64)
          ∷ Waits 65 A (call.Create (codes "d" ∷ codes "f64" ∷ []))
          ∷ Answered 65 A (call.Create (codes "d" ∷ codes "f64" ∷ [])) (answer.Reply reply.Ok) (Some 65)
          ∷ Answered 66 A (call.Create (codes "d" ∷ codes "f65" ∷ [])) (answer.Reply reply.Ok) (Some 66)
          ∷ Answered 67 A (call.Create (codes "d" ∷ codes "f66" ∷ [])) (answer.Reply reply.Ok) (Some 67)
          ∷ Answered 68 A (call.Create (codes "d" ∷ codes "f67" ∷ [])) (answer.Reply reply.Ok) (Some 68)
          ∷ Answered 69 A (call.Create (codes "d" ∷ codes "f68" ∷ [])) (answer.Reply reply.Ok) (Some 69)
          ∷ Answered 70 A (call.Create (codes "d" ∷ codes "f69" ∷ [])) (answer.Reply reply.Ok) (Some 70)
          ∷ Answered 71 A (call.Create (codes "d" ∷ codes "f70" ∷ [])) (answer.Reply reply.Ok) (Some 71)
          ∷ Answered 72 A (call.Create (codes "d" ∷ codes "f71" ∷ [])) (answer.Reply reply.Ok) (Some 72)
          ∷ Answered 73 A (call.Create (codes "d" ∷ codes "f72" ∷ [])) (answer.Reply reply.Ok) (Some 73)
          ∷ Answered 74 A (call.Create (codes "d" ∷ codes "f73" ∷ [])) (answer.Reply reply.Ok) (Some 74)
          ∷ Answered 75 A (call.Create (codes "d" ∷ codes "f74" ∷ [])) (answer.Reply reply.Ok) (Some 75)
          ∷ Answered 76 A (call.Create (codes "d" ∷ codes "f75" ∷ [])) (answer.Reply reply.Ok) (Some 76)
          ∷ Answered 77 A (call.Create (codes "d" ∷ codes "f76" ∷ [])) (answer.Reply reply.Ok) (Some 77)
          ∷ Answered 78 A (call.Create (codes "d" ∷ codes "f77" ∷ [])) (answer.Reply reply.Ok) (Some 78)
          ∷ Answered 79 A (call.Create (codes "d" ∷ codes "f78" ∷ [])) (answer.Reply reply.Ok) (Some 79)
          ∷ Answered 80 A (call.Create (codes "d" ∷ codes "f79" ∷ [])) (answer.Reply reply.Ok) (Some 80)
          ∷ Waits 81 A (call.Create (codes "d" ∷ codes "f80" ∷ []))
          ∷ Answered 81 A (call.Create (codes "d" ∷ codes "f80" ∷ [])) (answer.Reply reply.Ok) (Some 81)
          ∷ Answered 82 A (call.Create (codes "d" ∷ codes "f81" ∷ [])) (answer.Reply reply.Ok) (Some 82)
          ∷ Answered 83 A (call.Create (codes "d" ∷ codes "f82" ∷ [])) (answer.Reply reply.Ok) (Some 83)
          ∷ Answered 84 A (call.Create (codes "d" ∷ codes "f83" ∷ [])) (answer.Reply reply.Ok) (Some 84)
          ∷ Answered 85 A (call.Create (codes "d" ∷ codes "f84" ∷ [])) (answer.Reply reply.Ok) (Some 85)
          ∷ Answered 86 A (call.Create (codes "d" ∷ codes "f85" ∷ [])) (answer.Reply reply.Ok) (Some 86)
          ∷ Answered 87 A (call.Create (codes "d" ∷ codes "f86" ∷ [])) (answer.Reply reply.Ok) (Some 87)
          ∷ Answered 88 A (call.Create (codes "d" ∷ codes "f87" ∷ [])) (answer.Reply reply.Ok) (Some 88)
          ∷ Answered 89 A (call.Create (codes "d" ∷ codes "f88" ∷ [])) (answer.Reply reply.Ok) (Some 89)
          ∷ Answered 90 A (call.Create (codes "d" ∷ codes "f89" ∷ [])) (answer.Reply reply.Ok) (Some 90)
          ∷ Answered 91 A (call.Create (codes "d" ∷ codes "f90" ∷ [])) (answer.Reply reply.Ok) (Some 91)
          ∷ Answered 92 A (call.Create (codes "d" ∷ codes "f91" ∷ [])) (answer.Reply reply.Ok) (Some 92)
          ∷ Answered 93 A (call.Create (codes "d" ∷ codes "f92" ∷ [])) (answer.Reply reply.Ok) (Some 93)
          ∷ Answered 94 A (call.Create (codes "d" ∷ codes "f93" ∷ [])) (answer.Reply reply.Ok) (Some 94)
          ∷ Answered 95 A (call.Create (codes "d" ∷ codes "f94" ∷ [])) (answer.Reply reply.Ok) (Some 95)
          ∷ Answered 96 A (call.Create (codes "d" ∷ codes "f95" ∷ [])) (answer.Reply reply.Ok) (Some 96)
          ∷ Waits 97 A (call.Create (codes "d" ∷ codes "f96" ∷ []))
          ∷ Answered 97 A (call.Create (codes "d" ∷ codes "f96" ∷ [])) (answer.Reply reply.Ok) (Some 97)
          ∷ Answered 98 A (call.Create (codes "d" ∷ codes "f97" ∷ [])) (answer.Reply reply.Ok) (Some 98)
          ∷ Answered 99 A (call.Create (codes "d" ∷ codes "f98" ∷ [])) (answer.Reply reply.Ok) (Some 99)
          ∷ Answered 100 A (call.Create (codes "d" ∷ codes "f99" ∷ [])) (answer.Reply reply.Ok) (Some 100)
          ∷ Answered 101 A (call.Create (codes "d" ∷ codes "f100" ∷ [])) (answer.Reply reply.Ok) (Some 101)
          ∷ Answered 102 A (call.Create (codes "d" ∷ codes "f101" ∷ [])) (answer.Reply reply.Ok) (Some 102)
          ∷ Answered 103 A (call.Create (codes "d" ∷ codes "f102" ∷ [])) (answer.Reply reply.Ok) (Some 103)
          ∷ Answered 104 A (call.Create (codes "d" ∷ codes "f103" ∷ [])) (answer.Reply reply.Ok) (Some 104)
          ∷ Answered 105 A (call.Create (codes "d" ∷ codes "f104" ∷ [])) (answer.Reply reply.Ok) (Some 105)
          ∷ Answered 106 A (call.Create (codes "d" ∷ codes "f105" ∷ [])) (answer.Reply reply.Ok) (Some 106)
          ∷ Answered 107 A (call.Create (codes "d" ∷ codes "f106" ∷ [])) (answer.Reply reply.Ok) (Some 107)
          ∷ Answered 108 A (call.Create (codes "d" ∷ codes "f107" ∷ [])) (answer.Reply reply.Ok) (Some 108)
          ∷ Answered 109 A (call.Create (codes "d" ∷ codes "f108" ∷ [])) (answer.Reply reply.Ok) (Some 109)
          ∷ Answered 110 A (call.Create (codes "d" ∷ codes "f109" ∷ [])) (answer.Reply reply.Ok) (Some 110)
          ∷ Answered 111 A (call.Create (codes "d" ∷ codes "f110" ∷ [])) (answer.Reply reply.Ok) (Some 111)
          ∷ Answered 112 A (call.Create (codes "d" ∷ codes "f111" ∷ [])) (answer.Reply reply.Ok) (Some 112)
          ∷ Waits 113 A (call.Create (codes "d" ∷ codes "f112" ∷ []))
          ∷ Answered 113 A (call.Create (codes "d" ∷ codes "f112" ∷ [])) (answer.Reply reply.Ok) (Some 113)
          ∷ Answered 114 A (call.Create (codes "d" ∷ codes "f113" ∷ [])) (answer.Reply reply.Ok) (Some 114)
          ∷ Answered 115 A (call.Create (codes "d" ∷ codes "f114" ∷ [])) (answer.Reply reply.Ok) (Some 115)
          ∷ Answered 116 A (call.Create (codes "d" ∷ codes "f115" ∷ [])) (answer.Reply reply.Ok) (Some 116)
          ∷ Answered 117 A (call.Create (codes "d" ∷ codes "f116" ∷ [])) (answer.Reply reply.Ok) (Some 117)
          ∷ Answered 118 A (call.Create (codes "d" ∷ codes "f117" ∷ [])) (answer.Reply reply.Ok) (Some 118)
          ∷ Answered 119 A (call.Create (codes "d" ∷ codes "f118" ∷ [])) (answer.Reply reply.Ok) (Some 119)
          ∷ Answered 120 A (call.Create (codes "d" ∷ codes "f119" ∷ [])) (answer.Reply reply.Ok) (Some 120)
          ∷ Answered 121 A (call.Create (codes "d" ∷ codes "f120" ∷ [])) (answer.Reply reply.Ok) (Some 121)
          ∷ Answered 122 A (call.Create (codes "d" ∷ codes "f121" ∷ [])) (answer.Reply reply.Ok) (Some 122)
          ∷ Answered 123 A (call.Create (codes "d" ∷ codes "f122" ∷ [])) (answer.Reply reply.Ok) (Some 123)
          ∷ Answered 124 A (call.Create (codes "d" ∷ codes "f123" ∷ [])) (answer.Reply reply.Ok) (Some 124)
          ∷ Answered 125 A (call.Create (codes "d" ∷ codes "f124" ∷ [])) (answer.Reply reply.Ok) (Some 125)
          ∷ Answered 126 A (call.Create (codes "d" ∷ codes "f125" ∷ [])) (answer.Reply reply.Ok) (Some 126)
          ∷ Answered 127 A (call.Create (codes "d" ∷ codes "f126" ∷ [])) (answer.Reply reply.Ok) (Some 127)
          ∷ Answered 128 A (call.Create (codes "d" ∷ codes "f127" ∷ [])) (answer.Reply reply.Ok) (Some 128)
          ∷ Waits 129 A (call.Create (codes "d" ∷ codes "f128" ∷ []))
          ∷ Answered 129 A (call.Create (codes "d" ∷ codes "f128" ∷ [])) (answer.Reply reply.Ok) (Some 129)
          ∷ Answered 130 A (call.Create (codes "d" ∷ codes "x" ∷ [])) (answer.Reply (reply.Refused no.DirFull)) None
          ∷ Answered 131 A (call.Rename (codes "d" ∷ codes "f1" ∷ []) (codes "d" ∷ codes "x" ∷ [])) (answer.Reply reply.Ok) (Some 130)
          ∷ Answered 132 A (call.Rename (codes "d" ∷ codes "x" ∷ []) (codes "d" ∷ codes "f2" ∷ [])) (answer.Reply reply.Ok) (Some 131)
          ∷ Answered 133 A (call.Create (codes "d" ∷ codes "y" ∷ [])) (answer.Reply reply.Ok) (Some 132)
          ∷ [];
      status = 0;
    }

-- forty files are made, written and renamed, and another clerk lists them
abbrev pub renamed_files : Run
renamed_files =
    record {
      lines =
          reads (line.Call A (call.Mkdir (codes "src" ∷ []))) 9
          ∷ reads (line.Call A (call.Create (codes "src" ∷ codes "t" ∷ []))) 10
          ∷ reads (line.Call A (call.Write (codes "src" ∷ codes "t" ∷ []) 0 (codes "v1"))) 18
          ∷ reads (line.Call A (call.Rename (codes "src" ∷ codes "t" ∷ []) (codes "src" ∷ codes "f1" ∷ []))) 17
          ∷ reads (line.Call A (call.Create (codes "src" ∷ codes "t" ∷ []))) 10
          ∷ reads (line.Call A (call.Write (codes "src" ∷ codes "t" ∷ []) 0 (codes "v2"))) 18
          ∷ reads (line.Call A (call.Rename (codes "src" ∷ codes "t" ∷ []) (codes "src" ∷ codes "f2" ∷ []))) 17
          ∷ reads (line.Call A (call.Create (codes "src" ∷ codes "t" ∷ []))) 10
          ∷ reads (line.Call A (call.Write (codes "src" ∷ codes "t" ∷ []) 0 (codes "v3"))) 18
          ∷ reads (line.Call A (call.Rename (codes "src" ∷ codes "t" ∷ []) (codes "src" ∷ codes "f3" ∷ []))) 17
          ∷ reads (line.Call A (call.Create (codes "src" ∷ codes "t" ∷ []))) 10
          ∷ reads (line.Call A (call.Write (codes "src" ∷ codes "t" ∷ []) 0 (codes "v4"))) 18
          ∷ reads (line.Call A (call.Rename (codes "src" ∷ codes "t" ∷ []) (codes "src" ∷ codes "f4" ∷ []))) 17
          ∷ reads (line.Call A (call.Create (codes "src" ∷ codes "t" ∷ []))) 10
          ∷ reads (line.Call A (call.Write (codes "src" ∷ codes "t" ∷ []) 0 (codes "v5"))) 18
          ∷ reads (line.Call A (call.Rename (codes "src" ∷ codes "t" ∷ []) (codes "src" ∷ codes "f5" ∷ []))) 17
          ∷ reads (line.Call A (call.Create (codes "src" ∷ codes "t" ∷ []))) 10
          ∷ reads (line.Call A (call.Write (codes "src" ∷ codes "t" ∷ []) 0 (codes "v6"))) 18
          ∷ reads (line.Call A (call.Rename (codes "src" ∷ codes "t" ∷ []) (codes "src" ∷ codes "f6" ∷ []))) 17
          ∷ reads (line.Call A (call.Create (codes "src" ∷ codes "t" ∷ []))) 10
          ∷ reads (line.Call A (call.Write (codes "src" ∷ codes "t" ∷ []) 0 (codes "v7"))) 18
          ∷ reads (line.Call A (call.Rename (codes "src" ∷ codes "t" ∷ []) (codes "src" ∷ codes "f7" ∷ []))) 17
          ∷ reads (line.Call A (call.Create (codes "src" ∷ codes "t" ∷ []))) 10
          ∷ reads (line.Call A (call.Write (codes "src" ∷ codes "t" ∷ []) 0 (codes "v8"))) 18
          ∷ reads (line.Call A (call.Rename (codes "src" ∷ codes "t" ∷ []) (codes "src" ∷ codes "f8" ∷ []))) 17
          ∷ reads (line.Call A (call.Create (codes "src" ∷ codes "t" ∷ []))) 10
          ∷ reads (line.Call A (call.Write (codes "src" ∷ codes "t" ∷ []) 0 (codes "v9"))) 18
          ∷ reads (line.Call A (call.Rename (codes "src" ∷ codes "t" ∷ []) (codes "src" ∷ codes "f9" ∷ []))) 17
          ∷ reads (line.Call A (call.Create (codes "src" ∷ codes "t" ∷ []))) 10
          ∷ reads (line.Call A (call.Write (codes "src" ∷ codes "t" ∷ []) 0 (codes "v10"))) 18
          ∷ reads (line.Call A (call.Rename (codes "src" ∷ codes "t" ∷ []) (codes "src" ∷ codes "f10" ∷ []))) 17
          ∷ reads (line.Call A (call.Create (codes "src" ∷ codes "t" ∷ []))) 10
          ∷ reads (line.Call A (call.Write (codes "src" ∷ codes "t" ∷ []) 0 (codes "v11"))) 18
          ∷ reads (line.Call A (call.Rename (codes "src" ∷ codes "t" ∷ []) (codes "src" ∷ codes "f11" ∷ []))) 17
          ∷ reads (line.Call A (call.Create (codes "src" ∷ codes "t" ∷ []))) 10
          ∷ reads (line.Call A (call.Write (codes "src" ∷ codes "t" ∷ []) 0 (codes "v12"))) 18
          ∷ reads (line.Call A (call.Rename (codes "src" ∷ codes "t" ∷ []) (codes "src" ∷ codes "f12" ∷ []))) 17
          ∷ reads (line.Call A (call.Create (codes "src" ∷ codes "t" ∷ []))) 10
          ∷ reads (line.Call A (call.Write (codes "src" ∷ codes "t" ∷ []) 0 (codes "v13"))) 18
          ∷ reads (line.Call A (call.Rename (codes "src" ∷ codes "t" ∷ []) (codes "src" ∷ codes "f13" ∷ []))) 17
          ∷ reads (line.Call A (call.Create (codes "src" ∷ codes "t" ∷ []))) 10
          ∷ reads (line.Call A (call.Write (codes "src" ∷ codes "t" ∷ []) 0 (codes "v14"))) 18
          ∷ reads (line.Call A (call.Rename (codes "src" ∷ codes "t" ∷ []) (codes "src" ∷ codes "f14" ∷ []))) 17
          ∷ reads (line.Call A (call.Create (codes "src" ∷ codes "t" ∷ []))) 10
          ∷ reads (line.Call A (call.Write (codes "src" ∷ codes "t" ∷ []) 0 (codes "v15"))) 18
          ∷ reads (line.Call A (call.Rename (codes "src" ∷ codes "t" ∷ []) (codes "src" ∷ codes "f15" ∷ []))) 17
          ∷ reads (line.Call A (call.Create (codes "src" ∷ codes "t" ∷ []))) 10
          ∷ reads (line.Call A (call.Write (codes "src" ∷ codes "t" ∷ []) 0 (codes "v16"))) 18
          ∷ reads (line.Call A (call.Rename (codes "src" ∷ codes "t" ∷ []) (codes "src" ∷ codes "f16" ∷ []))) 17
          ∷ reads (line.Call A (call.Create (codes "src" ∷ codes "t" ∷ []))) 10
          ∷ reads (line.Call A (call.Write (codes "src" ∷ codes "t" ∷ []) 0 (codes "v17"))) 18
          ∷ reads (line.Call A (call.Rename (codes "src" ∷ codes "t" ∷ []) (codes "src" ∷ codes "f17" ∷ []))) 17
          ∷ reads (line.Call A (call.Create (codes "src" ∷ codes "t" ∷ []))) 10
          ∷ reads (line.Call A (call.Write (codes "src" ∷ codes "t" ∷ []) 0 (codes "v18"))) 18
          ∷ reads (line.Call A (call.Rename (codes "src" ∷ codes "t" ∷ []) (codes "src" ∷ codes "f18" ∷ []))) 17
          ∷ reads (line.Call A (call.Create (codes "src" ∷ codes "t" ∷ []))) 10
          ∷ reads (line.Call A (call.Write (codes "src" ∷ codes "t" ∷ []) 0 (codes "v19"))) 18
          ∷ reads (line.Call A (call.Rename (codes "src" ∷ codes "t" ∷ []) (codes "src" ∷ codes "f19" ∷ []))) 17
          ∷ reads (line.Call A (call.Create (codes "src" ∷ codes "t" ∷ []))) 10
          ∷ reads (line.Call A (call.Write (codes "src" ∷ codes "t" ∷ []) 0 (codes "v20"))) 18
          ∷ reads (line.Call A (call.Rename (codes "src" ∷ codes "t" ∷ []) (codes "src" ∷ codes "f20" ∷ []))) 17
          ∷ reads (line.Call A (call.Create (codes "src" ∷ codes "t" ∷ []))) 10
          ∷ reads (line.Call A (call.Write (codes "src" ∷ codes "t" ∷ []) 0 (codes "v21"))) 18
          ∷ reads (line.Call A (call.Rename (codes "src" ∷ codes "t" ∷ []) (codes "src" ∷ codes "f21" ∷ []))) 17
          ∷ reads (line.Call A (call.Create (codes "src" ∷ codes "t" ∷ []))) 10
          ∷ reads (line.Call A (call.Write (codes "src" ∷ codes "t" ∷ []) 0 (codes "v22"))) 18
          ∷ reads (line.Call A (call.Rename (codes "src" ∷ codes "t" ∷ []) (codes "src" ∷ codes "f22" ∷ []))) 17
          ∷ reads (line.Call A (call.Create (codes "src" ∷ codes "t" ∷ []))) 10
          ∷ reads (line.Call A (call.Write (codes "src" ∷ codes "t" ∷ []) 0 (codes "v23"))) 18
          ∷ reads (line.Call A (call.Rename (codes "src" ∷ codes "t" ∷ []) (codes "src" ∷ codes "f23" ∷ []))) 17
          ∷ reads (line.Call A (call.Create (codes "src" ∷ codes "t" ∷ []))) 10
          ∷ reads (line.Call A (call.Write (codes "src" ∷ codes "t" ∷ []) 0 (codes "v24"))) 18
          ∷ reads (line.Call A (call.Rename (codes "src" ∷ codes "t" ∷ []) (codes "src" ∷ codes "f24" ∷ []))) 17
          ∷ reads (line.Call A (call.Create (codes "src" ∷ codes "t" ∷ []))) 10
          ∷ reads (line.Call A (call.Write (codes "src" ∷ codes "t" ∷ []) 0 (codes "v25"))) 18
          ∷ reads (line.Call A (call.Rename (codes "src" ∷ codes "t" ∷ []) (codes "src" ∷ codes "f25" ∷ []))) 17
          ∷ reads (line.Call A (call.Create (codes "src" ∷ codes "t" ∷ []))) 10
          ∷ reads (line.Call A (call.Write (codes "src" ∷ codes "t" ∷ []) 0 (codes "v26"))) 18
          ∷ reads (line.Call A (call.Rename (codes "src" ∷ codes "t" ∷ []) (codes "src" ∷ codes "f26" ∷ []))) 17
          ∷ reads (line.Call A (call.Create (codes "src" ∷ codes "t" ∷ []))) 10
          ∷ reads (line.Call A (call.Write (codes "src" ∷ codes "t" ∷ []) 0 (codes "v27"))) 18
          ∷ reads (line.Call A (call.Rename (codes "src" ∷ codes "t" ∷ []) (codes "src" ∷ codes "f27" ∷ []))) 17
          ∷ reads (line.Call A (call.Create (codes "src" ∷ codes "t" ∷ []))) 10
          ∷ reads (line.Call A (call.Write (codes "src" ∷ codes "t" ∷ []) 0 (codes "v28"))) 18
          ∷ reads (line.Call A (call.Rename (codes "src" ∷ codes "t" ∷ []) (codes "src" ∷ codes "f28" ∷ []))) 17
          ∷ reads (line.Call A (call.Create (codes "src" ∷ codes "t" ∷ []))) 10
          ∷ reads (line.Call A (call.Write (codes "src" ∷ codes "t" ∷ []) 0 (codes "v29"))) 18
          ∷ reads (line.Call A (call.Rename (codes "src" ∷ codes "t" ∷ []) (codes "src" ∷ codes "f29" ∷ []))) 17
          ∷ reads (line.Call A (call.Create (codes "src" ∷ codes "t" ∷ []))) 10
          ∷ reads (line.Call A (call.Write (codes "src" ∷ codes "t" ∷ []) 0 (codes "v30"))) 18
          ∷ reads (line.Call A (call.Rename (codes "src" ∷ codes "t" ∷ []) (codes "src" ∷ codes "f30" ∷ []))) 17
          ∷ reads (line.Call A (call.Create (codes "src" ∷ codes "t" ∷ []))) 10
          ∷ reads (line.Call A (call.Write (codes "src" ∷ codes "t" ∷ []) 0 (codes "v31"))) 18
          ∷ reads (line.Call A (call.Rename (codes "src" ∷ codes "t" ∷ []) (codes "src" ∷ codes "f31" ∷ []))) 17
          ∷ reads (line.Call A (call.Create (codes "src" ∷ codes "t" ∷ []))) 10
          ∷ reads (line.Call A (call.Write (codes "src" ∷ codes "t" ∷ []) 0 (codes "v32"))) 18
          ∷ reads (line.Call A (call.Rename (codes "src" ∷ codes "t" ∷ []) (codes "src" ∷ codes "f32" ∷ []))) 17
          ∷ reads (line.Call A (call.Create (codes "src" ∷ codes "t" ∷ []))) 10
          ∷ reads (line.Call A (call.Write (codes "src" ∷ codes "t" ∷ []) 0 (codes "v33"))) 18
          ∷ reads (line.Call A (call.Rename (codes "src" ∷ codes "t" ∷ []) (codes "src" ∷ codes "f33" ∷ []))) 17
          ∷ reads (line.Call A (call.Create (codes "src" ∷ codes "t" ∷ []))) 10
          ∷ reads (line.Call A (call.Write (codes "src" ∷ codes "t" ∷ []) 0 (codes "v34"))) 18
          ∷ reads (line.Call A (call.Rename (codes "src" ∷ codes "t" ∷ []) (codes "src" ∷ codes "f34" ∷ []))) 17
          ∷ reads (line.Call A (call.Create (codes "src" ∷ codes "t" ∷ []))) 10
          ∷ reads (line.Call A (call.Write (codes "src" ∷ codes "t" ∷ []) 0 (codes "v35"))) 18
          ∷ reads (line.Call A (call.Rename (codes "src" ∷ codes "t" ∷ []) (codes "src" ∷ codes "f35" ∷ []))) 17
          ∷ reads (line.Call A (call.Create (codes "src" ∷ codes "t" ∷ []))) 10
          ∷ reads (line.Call A (call.Write (codes "src" ∷ codes "t" ∷ []) 0 (codes "v36"))) 18
          ∷ reads (line.Call A (call.Rename (codes "src" ∷ codes "t" ∷ []) (codes "src" ∷ codes "f36" ∷ []))) 17
          ∷ reads (line.Call A (call.Create (codes "src" ∷ codes "t" ∷ []))) 10
          ∷ reads (line.Call A (call.Write (codes "src" ∷ codes "t" ∷ []) 0 (codes "v37"))) 18
          ∷ reads (line.Call A (call.Rename (codes "src" ∷ codes "t" ∷ []) (codes "src" ∷ codes "f37" ∷ []))) 17
          ∷ reads (line.Call A (call.Create (codes "src" ∷ codes "t" ∷ []))) 10
          ∷ reads (line.Call A (call.Write (codes "src" ∷ codes "t" ∷ []) 0 (codes "v38"))) 18
          ∷ reads (line.Call A (call.Rename (codes "src" ∷ codes "t" ∷ []) (codes "src" ∷ codes "f38" ∷ []))) 17
          ∷ reads (line.Call A (call.Create (codes "src" ∷ codes "t" ∷ []))) 10
          ∷ reads (line.Call A (call.Write (codes "src" ∷ codes "t" ∷ []) 0 (codes "v39"))) 18
          ∷ reads (line.Call A (call.Rename (codes "src" ∷ codes "t" ∷ []) (codes "src" ∷ codes "f39" ∷ []))) 17
          ∷ reads (line.Call A (call.Create (codes "src" ∷ codes "t" ∷ []))) 10
          ∷ reads (line.Call A (call.Write (codes "src" ∷ codes "t" ∷ []) 0 (codes "v40"))) 18
          ∷ reads (line.Call A (call.Rename (codes "src" ∷ codes "t" ∷ []) (codes "src" ∷ codes "f40" ∷ []))) 17
          ∷ reads (line.Call B (call.List (codes "src" ∷ []))) 8
          ∷ [];
      fates = [];
      max_objects = 1024;
      shown =
          Waits 1 A (call.Mkdir (codes "src" ∷ []))
          ∷ Answered 1 A (call.Mkdir (codes "src" ∷ [])) (answer.Reply reply.Ok) (Some 1)
          ∷ Answered 2 A (call.Create (codes "src" ∷ codes "t" ∷ [])) (answer.Reply reply.Ok) (Some 2)
          ∷ Answered 3 A (call.Write (codes "src" ∷ codes "t" ∷ []) 0 (codes "v1")) (answer.Reply reply.Ok) (Some 3)
          ∷ Answered 4 A (call.Rename (codes "src" ∷ codes "t" ∷ []) (codes "src" ∷ codes "f1" ∷ [])) (answer.Reply reply.Ok) (Some 4)
          ∷ Answered 5 A (call.Create (codes "src" ∷ codes "t" ∷ [])) (answer.Reply reply.Ok) (Some 5)
          ∷ Answered 6 A (call.Write (codes "src" ∷ codes "t" ∷ []) 0 (codes "v2")) (answer.Reply reply.Ok) (Some 6)
          ∷ Answered 7 A (call.Rename (codes "src" ∷ codes "t" ∷ []) (codes "src" ∷ codes "f2" ∷ [])) (answer.Reply reply.Ok) (Some 7)
          ∷ Answered 8 A (call.Create (codes "src" ∷ codes "t" ∷ [])) (answer.Reply reply.Ok) (Some 8)
          ∷ Answered 9 A (call.Write (codes "src" ∷ codes "t" ∷ []) 0 (codes "v3")) (answer.Reply reply.Ok) (Some 9)
          ∷ Answered 10 A (call.Rename (codes "src" ∷ codes "t" ∷ []) (codes "src" ∷ codes "f3" ∷ [])) (answer.Reply reply.Ok) (Some 10)
          ∷ Answered 11 A (call.Create (codes "src" ∷ codes "t" ∷ [])) (answer.Reply reply.Ok) (Some 11)
          ∷ Answered 12 A (call.Write (codes "src" ∷ codes "t" ∷ []) 0 (codes "v4")) (answer.Reply reply.Ok) (Some 12)
          ∷ Answered 13 A (call.Rename (codes "src" ∷ codes "t" ∷ []) (codes "src" ∷ codes "f4" ∷ [])) (answer.Reply reply.Ok) (Some 13)
          ∷ Answered 14 A (call.Create (codes "src" ∷ codes "t" ∷ [])) (answer.Reply reply.Ok) (Some 14)
          ∷ Answered 15 A (call.Write (codes "src" ∷ codes "t" ∷ []) 0 (codes "v5")) (answer.Reply reply.Ok) (Some 15)
          ∷ Answered 16 A (call.Rename (codes "src" ∷ codes "t" ∷ []) (codes "src" ∷ codes "f5" ∷ [])) (answer.Reply reply.Ok) (Some 16)
          ∷ Answered 17 A (call.Create (codes "src" ∷ codes "t" ∷ [])) (answer.Reply reply.Ok) (Some 17)
          ∷ Answered 18 A (call.Write (codes "src" ∷ codes "t" ∷ []) 0 (codes "v6")) (answer.Reply reply.Ok) (Some 18)
          ∷ Answered 19 A (call.Rename (codes "src" ∷ codes "t" ∷ []) (codes "src" ∷ codes "f6" ∷ [])) (answer.Reply reply.Ok) (Some 19)
          ∷ Answered 20 A (call.Create (codes "src" ∷ codes "t" ∷ [])) (answer.Reply reply.Ok) (Some 20)
          ∷ Answered 21 A (call.Write (codes "src" ∷ codes "t" ∷ []) 0 (codes "v7")) (answer.Reply reply.Ok) (Some 21)
          ∷ Answered 22 A (call.Rename (codes "src" ∷ codes "t" ∷ []) (codes "src" ∷ codes "f7" ∷ [])) (answer.Reply reply.Ok) (Some 22)
          ∷ Answered 23 A (call.Create (codes "src" ∷ codes "t" ∷ [])) (answer.Reply reply.Ok) (Some 23)
          ∷ Answered 24 A (call.Write (codes "src" ∷ codes "t" ∷ []) 0 (codes "v8")) (answer.Reply reply.Ok) (Some 24)
          ∷ Answered 25 A (call.Rename (codes "src" ∷ codes "t" ∷ []) (codes "src" ∷ codes "f8" ∷ [])) (answer.Reply reply.Ok) (Some 25)
          ∷ Answered 26 A (call.Create (codes "src" ∷ codes "t" ∷ [])) (answer.Reply reply.Ok) (Some 26)
          ∷ Answered 27 A (call.Write (codes "src" ∷ codes "t" ∷ []) 0 (codes "v9")) (answer.Reply reply.Ok) (Some 27)
          ∷ Answered 28 A (call.Rename (codes "src" ∷ codes "t" ∷ []) (codes "src" ∷ codes "f9" ∷ [])) (answer.Reply reply.Ok) (Some 28)
          ∷ Answered 29 A (call.Create (codes "src" ∷ codes "t" ∷ [])) (answer.Reply reply.Ok) (Some 29)
          ∷ Answered 30 A (call.Write (codes "src" ∷ codes "t" ∷ []) 0 (codes "v10")) (answer.Reply reply.Ok) (Some 30)
          ∷ Answered 31 A (call.Rename (codes "src" ∷ codes "t" ∷ []) (codes "src" ∷ codes "f10" ∷ [])) (answer.Reply reply.Ok) (Some 31)
          ∷ Answered 32 A (call.Create (codes "src" ∷ codes "t" ∷ [])) (answer.Reply reply.Ok) (Some 32)
          ∷ Answered 33 A (call.Write (codes "src" ∷ codes "t" ∷ []) 0 (codes "v11")) (answer.Reply reply.Ok) (Some 33)
          ∷ Answered 34 A (call.Rename (codes "src" ∷ codes "t" ∷ []) (codes "src" ∷ codes "f11" ∷ [])) (answer.Reply reply.Ok) (Some 34)
          ∷ Answered 35 A (call.Create (codes "src" ∷ codes "t" ∷ [])) (answer.Reply reply.Ok) (Some 35)
          ∷ Answered 36 A (call.Write (codes "src" ∷ codes "t" ∷ []) 0 (codes "v12")) (answer.Reply reply.Ok) (Some 36)
          ∷ Answered 37 A (call.Rename (codes "src" ∷ codes "t" ∷ []) (codes "src" ∷ codes "f12" ∷ [])) (answer.Reply reply.Ok) (Some 37)
          ∷ Answered 38 A (call.Create (codes "src" ∷ codes "t" ∷ [])) (answer.Reply reply.Ok) (Some 38)
          ∷ Answered 39 A (call.Write (codes "src" ∷ codes "t" ∷ []) 0 (codes "v13")) (answer.Reply reply.Ok) (Some 39)
          ∷ Answered 40 A (call.Rename (codes "src" ∷ codes "t" ∷ []) (codes "src" ∷ codes "f13" ∷ [])) (answer.Reply reply.Ok) (Some 40)
          ∷ Answered 41 A (call.Create (codes "src" ∷ codes "t" ∷ [])) (answer.Reply reply.Ok) (Some 41)
          ∷ Answered 42 A (call.Write (codes "src" ∷ codes "t" ∷ []) 0 (codes "v14")) (answer.Reply reply.Ok) (Some 42)
          ∷ Answered 43 A (call.Rename (codes "src" ∷ codes "t" ∷ []) (codes "src" ∷ codes "f14" ∷ [])) (answer.Reply reply.Ok) (Some 43)
          ∷ Answered 44 A (call.Create (codes "src" ∷ codes "t" ∷ [])) (answer.Reply reply.Ok) (Some 44)
          ∷ Answered 45 A (call.Write (codes "src" ∷ codes "t" ∷ []) 0 (codes "v15")) (answer.Reply reply.Ok) (Some 45)
          ∷ Answered 46 A (call.Rename (codes "src" ∷ codes "t" ∷ []) (codes "src" ∷ codes "f15" ∷ [])) (answer.Reply reply.Ok) (Some 46)
          ∷ Waits 47 A (call.Create (codes "src" ∷ codes "t" ∷ []))
          ∷ Answered 47 A (call.Create (codes "src" ∷ codes "t" ∷ [])) (answer.Reply reply.Ok) (Some 47)
          ∷ Answered 48 A (call.Write (codes "src" ∷ codes "t" ∷ []) 0 (codes "v16")) (answer.Reply reply.Ok) (Some 48)
          ∷ Answered 49 A (call.Rename (codes "src" ∷ codes "t" ∷ []) (codes "src" ∷ codes "f16" ∷ [])) (answer.Reply reply.Ok) (Some 49)
          ∷ Answered 50 A (call.Create (codes "src" ∷ codes "t" ∷ [])) (answer.Reply reply.Ok) (Some 50)
          ∷ Answered 51 A (call.Write (codes "src" ∷ codes "t" ∷ []) 0 (codes "v17")) (answer.Reply reply.Ok) (Some 51)
          ∷ Answered 52 A (call.Rename (codes "src" ∷ codes "t" ∷ []) (codes "src" ∷ codes "f17" ∷ [])) (answer.Reply reply.Ok) (Some 52)
          ∷ Answered 53 A (call.Create (codes "src" ∷ codes "t" ∷ [])) (answer.Reply reply.Ok) (Some 53)
          ∷ Answered 54 A (call.Write (codes "src" ∷ codes "t" ∷ []) 0 (codes "v18")) (answer.Reply reply.Ok) (Some 54)
          ∷ Answered 55 A (call.Rename (codes "src" ∷ codes "t" ∷ []) (codes "src" ∷ codes "f18" ∷ [])) (answer.Reply reply.Ok) (Some 55)
          ∷ Answered 56 A (call.Create (codes "src" ∷ codes "t" ∷ [])) (answer.Reply reply.Ok) (Some 56)
          ∷ Answered 57 A (call.Write (codes "src" ∷ codes "t" ∷ []) 0 (codes "v19")) (answer.Reply reply.Ok) (Some 57)
          ∷ Answered 58 A (call.Rename (codes "src" ∷ codes "t" ∷ []) (codes "src" ∷ codes "f19" ∷ [])) (answer.Reply reply.Ok) (Some 58)
          ∷ Answered 59 A (call.Create (codes "src" ∷ codes "t" ∷ [])) (answer.Reply reply.Ok) (Some 59)
          ∷ Answered 60 A (call.Write (codes "src" ∷ codes "t" ∷ []) 0 (codes "v20")) (answer.Reply reply.Ok) (Some 60)
          ∷ Answered 61 A (call.Rename (codes "src" ∷ codes "t" ∷ []) (codes "src" ∷ codes "f20" ∷ [])) (answer.Reply reply.Ok) (Some 61)
          ∷ Answered 62 A (call.Create (codes "src" ∷ codes "t" ∷ [])) (answer.Reply reply.Ok) (Some 62)
          ∷ Answered 63 A (call.Write (codes "src" ∷ codes "t" ∷ []) 0 (codes "v21")) (answer.Reply reply.Ok) (Some 63)
          ∷ Answered 64 A (call.Rename (codes "src" ∷ codes "t" ∷ []) (codes "src" ∷ codes "f21" ∷ [])) (answer.Reply reply.Ok) (Some 64)
          ∷ Answered 65 A (call.Create (codes "src" ∷ codes "t" ∷ [])) (answer.Reply reply.Ok) (Some 65)
          ∷ Answered 66 A (call.Write (codes "src" ∷ codes "t" ∷ []) 0 (codes "v22")) (answer.Reply reply.Ok) (Some 66)
          ∷ Answered 67 A (call.Rename (codes "src" ∷ codes "t" ∷ []) (codes "src" ∷ codes "f22" ∷ [])) (answer.Reply reply.Ok) (Some 67)
          ∷ Answered 68 A (call.Create (codes "src" ∷ codes "t" ∷ [])) (answer.Reply reply.Ok) (Some 68)
          ∷ Answered 69 A (call.Write (codes "src" ∷ codes "t" ∷ []) 0 (codes "v23")) (answer.Reply reply.Ok) (Some 69)
          ∷ Answered 70 A (call.Rename (codes "src" ∷ codes "t" ∷ []) (codes "src" ∷ codes "f23" ∷ [])) (answer.Reply reply.Ok) (Some 70)
          ∷ Answered 71 A (call.Create (codes "src" ∷ codes "t" ∷ [])) (answer.Reply reply.Ok) (Some 71)
          ∷ Answered 72 A (call.Write (codes "src" ∷ codes "t" ∷ []) 0 (codes "v24")) (answer.Reply reply.Ok) (Some 72)
          ∷ Answered 73 A (call.Rename (codes "src" ∷ codes "t" ∷ []) (codes "src" ∷ codes "f24" ∷ [])) (answer.Reply reply.Ok) (Some 73)
          ∷ Answered 74 A (call.Create (codes "src" ∷ codes "t" ∷ [])) (answer.Reply reply.Ok) (Some 74)
          ∷ Answered 75 A (call.Write (codes "src" ∷ codes "t" ∷ []) 0 (codes "v25")) (answer.Reply reply.Ok) (Some 75)
          ∷ Answered 76 A (call.Rename (codes "src" ∷ codes "t" ∷ []) (codes "src" ∷ codes "f25" ∷ [])) (answer.Reply reply.Ok) (Some 76)
          ∷ Answered 77 A (call.Create (codes "src" ∷ codes "t" ∷ [])) (answer.Reply reply.Ok) (Some 77)
          ∷ Answered 78 A (call.Write (codes "src" ∷ codes "t" ∷ []) 0 (codes "v26")) (answer.Reply reply.Ok) (Some 78)
          ∷ Answered 79 A (call.Rename (codes "src" ∷ codes "t" ∷ []) (codes "src" ∷ codes "f26" ∷ [])) (answer.Reply reply.Ok) (Some 79)
          ∷ Answered 80 A (call.Create (codes "src" ∷ codes "t" ∷ [])) (answer.Reply reply.Ok) (Some 80)
          ∷ Answered 81 A (call.Write (codes "src" ∷ codes "t" ∷ []) 0 (codes "v27")) (answer.Reply reply.Ok) (Some 81)
          ∷ Answered 82 A (call.Rename (codes "src" ∷ codes "t" ∷ []) (codes "src" ∷ codes "f27" ∷ [])) (answer.Reply reply.Ok) (Some 82)
          ∷ Answered 83 A (call.Create (codes "src" ∷ codes "t" ∷ [])) (answer.Reply reply.Ok) (Some 83)
          ∷ Answered 84 A (call.Write (codes "src" ∷ codes "t" ∷ []) 0 (codes "v28")) (answer.Reply reply.Ok) (Some 84)
          ∷ Answered 85 A (call.Rename (codes "src" ∷ codes "t" ∷ []) (codes "src" ∷ codes "f28" ∷ [])) (answer.Reply reply.Ok) (Some 85)
          ∷ Answered 86 A (call.Create (codes "src" ∷ codes "t" ∷ [])) (answer.Reply reply.Ok) (Some 86)
          ∷ Answered 87 A (call.Write (codes "src" ∷ codes "t" ∷ []) 0 (codes "v29")) (answer.Reply reply.Ok) (Some 87)
          ∷ Answered 88 A (call.Rename (codes "src" ∷ codes "t" ∷ []) (codes "src" ∷ codes "f29" ∷ [])) (answer.Reply reply.Ok) (Some 88)
          ∷ Answered 89 A (call.Create (codes "src" ∷ codes "t" ∷ [])) (answer.Reply reply.Ok) (Some 89)
          ∷ Answered 90 A (call.Write (codes "src" ∷ codes "t" ∷ []) 0 (codes "v30")) (answer.Reply reply.Ok) (Some 90)
          ∷ Answered 91 A (call.Rename (codes "src" ∷ codes "t" ∷ []) (codes "src" ∷ codes "f30" ∷ [])) (answer.Reply reply.Ok) (Some 91)
          ∷ Answered 92 A (call.Create (codes "src" ∷ codes "t" ∷ [])) (answer.Reply reply.Ok) (Some 92)
          ∷ Answered 93 A (call.Write (codes "src" ∷ codes "t" ∷ []) 0 (codes "v31")) (answer.Reply reply.Ok) (Some 93)
          ∷ Answered 94 A (call.Rename (codes "src" ∷ codes "t" ∷ []) (codes "src" ∷ codes "f31" ∷ [])) (answer.Reply reply.Ok) (Some 94)
          ∷ Waits 95 A (call.Create (codes "src" ∷ codes "t" ∷ []))
          ∷ Answered 95 A (call.Create (codes "src" ∷ codes "t" ∷ [])) (answer.Reply reply.Ok) (Some 95)
          ∷ Answered 96 A (call.Write (codes "src" ∷ codes "t" ∷ []) 0 (codes "v32")) (answer.Reply reply.Ok) (Some 96)
          ∷ Answered 97 A (call.Rename (codes "src" ∷ codes "t" ∷ []) (codes "src" ∷ codes "f32" ∷ [])) (answer.Reply reply.Ok) (Some 97)
          ∷ Answered 98 A (call.Create (codes "src" ∷ codes "t" ∷ [])) (answer.Reply reply.Ok) (Some 98)
          ∷ Answered 99 A (call.Write (codes "src" ∷ codes "t" ∷ []) 0 (codes "v33")) (answer.Reply reply.Ok) (Some 99)
          ∷ Answered 100 A (call.Rename (codes "src" ∷ codes "t" ∷ []) (codes "src" ∷ codes "f33" ∷ [])) (answer.Reply reply.Ok) (Some 100)
          ∷ Answered 101 A (call.Create (codes "src" ∷ codes "t" ∷ [])) (answer.Reply reply.Ok) (Some 101)
          ∷ Answered 102 A (call.Write (codes "src" ∷ codes "t" ∷ []) 0 (codes "v34")) (answer.Reply reply.Ok) (Some 102)
          ∷ Answered 103 A (call.Rename (codes "src" ∷ codes "t" ∷ []) (codes "src" ∷ codes "f34" ∷ [])) (answer.Reply reply.Ok) (Some 103)
          ∷ Answered 104 A (call.Create (codes "src" ∷ codes "t" ∷ [])) (answer.Reply reply.Ok) (Some 104)
          ∷ Answered 105 A (call.Write (codes "src" ∷ codes "t" ∷ []) 0 (codes "v35")) (answer.Reply reply.Ok) (Some 105)
          ∷ Answered 106 A (call.Rename (codes "src" ∷ codes "t" ∷ []) (codes "src" ∷ codes "f35" ∷ [])) (answer.Reply reply.Ok) (Some 106)
          ∷ Answered 107 A (call.Create (codes "src" ∷ codes "t" ∷ [])) (answer.Reply reply.Ok) (Some 107)
          ∷ Answered 108 A (call.Write (codes "src" ∷ codes "t" ∷ []) 0 (codes "v36")) (answer.Reply reply.Ok) (Some 108)
          ∷ Answered 109 A (call.Rename (codes "src" ∷ codes "t" ∷ []) (codes "src" ∷ codes "f36" ∷ [])) (answer.Reply reply.Ok) (Some 109)
          ∷ Answered 110 A (call.Create (codes "src" ∷ codes "t" ∷ [])) (answer.Reply reply.Ok) (Some 110)
          ∷ Answered 111 A (call.Write (codes "src" ∷ codes "t" ∷ []) 0 (codes "v37")) (answer.Reply reply.Ok) (Some 111)
          ∷ Answered 112 A (call.Rename (codes "src" ∷ codes "t" ∷ []) (codes "src" ∷ codes "f37" ∷ [])) (answer.Reply reply.Ok) (Some 112)
          ∷ Answered 113 A (call.Create (codes "src" ∷ codes "t" ∷ [])) (answer.Reply reply.Ok) (Some 113)
          ∷ Answered 114 A (call.Write (codes "src" ∷ codes "t" ∷ []) 0 (codes "v38")) (answer.Reply reply.Ok) (Some 114)
          ∷ Answered 115 A (call.Rename (codes "src" ∷ codes "t" ∷ []) (codes "src" ∷ codes "f38" ∷ [])) (answer.Reply reply.Ok) (Some 115)
          ∷ Answered 116 A (call.Create (codes "src" ∷ codes "t" ∷ [])) (answer.Reply reply.Ok) (Some 116)
          ∷ Answered 117 A (call.Write (codes "src" ∷ codes "t" ∷ []) 0 (codes "v39")) (answer.Reply reply.Ok) (Some 117)
          ∷ Answered 118 A (call.Rename (codes "src" ∷ codes "t" ∷ []) (codes "src" ∷ codes "f39" ∷ [])) (answer.Reply reply.Ok) (Some 118)
          ∷ Answered 119 A (call.Create (codes "src" ∷ codes "t" ∷ [])) (answer.Reply reply.Ok) (Some 119)
          ∷ Answered 120 A (call.Write (codes "src" ∷ codes "t" ∷ []) 0 (codes "v40")) (answer.Reply reply.Ok) (Some 120)
          ∷ Answered 121 A (call.Rename (codes "src" ∷ codes "t" ∷ []) (codes "src" ∷ codes "f40" ∷ [])) (answer.Reply reply.Ok) (Some 121)
          ∷ Waits 122 B (call.List (codes "src" ∷ []))
          ∷ Durable A (1 ∷ [])
          ∷ Durable A (2 ∷ 3 ∷ 4 ∷ 5 ∷ 6 ∷ 7 ∷ 8 ∷ 9 ∷ 10 ∷ 11 ∷ 12 ∷ 13 ∷ 14 ∷ 15 ∷ 16 ∷ 17 ∷ 18 ∷ 19 ∷ 20 ∷ 21 ∷ 22 ∷ 23 ∷ 24 ∷ 25 ∷ 26 ∷ 27 ∷ 28 ∷ 29 ∷ 30 ∷ 31 ∷ 32 ∷ 33 ∷ 34 ∷ 35 ∷ 36 ∷ 37 ∷ 38 ∷ 39 ∷ 40 ∷ 41 ∷ 42 ∷ 43 ∷ 44 ∷ 45 ∷ 46 ∷ 47 ∷ 48 ∷ 49 ∷ 50 ∷ 51 ∷ 52 ∷ 53 ∷ 54 ∷ 55 ∷ 56 ∷ 57 ∷ 58 ∷ 59 ∷ 60 ∷ 61 ∷ 62 ∷ 63 ∷ 64 ∷ 65 ∷ [])
          ∷ Durable A (66 ∷ 67 ∷ 68 ∷ 69 ∷ 70 ∷ 71 ∷ 72 ∷ 73 ∷ 74 ∷ 75 ∷ 76 ∷ 77 ∷ 78 ∷ 79 ∷ 80 ∷ 81 ∷ 82 ∷ 83 ∷ 84 ∷ 85 ∷ 86 ∷ 87 ∷ 88 ∷ 89 ∷ 90 ∷ 91 ∷ 92 ∷ 93 ∷ 94 ∷ 95 ∷ 96 ∷ 97 ∷ 98 ∷ 99 ∷ 100 ∷ 101 ∷ 102 ∷ 103 ∷ 104 ∷ 105 ∷ 106 ∷ 107 ∷ 108 ∷ 109 ∷ 110 ∷ 111 ∷ 112 ∷ 113 ∷ 114 ∷ 115 ∷ 116 ∷ 117 ∷ 118 ∷ 119 ∷ 120 ∷ 121 ∷ [])
          ∷ Answered 122 B (call.List (codes "src" ∷ [])) (answer.Reply (reply.Names (codes "f1" ∷ codes "f10" ∷ codes "f11" ∷ codes "f12" ∷ codes "f13" ∷ codes "f14" ∷ codes "f15" ∷ codes "f16" ∷ codes "f17" ∷ codes "f18" ∷ codes "f19" ∷ codes "f2" ∷ codes "f20" ∷ codes "f21" ∷ codes "f22" ∷ codes "f23" ∷ codes "f24" ∷ codes "f25" ∷ codes "f26" ∷ codes "f27" ∷ codes "f28" ∷ codes "f29" ∷ codes "f3" ∷ codes "f30" ∷ codes "f31" ∷ codes "f32" ∷ codes "f33" ∷ codes "f34" ∷ codes "f35" ∷ codes "f36" ∷ codes "f37" ∷ codes "f38" ∷ codes "f39" ∷ codes "f4" ∷ codes "f40" ∷ codes "f5" ∷ codes "f6" ∷ codes "f7" ∷ codes "f8" ∷ codes "f9" ∷ []))) None
          ∷ [];
      status = 0;
    }
