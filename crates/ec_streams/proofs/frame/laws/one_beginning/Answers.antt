use Rattle.ec_streams.specs.OfFrame.FrameLaws.{one_front, one_long, long_front, front_stays, long_stays}
use Rattle.ec_streams.proofs.frame.laws.one_beginning.Goals as goal

pub returns : goal.returns
returns c = record {
  frame = one_front;
  long = one_long;
  not_both = long_front;
  frame_stays = front_stays;
  long_stays = long_stays;
}
