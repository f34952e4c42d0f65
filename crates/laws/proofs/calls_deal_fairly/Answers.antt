use Rattle.laws.proofs.Dealings.{sent_within, board_else_unmoved, no_trade_through, remainder_never_grows, refusals_change_nothing, refused_exactly}
use Rattle.laws.proofs.calls_deal_fairly.Goals as goal

pub returns : goal.returns
returns c = record {
  sent = sent_within;
  board = board_else_unmoved;
  through = no_trade_through;
  remainder = remainder_never_grows;
  refusals = refusals_change_nothing;
  refused = refused_exactly;
}
