-- Each part is proved in its own crate, or beside this file.
use Rattle.refusal.proofs.Distinct.{one_reason_each}
use Rattle.crc.proofs.Laws.{crc_fits, intact_is_sealed, put_seals}
use Rattle.words.proofs.Laws.{byte_sent, read_back_lem, orders}
use Rattle.words.proofs.Signs.{signed_back}
use Rattle.lines.proofs.Texts.{text_back}
use Rattle.ratio.proofs.Steps.{rows_meet, step_rows}
use Rattle.counts.proofs.Joins.{join_split}
use Rattle.directory.proofs.Rules.{directory_rules}
use Rattle.own.proofs.Rules.{own_passes, tenant_view, three_tables, average_places, kinds_in_order}
use Rattle.directory.proofs.Bites.{tests_bite}
use Rattle.directory.proofs.Tenant.{tenant_sees}
use Rattle.directory.proofs.Sends.{run_sends}
use Rattle.modbus.proofs.Judged.{read_when, tenant_reads}
use Rattle.reading.proofs.Told.{one_answer_each}
use Rattle.collector.proofs.When as collector
use Rattle.collector.proofs.Joins.{joins_when}
use Rattle.collector.proofs.OneByOne.{whole_when, one_by_one}
use Rattle.average.proofs.Limits.{window_lengths, average_limits, limits_bite}
use Rattle.meter.proofs.Parts.{zero_to_neither}
use Rattle.meter.proofs.Sums.{sums_carried}
use Rattle.meter.proofs.Accepts.{new_answers, address_limits, sample_answers, setup_idle, code_counts}
use Rattle.store.proofs.Verdicts.{write_when}
use Rattle.registers.proofs.Widths.{every_case, setup_unseen}
use Rattle.transcript.proofs.Written.{text_written}
use Rattle.demands.specs.Demands.{Demand1, Ground, Replies, Readings, Demand2, Tenants, Wholes, BuyersOrder, Demands}
use Rattle.demands.proofs.Frames as board
use Rattle.demands.proofs.Polls.{with_data, round_trip}
use Rattle.demands.proofs.Polled.{every_item_polled}
use Rattle.demands.proofs.Histories.{after_events, setup_idle_always}
use Rattle.demands.proofs.Types.{types_kept}
use Rattle.demands.proofs.NotEmpty.{not_empty, reads_always}
use Rattle.demands.proofs.Demand3.{demand_3}
use Rattle.demands.proofs.Wholes.{whole_always, whole_demand_3}
use Rattle.demands.proofs.LastRows.{last_rows, last_ratios, first_rows}
use Rattle.demands.proofs.Tenant.{second_is_named, at_second, tenant_asks, alters_nothing, answers_alike, unlike_but_alike, tenant_learns, counts_alone}
use Rattle.demands.proofs.Fills.{averages_always}
use Rattle.demands.proofs.Determined.{determined, numbered}
use Rattle.demands.proofs.Starred.{examples_hold, order_examples}
use Rattle.demands.proofs.Orders.{orders_always, volts_read, volts_polled}
use Rattle.demands.proofs.ShutOut.{shut_out}

pub demand_1 : Demand1
demand_1 = record {
  samples = sample_answers;
  frames = board.untouched;
  unseen = board.buffer_unseen;
  replies = collector.not_misread;
  records = after_events;
}

pub ground : Ground
ground = record {
  reasons = one_reason_each;
  answers = one_answer_each;
  numbered = numbered;
  crc = crc_fits;
  damaged = intact_is_sealed;
  put = put_seals;
  bytes = byte_sent;
  words = read_back_lem;
  orders = orders;
  signed = signed_back;
  rows = rows_meet;
  steps = step_rows;
  directory = directory_rules;
  own = own_passes;
  tests = tests_bite;
  kinds = kinds_in_order;
  places = three_tables;
  average_places = average_places;
  runs = run_sends;
  lines = text_back;
}

pub replies : Replies
replies = record {
  new_meters = new_answers;
  addresses = address_limits;
  frames = board.frames_when;
  obeys = board.obeys;
  whole = board.replies_sealed;
  reads = read_when;
  writes = write_when;
  shown = every_case;
  sums = sums_carried;
  zero = zero_to_neither;
  window_lengths = window_lengths;
  averages = average_limits;
  average_limits = limits_bite;
  setup_idle = setup_idle;
  setup_always = setup_idle_always;
  code_counts = code_counts;
  windows = board.window_opened;
  setup_unseen = setup_unseen;
}

pub readings : Readings
readings = record {
  answers = collector.replies_when;
  joins = joins_when;
  split = join_split;
  with_data = with_data;
  readings = round_trip;
  typed = types_kept;
  always = reads_always;
  averages = averages_always;
  first_rows = first_rows;
  last_rows = last_rows;
  last_ratios = last_ratios;
}

pub demand_2 : Demand2
demand_2 = record { ground = ground; replies = replies; readings = readings; determined = determined; examples = examples_hold; bench = text_written }

pub tenants : Tenants
tenants = record {
  view = tenant_view;
  sees = tenant_sees;
  reads = tenant_reads;
  named = second_is_named;
  frames = at_second;
  asks = tenant_asks;
  alters_nothing = alters_nothing;
  alike = answers_alike;
  unlike = unlike_but_alike;
  learns = tenant_learns;
  counts = counts_alone;
}

pub wholes : Wholes
wholes = record { when = whole_when; one_by_one = one_by_one; always = whole_always; energies = whole_demand_3 }

pub buyers_order : BuyersOrder
buyers_order = record { always = orders_always; volts = volts_read; polled = volts_polled; examples = order_examples }

pub demands : Demands
demands = record { one = demand_1; two = demand_2; three = demand_3; polled = every_item_polled; not_empty = not_empty; tight = shut_out; tenants = tenants; wholes = wholes; buyers_order = buyers_order }
