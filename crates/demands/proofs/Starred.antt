-- Both sides are computed.
use mathlib.Core.Path.{refl}
use Rattle.crc.specs.Crc.{shift, shifts, crc_from, ends_in, intact}
use Rattle.words.specs.Words.{sent, value_at}
use Rattle.words.specs.Signed.{twos}
use Rattle.ratio.specs.Powers.{power_unit}
use Rattle.ratio.specs.Steps.{step_of}
use Rattle.own.specs.Table.{directory}
use Rattle.directory.specs.Run.{find_in, run_from, run_in, words_of}
use Rattle.modbus.specs.Frame.{silence}
use Rattle.modbus.specs.Read.{read_in}
use Rattle.reading.specs.Readings.{one_of, thirteen, reading_of}
use Rattle.replies.specs.Judged.{heard, reply_of, judged_in}
use Rattle.collector.specs.Collector.{item_of, collector_in}
use Rattle.demands.specs.Starred.{starred, ExamplesHold}
use Rattle.demands.specs.Orders.{ordered, OrderExamples}

pub examples_hold : ExamplesHold
unfolding starred shift shifts crc_from ends_in intact sent value_at twos power_unit step_of directory find_in run_from run_in words_of silence read_in one_of thirteen reading_of heard item_of reply_of judged_in collector_in
examples_hold = record { agree = refl }

pub order_examples : OrderExamples
unfolding ordered shift shifts crc_from ends_in intact sent value_at twos power_unit step_of directory find_in run_from run_in words_of silence read_in one_of thirteen reading_of heard item_of reply_of judged_in collector_in
order_examples = record { agree = refl }
