use Rattle.trial_layer.proofs.Booking.{booked}
use Rattle.trial_layer.proofs.Ordering.{in_order}
use Rattle.trial_layer.proofs.laws.books_in_order.Goals as goal

pub returns : goal.returns
returns c = record { steps = booked; runs = in_order }
