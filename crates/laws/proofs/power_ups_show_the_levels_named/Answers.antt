-- What a power-up shows, and how a mode word finds it.
-- Rests on PowerUp.
use Rattle.laws.proofs.PowerUp.{power_up_shows, reset_as_power_up, named_is_put, starts}
use Rattle.laws.proofs.power_ups_show_the_levels_named.Goals as goal

pub returns : goal.returns
returns c = record { shown = power_up_shows; reset = reset_as_power_up; put = named_is_put; starts = starts }
