-- What the host's calls answer, and what they leave of the bytes that they are lent. Each answer is one number: the refusal in its lowest
-- byte, and what is given above it.
use Rattle.std.specs.Prelude.{Bool, cond, ◌&&◌, ◌||◌, List, ℕ, ◌+◌, ◌*◌, ◌%◌, eqb, ltb, length}
use Rattle.control.specs.declared.Group.{Group}
use Rattle.control.specs.declared.Group.TheVariants.{A, B}
use Rattle.bus.specs.Device.{Given}
use Rattle.chip.specs.declared.Chip.{Chip}
use Rattle.chip.specs.declared.channel.Side.{Side}
use Rattle.chip.specs.declared.channel.Side.TheVariants.{Input, Output}
use Rattle.chip.specs.declared.channel.Tally.{Tally}
use Rattle.chip.specs.State.{levels_by, power_up_as, power_up_with, power_up, tally_of}
use Rattle.chip.specs.Reasons.{Numbers, explained_of, numbers_of}
use Rattle.bus.specs.declared.Pins.{Pins}
use Rattle.chip.specs.Pins.{pins_of}
use Rattle.chip.specs.Step.{step_of}
use Rattle.image.specs.Places as places
use Rattle.image.specs.Layout.{image_of}
use Rattle.image.specs.Loaded.{edition_as, state_of}
use Rattle.image.specs.Good.{edition_fits, is_image}
use Rattle.image.specs.Slices.{saved_in}
use Rattle.image.specs.OlderLoaded.{older_state}
use Rattle.image.specs.OlderGood.{is_older}

-- A number with two bytes above it.
abbrev pub packed : ℕ → ℕ → ℕ → ℕ
packed number low high = number + 256 * low + 65536 * high

-- The bytes are no image: they are those of no state, or too few or too many. Or there is no such edition.
abbrev pub no_state : ℕ
no_state = 8

-- There is no such port, channel or tally.
abbrev pub out_of_range : ℕ
out_of_range = 2

-- That the bytes are no image comes before all other refusals.
abbrev pub or_bad : List ℕ → ℕ → ℕ
or_bad l answer = cond (is_image l) answer no_state

-- That there is no such thing comes next.
abbrev pub or_none : Bool → ℕ → ℕ
or_none none answer = cond none out_of_range answer

-- The last port, the last channel and the last tally of a channel; the first of each is 0.
abbrev pub last_port : ℕ
last_port = 2

abbrev pub last_channel : ℕ
last_channel = 3

abbrev pub last_tally : ℕ
last_tally = 6

-- Power-up asks nothing of the bytes but their number, and writes over them.
abbrev pub power_up_answer : List ℕ → ℕ
power_up_answer l = cond (eqb (length l) places.length) 0 no_state

-- What it writes where no levels are named,
abbrev pub power_up_image : List ℕ → List ℕ
power_up_image l = saved_in l power_up

-- and where those of ports A, B and C are.
abbrev pub power_up_image_with : List ℕ → ℕ → ℕ → ℕ → List ℕ
power_up_image_with l a b c = saved_in l (power_up_with (levels_by a b c))

-- Where the edition is named too, by its number in an image, 0 or 1, the edition is asked for first ("The 82C55A").
unfoldable pub power_up_as_answer : List ℕ → ℕ → ℕ
power_up_as_answer l edition = cond (edition_fits edition) (power_up_answer l) no_state

-- A refusal writes nothing.
unfoldable pub power_up_as_image : List ℕ → ℕ → ℕ → ℕ → ℕ → List ℕ
power_up_as_image l edition a b c = cond (edition_fits edition) (saved_in l (power_up_as (edition_as edition) (levels_by a b c))) l

-- An older image is asked for first; then, as power-up does, nothing of the bytes that are written over but their number.
unfoldable pub convert_answer : List ℕ → List ℕ → ℕ
convert_answer o l = cond (is_older o) (power_up_answer l) no_state

-- What is written is the image of the state that the older image tells. A refusal writes nothing.
unfoldable pub convert_image : List ℕ → List ℕ → List ℕ
convert_image o l = cond (is_older o) (saved_in l (older_state o)) l

-- The step of the state that the image tells.
abbrev pub step_on : List ℕ → ℕ → ℕ → ℕ → Given Chip
step_on l k x d = step_of (state_of l) k x d

-- Its number, and the byte of an accepted read.
unfoldable pub step_answer : List ℕ → ℕ → ℕ → ℕ → ℕ
step_answer l k x d = or_bad l (packed (step_on l k x d).number (step_on l k x d).byte 0)

-- The image of the state after an accepted event. A refusal writes nothing.
unfoldable pub step_image : List ℕ → ℕ → ℕ → ℕ → List ℕ
step_image l k x d = cond (is_image l && eqb (step_on l k x d).number 0) (image_of (step_on l k x d).state) l

-- The levels of a port's pins, and above them the mask of those that the chip drives.
abbrev pub pins_given : Pins → ℕ
pins_given p = packed 0 p.levels p.driven

-- The pin view of port 0, 1 or 2.
unfoldable pub pins_answer : List ℕ → ℕ → ℕ
pins_answer l p = or_bad l (or_none (ltb last_port p) (pins_given (pins_of (state_of l) p)))

-- The channels are numbered A in, A out, B in, B out: the first two are group A's,
abbrev pub group_numbered : ℕ → Group
group_numbered k = cond (ltb k 2) A B

-- and those with an even number are inputs.
abbrev pub side_numbered : ℕ → Side
side_numbered k = cond (eqb (k % 2) 0) Input Output

-- The tallies of a channel are numbered as the rules list them; no number above the last is asked for.
unfoldable pub counter_numbered : Tally → ℕ → ℕ
counter_numbered t n =
    cond (eqb n 0) t.offered
    (cond (eqb n 1) t.handed
    (cond (eqb n 2) t.overwritten
    (cond (eqb n 3) t.swallowed
    (cond (eqb n 4) t.cleared
    (cond (eqb n 5) t.planted
    t.struck)))))

-- Tally n of channel k, in two bytes.
unfoldable pub tally_answer : List ℕ → ℕ → ℕ → ℕ
tally_answer l k n =
    or_bad l
    (or_none (ltb last_channel k || ltb last_tally n)
    (256 * counter_numbered (tally_of (state_of l) (group_numbered k) (side_numbered k)) n))

-- What is said of an INTR: the number, and above it the reason of the input's half and that of the output's.
abbrev pub reasons_given : Numbers → ℕ
reasons_given n = packed n.number n.input n.output

-- Why the INTR of group 0 or 1 is low. For another group the answer's own number is 2.
unfoldable pub explain_answer : List ℕ → ℕ → ℕ
explain_answer l g = or_bad l (reasons_given (numbers_of (explained_of (state_of l) g)))
