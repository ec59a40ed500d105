-- The lines of a report on a circuit, and the texts of its refusals, of the numbers in them. Each line ends with a line feed.
use Rattle.std.specs.Prelude.{ℕ, suc, List, [], ◌∷◌, ◌++◌, codes, decimal, Option}
use Rattle.sc_definitions.specs.Lucky.{LuckyChallenge, in_batch, in_round}
use Rattle.sc_circuit.specs.Runs.{GivenLayer}
use Rattle.sumcheck_replies.specs.Lines.{spaced, round_line, lines_by, layer_name, round_text}

-- the line of round j of layer i
abbrev pub layer_round_line : ℕ → ℕ → List ℕ → Option ℕ → ℕ → List ℕ
layer_round_line i j values witness challenge = layer_name i ++ round_line j values witness challenge

-- the end of a line that is of a layer, with its two values and the challenge that merges them
unfoldable pub merge_part : ℕ → ℕ → ℕ → List ℕ
merge_part left right merge = codes "left " ++ decimal left ++ codes " right " ++ decimal right ++ codes " merge " ++ decimal merge ++ codes "\n"

-- the lines of a layer: its rounds, its two values, and the challenge that merges them
abbrev pub layer_lines : ℕ → GivenLayer → List ℕ → ℕ → List ℕ
layer_lines i g challenges merge =
    lines_by (layer_round_line i) 0 g.wire.messages g.wire.witnesses challenges ++ (layer_name i ++ merge_part g.left g.right merge)

-- those of all layers, numbered from i on
abbrev pub layers_lines : ℕ → List GivenLayer → List (List ℕ) → List ℕ → List ℕ
layers_lines i [] challenges merges = []
layers_lines i (g ∷ layers) [] merges = []
layers_lines i (g ∷ layers) (rs ∷ challenges) [] = []
layers_lines i (g ∷ layers) (rs ∷ challenges) (m ∷ merges) = layer_lines i g rs m ++ layers_lines (suc i) layers challenges merges

-- the claim on the inputs
unfoldable pub input_line : ℕ → List ℕ
input_line x = codes "input " ++ decimal x ++ codes "\n"

-- the verdict that a layer does not agree
unfoldable pub refuted_layer_line : ℕ → List ℕ
refuted_layer_line i = codes "verdict refuted layer " ++ decimal i ++ codes "\n"

-- the beginning of the verdict that the challenge that made the claim of a layer was lucky, up to the coefficients
unfoldable pub lucky_merge_name : ℕ → ℕ → List ℕ
lucky_merge_name i roots = codes "verdict lucky-merge layer " ++ decimal i ++ codes " vanishing " ++ decimal roots ++ codes " poly"

-- the same of the challenge of round j of a layer
unfoldable pub lucky_layer_name : ℕ → ℕ → ℕ → List ℕ
lucky_layer_name i j roots =
    codes "verdict lucky-round layer " ++ decimal i ++ codes " round " ++ decimal j ++ codes " vanishing " ++ decimal roots ++ codes " poly"

-- which challenge of a layer was lucky, with the number of roots of the polynomial that certifies it, and its coefficients
abbrev pub lucky_layer_line : ℕ → LuckyChallenge → List ℕ
lucky_layer_line i (in_batch polynomial roots) = lucky_merge_name i roots ++ spaced polynomial ++ codes "\n"
lucky_layer_line i (in_round j polynomial roots) = lucky_layer_name i j roots ++ spaced polynomial ++ codes "\n"

-- ---- refusals

-- another number of layers than there may be
unfoldable pub depth_text : ℕ → List ℕ
depth_text layers = codes "circuit depth " ++ decimal layers

-- a layer of a length that does not fit
unfoldable pub layer_width_text : ℕ → ℕ → List ℕ
layer_width_text layer len = codes "circuit width layer " ++ decimal layer ++ codes " len " ++ decimal len

-- a gate that names a place past the layer below
unfoldable pub wire_text : ℕ → ℕ → List ℕ
wire_text layer gate = codes "circuit wire layer " ++ decimal layer ++ codes " gate " ++ decimal gate

-- another number of outputs than the first layer has
unfoldable pub outputs_text : ℕ → ℕ → List ℕ
outputs_text expected actual = codes "circuit outputs expected " ++ decimal expected ++ codes " actual " ++ decimal actual

-- a false output: its gate, its claimed and its true value
unfoldable pub false_output_text : ℕ → ℕ → ℕ → List ℕ
false_output_text gate claimed actual =
    codes "false-output " ++ decimal gate ++ codes " claimed " ++ decimal claimed ++ codes " true " ++ decimal actual

-- a proof of another number of layers
unfoldable pub layers_text : ℕ → ℕ → List ℕ
layers_text expected actual = codes "layers expected " ++ decimal expected ++ codes " actual " ++ decimal actual

-- a round of a layer, as the place of something
abbrev pub layer_round_text : ℕ → ℕ → List ℕ
layer_round_text i j = layer_name i ++ round_text j
