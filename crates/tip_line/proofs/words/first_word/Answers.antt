use Rattle.std.proofs.Common.{◌≡◌, ◌<◌, length, take, drop, arith, ap, ◌∙◌, sym}
use Rattle.std.specs.List.{position_or_len}
use Rattle.std.proofs.lemmas.Bool.Decides.{nat_tests}
use Rattle.std.proofs.lemmas.List.Sums.{prefix_len-le-length}
use Rattle.tip_line.specs.Octets.{is_space, without_front}
use Rattle.tip_line.proofs.TextLemmas.{first_words, no_words}
use Rattle.tip_line.proofs.words.first_word.Goals as goal

pub returns-then-is_empty : goal.returns-then-is_empty
returns-then-is_empty c =
    let front = ap length c.without_front-front.ensures in
    let none : length c.without_front-front.result.now ≡ 0 = grind (arith, nat_tests) in
    no_words c.args.text.now (sym front ∙ none)

pub split_at-requires : goal.split_at-requires
split_at-requires c = rw c.word_len.ensures (prefix_len-le-length _ c.without_front-front.result.now)

pub returns : goal.returns
returns c =
    let front = ap length c.without_front-front.ensures in
    let some : 0 < length c.without_front-front.result.now = grind (arith, nat_tests) in
    let f = first_words c.args.text.now (omega arith) in
    let word : c.split_at.result.0.now ≡ take (position_or_len is_space (without_front c.args.text.now)) (without_front c.args.text.now) = rw (c.split_at.ensures.front, c.word_len.ensures, c.without_front-front.ensures) in
    let rest : c.split_at.result.1.now ≡ drop (position_or_len is_space (without_front c.args.text.now)) (without_front c.args.text.now) = rw (c.split_at.ensures.back, c.word_len.ensures, c.without_front-front.ensures) in
    (rw (word, rest) f.words, rw rest f.shorter)
