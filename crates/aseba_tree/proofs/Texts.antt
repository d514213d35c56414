-- The texts of some lines.
use Rattle.std.specs.Prelude.{◌≡◌, refl, pos, negsuc, [], ◌∷◌, codes}
use Rattle.std.specs.Fmt.{digits}
use Rattle.aseba_tree.specs.Line.{named, numbered, began, ignored, dropped, killed, was_set, sent, division, bounds, told, var, end, lines_text, code_text}

code : code_text (0x0003 ∷ 0xffff ∷ 0x4022 ∷ 0xb00a ∷ []) ≡ codes "code 0003 ffff 4022 b00a"
code = refl

texts : lines_text
    (told 10 2 (began (named (codes "ping"))) ∷ told 11 2 (ignored (numbered 300)) ∷ told 12 2 (dropped (named (codes "pong"))) ∷ told 12 2 (killed 3)
    ∷ told 11 2 (was_set (codes "x")) ∷ told 1204 112 (sent (named (codes "alive")) (pos 1 ∷ negsuc 0 ∷ [])) ∷ told 4 2 (division 2)
    ∷ told 4 2 (bounds 3 3 (negsuc 6)) ∷ var (codes "a") (pos 2 ∷ pos 2 ∷ []) ∷ end 19 4 ∷ []) ≡
    codes "10 2 event ping\n11 2 ignored 300\n12 2 dropped pong\n12 2 killed 3\n11 2 set x\n1204 112 emit alive 1 -1\n4 2 division 2\n4 2 bounds 3 3 -7\nvar a 2 2\nend 19 4\n"
unfolding digits
texts = refl
