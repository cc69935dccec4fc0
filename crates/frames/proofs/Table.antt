-- Laws: the table of the mirrors, all of its entries together. Assumes nothing.
use Rattle.std.specs.Prelude.{◌≡◌, ℕ, zero, suc, ◌-◌, ◌<◌, List, [], ◌∷◌, map, get_or, refl}
use Rattle.std.specs.List.{range_with_len}
use Rattle.std.proofs.Common.{◌∙◌, ap, arith}
use Rattle.std.proofs.lemmas.List.FromFn.{get_or-map-range_with_len}
use Rattle.frames.specs.Mirror.{bit_of, mirror_of}

-- the constant table of the code
unfoldable pub table : List ℕ
table =
    0 ∷ 128 ∷ 64 ∷ 192 ∷ 32 ∷ 160 ∷ 96 ∷ 224 ∷ 16 ∷ 144 ∷ 80 ∷ 208 ∷ 48 ∷ 176 ∷ 112 ∷ 240 ∷
    8 ∷ 136 ∷ 72 ∷ 200 ∷ 40 ∷ 168 ∷ 104 ∷ 232 ∷ 24 ∷ 152 ∷ 88 ∷ 216 ∷ 56 ∷ 184 ∷ 120 ∷ 248 ∷
    4 ∷ 132 ∷ 68 ∷ 196 ∷ 36 ∷ 164 ∷ 100 ∷ 228 ∷ 20 ∷ 148 ∷ 84 ∷ 212 ∷ 52 ∷ 180 ∷ 116 ∷ 244 ∷
    12 ∷ 140 ∷ 76 ∷ 204 ∷ 44 ∷ 172 ∷ 108 ∷ 236 ∷ 28 ∷ 156 ∷ 92 ∷ 220 ∷ 60 ∷ 188 ∷ 124 ∷ 252 ∷
    2 ∷ 130 ∷ 66 ∷ 194 ∷ 34 ∷ 162 ∷ 98 ∷ 226 ∷ 18 ∷ 146 ∷ 82 ∷ 210 ∷ 50 ∷ 178 ∷ 114 ∷ 242 ∷
    10 ∷ 138 ∷ 74 ∷ 202 ∷ 42 ∷ 170 ∷ 106 ∷ 234 ∷ 26 ∷ 154 ∷ 90 ∷ 218 ∷ 58 ∷ 186 ∷ 122 ∷ 250 ∷
    6 ∷ 134 ∷ 70 ∷ 198 ∷ 38 ∷ 166 ∷ 102 ∷ 230 ∷ 22 ∷ 150 ∷ 86 ∷ 214 ∷ 54 ∷ 182 ∷ 118 ∷ 246 ∷
    14 ∷ 142 ∷ 78 ∷ 206 ∷ 46 ∷ 174 ∷ 110 ∷ 238 ∷ 30 ∷ 158 ∷ 94 ∷ 222 ∷ 62 ∷ 190 ∷ 126 ∷ 254 ∷
    1 ∷ 129 ∷ 65 ∷ 193 ∷ 33 ∷ 161 ∷ 97 ∷ 225 ∷ 17 ∷ 145 ∷ 81 ∷ 209 ∷ 49 ∷ 177 ∷ 113 ∷ 241 ∷
    9 ∷ 137 ∷ 73 ∷ 201 ∷ 41 ∷ 169 ∷ 105 ∷ 233 ∷ 25 ∷ 153 ∷ 89 ∷ 217 ∷ 57 ∷ 185 ∷ 121 ∷ 249 ∷
    5 ∷ 133 ∷ 69 ∷ 197 ∷ 37 ∷ 165 ∷ 101 ∷ 229 ∷ 21 ∷ 149 ∷ 85 ∷ 213 ∷ 53 ∷ 181 ∷ 117 ∷ 245 ∷
    13 ∷ 141 ∷ 77 ∷ 205 ∷ 45 ∷ 173 ∷ 109 ∷ 237 ∷ 29 ∷ 157 ∷ 93 ∷ 221 ∷ 61 ∷ 189 ∷ 125 ∷ 253 ∷
    3 ∷ 131 ∷ 67 ∷ 195 ∷ 35 ∷ 163 ∷ 99 ∷ 227 ∷ 19 ∷ 147 ∷ 83 ∷ 211 ∷ 51 ∷ 179 ∷ 115 ∷ 243 ∷
    11 ∷ 139 ∷ 75 ∷ 203 ∷ 43 ∷ 171 ∷ 107 ∷ 235 ∷ 27 ∷ 155 ∷ 91 ∷ 219 ∷ 59 ∷ 187 ∷ 123 ∷ 251 ∷
    7 ∷ 135 ∷ 71 ∷ 199 ∷ 39 ∷ 167 ∷ 103 ∷ 231 ∷ 23 ∷ 151 ∷ 87 ∷ 215 ∷ 55 ∷ 183 ∷ 119 ∷ 247 ∷
    15 ∷ 143 ∷ 79 ∷ 207 ∷ 47 ∷ 175 ∷ 111 ∷ 239 ∷ 31 ∷ 159 ∷ 95 ∷ 223 ∷ 63 ∷ 191 ∷ 127 ∷ 255 ∷ []

-- each entry is the mirror of its place
entries : table ≡ map mirror_of (range_with_len 0 256)
unfolding table mirror_of
entries = refl

entry : (p : ℕ) → p < 256 → get_or table p 0 ≡ mirror_of p
entry p h = ap (λ (xs : List ℕ). get_or xs p 0) entries ∙ get_or-map-range_with_len mirror_of 0 256 p p 0 h (omega arith)

-- bit k of a mirror is bit 7 - k of the byte
mirrored : (p k : ℕ) → p < 256 → k < 8 → bit_of k (mirror_of p) ≡ bit_of (7 - k) p
unfolding mirror_of
mirrored p zero h less = omega arith
mirrored p (suc zero) h less = omega arith
mirrored p (suc (suc zero)) h less = omega arith
mirrored p (suc (suc (suc zero))) h less = omega arith
mirrored p (suc (suc (suc (suc zero)))) h less = omega arith
mirrored p (suc (suc (suc (suc (suc zero))))) h less = omega arith
mirrored p (suc (suc (suc (suc (suc (suc zero)))))) h less = omega arith
mirrored p (suc (suc (suc (suc (suc (suc (suc zero))))))) h less = omega arith
mirrored p (suc (suc (suc (suc (suc (suc (suc (suc k)))))))) h less = omega arith

pub mirrors : (p : ℕ) → p < 256 → (get_or table p 0 ≡ mirror_of p) × ((k : ℕ) → k < 8 → bit_of k (get_or table p 0) ≡ bit_of (7 - k) p)
mirrors p h = (entry p h, λ k less. ap (bit_of k) (entry p h) ∙ mirrored p k h less)
