-- The kernel text: the commands of LaTeX that are macros here (source2e, files ltplain, ltspace, ltfssini, ltsect, ltlists and ltpage). Each line ends
-- in a line feed.
use Rattle.std.specs.Prelude.{ℕ, List, [], ◌∷◌, codes}

-- its lines
unfoldable pub kernel_lines : List (List ℕ)
kernel_lines =
    codes "\\catcode`\\@=11" ∷
    codes "\\let\\bgroup={\\let\\egroup=}" ∷
    codes "\\def\\makeatletter{\\catcode`\\@=11\\relax}\\def\\makeatother{\\catcode`\\@=12\\relax}" ∷
    codes "\\def~{\\penalty10000\\ }\\def\\^^M{\\ }\\def^^L{\\par}\\def\\space{ }\\def\\nobreak{\\penalty10000 }" ∷
    codes "\\def\\quad{\\hskip1em\\relax}\\def\\qquad{\\hskip2em\\relax}" ∷
    codes "\\chardef\\$=36 \\chardef\\&=38 \\chardef\\%=37 \\chardef\\#=35 \\chardef\\_=95" ∷
    codes "\\chardef\\{=123 \\chardef\\}=125 \\chardef\\textbackslash=92" ∷
    codes "\\def\\ldots{.\\kern.18em.\\kern.18em.\\kern.18em}\\let\\dots\\ldots" ∷
    codes "\\def\\rmfamily{\\@style0 }\\def\\bfseries{\\@style1 }\\def\\itshape{\\@style2 }" ∷
    codes "\\def\\slshape{\\@style3 }\\def\\ttfamily{\\@style4 }\\def\\sffamily{\\@style5 }" ∷
    codes "\\let\\normalfont\\rmfamily\\let\\rm\\rmfamily\\let\\bf\\bfseries\\let\\it\\itshape" ∷
    codes "\\let\\em\\itshape\\let\\tt\\ttfamily" ∷
    codes "\\long\\def\\textrm#1{{\\rmfamily#1}}\\long\\def\\textbf#1{{\\bfseries#1}}" ∷
    codes "\\long\\def\\textit#1{{\\itshape#1\\ifhmode\\/\\fi}}\\long\\def\\texttt#1{{\\ttfamily#1}}" ∷
    codes "\\let\\emph\\textit" ∷
    codes "\\def\\tiny{\\@size0 }\\def\\scriptsize{\\@size1 }\\def\\footnotesize{\\@size2 }" ∷
    codes "\\def\\small{\\@size3 }\\def\\normalsize{\\@size4 }\\def\\large{\\@size5 }" ∷
    codes "\\def\\Large{\\@size6 }\\def\\LARGE{\\@size7 }\\def\\huge{\\@size8 }\\def\\Huge{\\@size9 }" ∷
    codes "\\def\\setlength#1#2{#1 #2\\relax}\\def\\addtolength#1#2{\\advance#1 by #2\\relax}" ∷
    codes "\\def\\newpage{\\par\\vfil\\penalty-10000 }\\let\\clearpage\\newpage" ∷
    codes "\\def\\cleardoublepage{\\clearpage\\ifodd\\value{page}\\else\\hbox{}\\newpage\\fi}" ∷
    codes "\\def\\newline{\\hfil\\penalty-10000 }\\def\\linebreak{\\penalty-10000 }" ∷
    codes "\\def\\nolinebreak{\\penalty10000 }" ∷
    codes "\\def\\pagebreak{\\ifvmode\\penalty-10000 \\else\\vadjust{\\penalty-10000 }\\fi}" ∷
    codes "\\def\\nopagebreak{\\ifvmode\\penalty10000 \\else\\vadjust{\\penalty10000 }\\fi}" ∷
    codes "\\def\\smallskip{\\vskip3pt plus1pt minus1pt\\relax}" ∷
    codes "\\def\\medskip{\\vskip6pt plus2pt minus2pt\\relax}" ∷
    codes "\\def\\bigskip{\\vskip12pt plus4pt minus4pt\\relax}" ∷
    codes "\\def\\centering{\\leftskip0pt plus1fil\\relax\\rightskip\\leftskip" ∷
    codes "\\parfillskip0pt\\relax\\parindent0pt\\relax}" ∷
    codes "\\def\\raggedright{\\rightskip0pt plus1fil\\relax\\parindent0pt\\relax}" ∷
    codes "\\def\\thechapter{\\arabic{chapter}}\\def\\thesection{\\thechapter.\\arabic{section}}" ∷
    codes "\\def\\thesubsection{\\thesection.\\arabic{subsection}}" ∷
    codes "\\def\\thesubsubsection{\\thesubsection.\\arabic{subsubsection}}" ∷
    codes "\\def\\theparagraph{\\thesubsubsection.\\arabic{paragraph}}" ∷
    codes "\\def\\thesubparagraph{\\theparagraph.\\arabic{subparagraph}}" ∷
    codes "\\def\\thefootnote{\\arabic{footnote}}" ∷
    codes "\\def\\theenumi{\\arabic{enumi}}\\def\\theenumii{\\alph{enumii}}" ∷
    codes "\\def\\theenumiii{\\roman{enumiii}}\\def\\theenumiv{\\Alph{enumiv}}" ∷
    codes "\\def\\@chapapp{Chapter}\\def\\contentsname{Contents}" ∷
    codes "\\def\\chapter{\\@head0 }\\def\\section{\\@head1 }\\def\\subsection{\\@head2 }" ∷
    codes "\\def\\subsubsection{\\@head3 }\\def\\paragraph{\\@head4 }\\def\\subparagraph{\\@head5 }" ∷
    codes "\\def\\tableofcontents{\\chapter*{\\contentsname}{\\makeatletter\\@toc}}" ∷
    codes "\\def\\numberline#1{\\hbox to23pt{#1\\hfil}}" ∷
    codes "\\def\\frontmatter{\\clearpage\\@matter0 \\pagenumbering{roman}}" ∷
    codes "\\def\\mainmatter{\\clearpage\\@matter1 \\pagenumbering{arabic}}" ∷
    codes "\\def\\backmatter{\\clearpage\\@matter2 }" ∷
    codes "\\def\\appendix{\\par\\setcounter{chapter}{0}\\setcounter{section}{0}%" ∷
    codes "\\gdef\\@chapapp{Appendix}\\gdef\\thechapter{\\Alph{chapter}}}" ∷
    codes "\\def\\itemize{\\@list0 }\\let\\enditemize\\@endlist" ∷
    codes "\\def\\enumerate{\\@list1 }\\let\\endenumerate\\@endlist" ∷
    codes "\\def\\description{\\@list2 }\\let\\enddescription\\@endlist" ∷
    codes "\\def\\quote{\\@list3 }\\let\\endquote\\@endlist" ∷
    codes "\\def\\quotation{\\@list4 }\\let\\endquotation\\@endlist" ∷
    codes "\\def\\center{\\@list5 }\\let\\endcenter\\@endlist" ∷
    codes "\\def\\flushleft{\\@list6 }\\let\\endflushleft\\@endlist" ∷
    codes "\\def\\flushright{\\@list7 }\\let\\endflushright\\@endlist" ∷
    codes "\\long\\def\\footnote#1{\\leavevmode\\stepcounter{footnote}%" ∷
    codes "\\raise3.6pt\\hbox{\\@size1 \\thefootnote}\\@ins{\\hsize\\textwidth\\leftskip0pt\\relax" ∷
    codes "\\rightskip0pt\\relax\\parindent10pt\\relax\\@size2 \\normalfont" ∷
    codes "\\indent\\raise3pt\\hbox{\\@size0 \\thefootnote}#1\\par}}" ∷
    codes "\\def\\title#1{\\gdef\\@title{#1}}\\def\\author#1{\\gdef\\@author{#1}}" ∷
    codes "\\def\\date#1{\\gdef\\@date{#1}}\\def\\and{, }\\title{}\\author{}\\date{\\today}" ∷
    codes "\\def\\today{\\ifcase\\month\\or January\\or February\\or March\\or April\\or May\\or" ∷
    codes "June\\or July\\or August\\or September\\or October\\or November\\or December\\fi" ∷
    codes "\\space\\number\\day, \\number\\year}" ∷
    codes "\\def\\maketitle{\\begin{center}{\\LARGE\\@title\\par}\\vskip15pt\\relax" ∷
    codes "{\\large\\@author\\par}\\vskip10pt\\relax{\\large\\@date\\par}\\end{center}}" ∷
    codes "\\catcode`\\@=12" ∷ []
